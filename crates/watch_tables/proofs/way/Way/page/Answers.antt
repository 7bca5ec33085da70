use Rattle.std.proofs.Common.{◌∙◌, ◌+◌, ◌*◌, ◌/◌, ap}
use Rattle.pte.specs.Address.{Span, level_bytes}
use Rattle.watch_tables.proofs.Numbers.{vpn-around}
use Rattle.watch_tables.proofs.way.Way.page.Goals as goal

pub returns-clause-vpn : goal.returns-clause-vpn
returns-clause-vpn c =
    let around = ap (λ (s : Span). s.base) c.around.ensures ∙ ap (λ k. c.extended.result / level_bytes k * level_bytes k) c.at_level-size.ensures in
    let bytes = c.bytes.ensures ∙ ap level_bytes c.at_level-size.ensures in
    let vpn = ap (λ n. c.args.self.vpn * n + c.from-2.result) c.from.ensures ∙ ap (λ n. c.args.self.vpn * 512 + n) c.from-2.ensures in
    let bits = c.extended.ensures.bits ∙ ap (λ n. n * c.bytes.result) vpn ∙ ap (λ n. (c.args.self.vpn * 512 + c.args.index) * n) bytes in
    vpn-around c.args.scheme c.args.self.level (c.args.self.vpn * 512 + c.args.index) c.extended.result _ c.requires.levels.level around bits
