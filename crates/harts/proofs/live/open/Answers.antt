use Rattle.std.proofs.Common.{sym, ap, ◌∙◌, length, map}
use Rattle.std.proofs.lemmas.List.{length-map}
use Rattle.std.proofs.lemmas.List.FromFn.{length-range_with_len}
use Rattle.board.specs.Ports.{name_of}
use Rattle.harts.proofs.live.open.Goals as goal

-- the harts of the ports are the numbers below the number of harts
pub returns-clause-count : goal.returns-clause-count
returns-clause-count c =
    let ports = c.in_ok-opened.opened.1.items in
    sym (length-map (map name_of ports) (λ name. name.hart) ∙ length-map ports name_of) ∙ (ap length c.in_ok-opened.ensures.ports.numbered ∙ length-range_with_len 0 c.args.config.now.harts)
