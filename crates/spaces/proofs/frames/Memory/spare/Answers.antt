use Rattle.std.proofs.Common.{◌≡◌, ◌∙◌, ◌+◌, ap, sym, length, sum, take, slice_index, arith, rules}
use Rattle.spaces.proofs.Homes.{sum-within}
use Rattle.spaces.proofs.MarkedFrames.{frame-at, spare-found}
use Rattle.spaces.proofs.frames.Memory.spare.Goals as goal

pub returns-in_err-frame-clause-value : goal.returns-in_err-frame-clause-value
returns-in_err-frame-clause-value c =
    let many : c.from-count.result ≡ slice_index c.self.inside.spares.items c.args.hart = search rules in
    let first : c.from.result + c.len.result + c.total.result ≡ c.self.inside.window + length c.self.inside.homes.items + sum (take c.args.hart c.self.inside.spares.items) = search rules in
    let within = sum-within c.self.inside.spares.items c.args.hart in
    c.from_residual-in_err-frame.ensures ∙ ap (frame-at c.self.inside.base) (sym c.in_err-frame.was)
    ∙ spare-found _ c.args.self.now (c.from.result + c.len.result + c.total.result) c.from-count.result c.args.hart c.lowest.result c.self.view_is c.self.invariant.holders
    (omega (arith, first, many, within)) first many c.lowest.ensures

pub returns-clause-value : goal.returns-clause-value
returns-clause-value c =
    let many : c.from-count.result ≡ slice_index c.self.inside.spares.items c.args.hart = search rules in
    let first : c.from.result + c.len.result + c.total.result ≡ c.self.inside.window + length c.self.inside.homes.items + sum (take c.args.hart c.self.inside.spares.items) = search rules in
    let within = sum-within c.self.inside.spares.items c.args.hart in
    ap (frame-at c.self.inside.base) (sym c.in_ok-frame.was)
    ∙ spare-found _ c.args.self.now (c.from.result + c.len.result + c.total.result) c.from-count.result c.args.hart c.lowest.result c.self.view_is c.self.invariant.holders
    (omega (arith, first, many, within)) first many c.lowest.ensures
