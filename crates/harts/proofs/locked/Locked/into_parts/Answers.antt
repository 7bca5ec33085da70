use Rattle.std.proofs.Common.{map, sym, subst}
use Rattle.harts.specs.Turns.{IsInterleaving}
use Rattle.harts.proofs.locked.Locked.into_parts.Goals as goal

pub returns-clause-woven : goal.returns-clause-woven
returns-clause-woven g c =
    let kept = c.book.inside in
    let tallied = map (λ tally. tally.turns.list) c.args.tallies.items in
    let woven : IsInterleaving tallied kept.book = subst (λ lists. IsInterleaving lists kept.book) c.agree.ensures c.book.invariant.1 in
    subst (IsInterleaving tallied) (sym c.into_parts.ensures.kept) woven
