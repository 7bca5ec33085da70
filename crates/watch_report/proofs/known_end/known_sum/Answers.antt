use Rattle.std.proofs.Common.{◌≡◌, ◌==◌, ◌∙◌, List, ℕ, length, ap, sym, false, true}
use Rattle.std.specs.List.{sum}
use Rattle.watch_report.proofs.KnownLemmas.{design_none, design_some}
use Rattle.watch_report.proofs.known_end.known_sum.Goals as goal

pub returns-then-is_empty : goal.returns-then-is_empty
returns-then-is_empty c = λ entries scheme trace verdicts has.
    let none : (length entries == 0) ≡ true = sym (c.is_empty.ensures entries scheme trace verdicts has) ∙ c.if-is_empty.true in
    design_none entries _ none

pub returns : goal.returns
returns c = λ entries scheme trace verdicts has.
    let some : (length entries == 0) ≡ false = sym (c.is_empty.ensures entries scheme trace verdicts has) ∙ c.if-is_empty.false in
    design_some entries _ c.in_ok-all.all some (c.in_ok-all.ensures ∙ ap (λ (ns : List ℕ). sum ns) (c.counts.ensures entries scheme trace verdicts has))
