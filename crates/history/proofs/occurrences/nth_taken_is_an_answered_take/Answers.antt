use Rattle.history.proofs.Ordered.{nth_take}
use Rattle.history.proofs.occurrences.nth_taken_is_an_answered_take.Goals as goal

pub returns : goal.returns
returns c = λ H sender receiver n request. nth_take sender receiver n request H
