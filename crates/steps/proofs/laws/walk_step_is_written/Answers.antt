use Rattle.steps.proofs.ReadingLemmas.{walk-writes, writes-walk}
use Rattle.steps.proofs.StepTexts.{one_walk_step}
use Rattle.steps.proofs.laws.walk_step_is_written.Goals as goal

pub returns : goal.returns
returns c = record { one = one_walk_step; found = λ text step. (walk-writes text step, writes-walk text step) }
