use Rattle.steps.proofs.StepTexts.{live-writes, one_live_step, writes-live}
use Rattle.steps.proofs.laws.live_step_is_written.Goals as goal

pub returns : goal.returns
returns c = record { one = one_live_step; found = λ scheme harts text step. (live-writes scheme harts text step, writes-live scheme harts text step) }
