use Rattle.steps.proofs.StepTexts.{one_setup_step, setup-writes, writes-setup}
use Rattle.steps.proofs.laws.setup_step_is_written.Goals as goal

pub returns : goal.returns
returns c = record { one = one_setup_step; found = λ scheme harts text hart step. (setup-writes scheme harts text hart step, writes-setup scheme harts text hart step) }
