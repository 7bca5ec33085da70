use Rattle.steps.proofs.WiderSteps.{wider_live_step, wider_setup_step}
use Rattle.steps.proofs.laws.live_steps_of_sv39_are_live_steps_of_sv48.Goals as goal

pub returns : goal.returns
returns c = record { script = wider_live_step; setup = wider_setup_step }
