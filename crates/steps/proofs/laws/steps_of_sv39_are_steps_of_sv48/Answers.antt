use Rattle.steps.proofs.WiderSteps.{wider_step}
use Rattle.steps.proofs.laws.steps_of_sv39_are_steps_of_sv48.Goals as goal

pub returns : goal.returns
returns c = wider_step
