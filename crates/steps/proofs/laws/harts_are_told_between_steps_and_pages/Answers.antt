use Rattle.steps.proofs.MoreHarts.{more_harts, no_step_for_any}
use Rattle.steps.proofs.laws.harts_are_told_between_steps_and_pages.Goals as goal

pub returns : goal.returns
returns c = record { not_step = no_step_for_any; more_harts = more_harts }
