use Rattle.steps.proofs.MoreHarts.{more_harts_live, more_harts_setup, no_live_step_for_any, no_setup_step_for_any}
use Rattle.steps.proofs.laws.harts_of_live_are_told_between_steps_and_pages.Goals as goal

pub returns : goal.returns
returns c = record { not_step = no_live_step_for_any; more_harts = more_harts_live; setup_not_step = no_setup_step_for_any; setup_more_harts = more_harts_setup }
