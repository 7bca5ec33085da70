use Rattle.counterexamples.proofs.HeadlineFacts.{closed_after, closed_and_taken, closed_from_1}
use Rattle.counterexamples.proofs.of_machines.nothing_is_accepted_after_any_close.Goals as goal

pub returns-clause-after : goal.returns-clause-after
returns-clause-after c = closed_after

pub returns-clause-taken_later : goal.returns-clause-taken_later
returns-clause-taken_later c = closed_and_taken

pub returns-clause-other_direction : goal.returns-clause-other_direction
returns-clause-other_direction c = closed_from_1
