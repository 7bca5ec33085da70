use Rattle.counterexamples.proofs.UsedFacts.{frame_in_use, frame_of_0_by_0, frame_of_0_by_1, frame_of_1_by_0, frame_of_1_by_1}
use Rattle.counterexamples.proofs.of_machines.used_frames_are_of_each_hart_and_home.Goals as goal

pub returns-clause-kept : goal.returns-clause-kept
returns-clause-kept c = frame_in_use

pub returns-clause-own : goal.returns-clause-own
returns-clause-own c = frame_of_0_by_0

pub returns-clause-of_the_other : goal.returns-clause-of_the_other
returns-clause-of_the_other c = frame_of_1_by_0

pub returns-clause-last_of_the_other : goal.returns-clause-last_of_the_other
returns-clause-last_of_the_other c = frame_of_0_by_1

pub returns-clause-last_own : goal.returns-clause-last_own
returns-clause-last_own c = frame_of_1_by_1
