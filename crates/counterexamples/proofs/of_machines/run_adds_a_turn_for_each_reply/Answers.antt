use Rattle.counterexamples.proofs.HeadlineFacts.{run_is}
use Rattle.counterexamples.proofs.of_machines.run_adds_a_turn_for_each_reply.Goals as goal

pub returns : goal.returns
returns c = run_is
