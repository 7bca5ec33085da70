use Rattle.files.proofs.TextLemmas.{StepsSoFar}
use Rattle.files.proofs.walk_file.steps.Given as goal

abbrev pub invariant-loop-index : goal.invariant-loop-index
invariant-loop-index l = StepsSoFar l.texts l.index l.steps.items
