use Rattle.checks.proofs.NoteLemmas.{NotedSoFar}
use Rattle.checks.proofs.notes.notes_on.Given as goal

abbrev pub invariant-loop-index : goal.invariant-loop-index
invariant-loop-index l = NotedSoFar l.numbers l.index l.notes.items
