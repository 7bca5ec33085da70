use Rattle.files.proofs.TextLemmas.{EventsSoFar}
use Rattle.files.proofs.run_file.events.Given as goal

abbrev pub invariant-loop-index : goal.invariant-loop-index
invariant-loop-index l = EventsSoFar l.scheme l.harts l.texts l.index l.events.items
