use Rattle.checks.proofs.NoteLemmas.{ShortSoFar}
use Rattle.checks.proofs.notes.short_maps.Given as goal

abbrev pub invariant-loop-index : goal.invariant-loop-index
invariant-loop-index l = ShortSoFar l.events l.replies l.index l.steps l.short.items
