use Rattle.std.proofs.Common.{◌≡◌, ◌++◌, drop}
use Rattle.watch_causes.specs.Concerned.{places_from, places_of}
use Rattle.watch_causes.proofs.concerned.places_of.Given as goal

abbrev pub invariant-loop-at : goal.invariant-loop-at
invariant-loop-at l = l.places.items ++ places_from l.fences l.hart l.at (drop l.at l.moves) ≡ places_of l.fences l.hart l.moves
