use Rattle.std.proofs.Common.{◌≡◌, ℕ, drop}
use Rattle.std.specs.BTreeMap.{get}
use Rattle.std.specs.Ordering.{nat_cmp}
use Rattle.std.specs.Prelude.{◌||◌, is_some}
use Rattle.watch_causes.specs.Concerned.{AreListed, any_returns}
use Rattle.watch_causes.proofs.reaches.places_by_hart.Given as goal

abbrev pub invariant-loop-at : goal.invariant-loop-at
invariant-loop-at l =
    AreListed l.fences l.moves l.lists
    × ((hart : ℕ) → (is_some (get nat_cmp l.lists hart) || any_returns l.lasts hart (drop l.at l.begun) (drop l.at l.starts)) ≡ any_returns l.lasts hart l.begun l.starts)
