-- A list of items in places, of which some may be empty: their items have gone.
use Rattle.std.specs.Prelude.{ℕ, Bool, not, ◌+◌, ◌*◌, ◌≤◌, ◌&&◌, ◌⊎◌, filter, if◌then◌else◌, length}
use Rattle.std.specs.Prelude.{List, [], ◌∷◌, Option, Some, None}
use Rattle.watch_engine.specs.declared.held.Held.{Held}
use Rattle.watch_engine.specs.State.{is_gone}

abbrev pub is_there : Held → Bool
is_there i = not (is_gone i.state)

-- the items that are there
abbrev pub items_of : List Held → List Held
items_of places = filter is_there places

-- it is there, and the test passes it
abbrev pub has : (Held → Bool) → Held → Bool
has test i = is_there i && test i

-- the place of the first that a test passes, counted from a number on
abbrev pub place_in : (Held → Bool) → ℕ → List Held → Option ℕ
place_in test n [] = None
place_in test n (i ∷ places) = if test i then Some n else place_in test (n + 1) places

-- how many places are empty
abbrev pub count_gone : List Held → ℕ
count_gone places = length (filter (λ i. is_gone i.state) places)

-- few places are empty, or no more than half
abbrev pub AreFewGone : List Held → Type 0
AreFewGone places = (count_gone places ≤ 16) ⊎ (2 * count_gone places ≤ length places)
