-- Which frames are unused, as a mark for the number of each.
use Rattle.std.specs.Prelude.{ℕ, Bool, true, false, ◌≡◌, ◌≤◌, ◌<◌, ◌/◌, ◌%◌, ◌==◌, List, length, slice_get, slice_index, is_none, Option, Some, None}
use Rattle.std.specs.Int.{bit_at}
use Rattle.spaces.specs.declared.places.Place.{Place}
use Rattle.spaces.specs.Held.{held_at}
use Rattle.spaces.specs.declared.configuration.TheConstants.{MAX_FRAMES}

-- bit n % 64 of word n / 64 is the mark of frame n
abbrev pub marked_in : List ℕ → ℕ → Bool
marked_in words n = bit_at (slice_index words (n / 64)) (n % 64) == 1

-- the lowest number that has its mark, from one on and below another
pub record IsLowestMarked (marks : ℕ → Bool) (from to n : ℕ) : Type 0 where
  pub low : from ≤ n
  pub high : n < to
  pub marked : marks n ≡ true
  pub lowest : (m : ℕ) → from ≤ m → m < n → marks m ≡ false

abbrev pub IsLowest : (ℕ → Bool) → ℕ → ℕ → Option ℕ → Type 0
IsLowest marks from to None = (m : ℕ) → from ≤ m → m < to → marks m ≡ false
IsLowest marks from to (Some n) = IsLowestMarked marks from to n

-- the marks are those of the frames that nothing holds
abbrev pub AreMarked : (ℕ → Bool) → List (Option Place) → Type 0
AreMarked marks holders =
    (n : ℕ) → n < length holders → marks n ≡ is_none (held_at (slice_get holders n))

-- the frame of a number is in use for nothing
abbrev pub is_unused_in : List (Option Place) → ℕ → Bool
is_unused_in holders n = is_none (held_at (slice_get holders n))

-- there are no more frames than marks, and the marks are right
pub record IsFrameUse (marks : ℕ → Bool) (holders : List (Option Place)) : Type 0 where
  pub few : length holders ≤ MAX_FRAMES
  pub marked : AreMarked marks holders
