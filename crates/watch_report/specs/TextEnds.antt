-- Texts that stand one after another: each begins where the one before it ends.
use Rattle.std.specs.Prelude.{ℕ, ◌≡◌, ◌≤◌, ◌<◌, zero, suc, List, [], get_or, length, slice_range}

-- where the text at a place ends, from 1 on; the first one begins at 0
abbrev pub end_at : List ℕ → ℕ → ℕ
end_at ends zero = 0
end_at ends (suc place) = get_or ends place 0

-- the text at a place, from 0 on
unfoldable pub text_at : List ℕ → List ℕ → ℕ → List ℕ
text_at bytes ends place = slice_range bytes (end_at ends place) (end_at ends (suc place))

-- the text at a place, from 1 on; at 0 there is none
abbrev pub text_in : List ℕ → List ℕ → ℕ → List ℕ
text_in bytes ends zero = []
text_in bytes ends (suc place) = text_at bytes ends place

-- texts that end there are that many bytes
pub record AreEnds (ends : List ℕ) (count : ℕ) : Type 0 where
  pub order : (place : ℕ) → place < length ends → end_at ends place ≤ end_at ends (suc place)
  pub last : end_at ends (length ends) ≡ count
