-- Which tickets are free, as a mark for each in the order of their numbers.
use Rattle.std.specs.Prelude.{ℕ, Bool, true, List, Option, ◌==◌, map, position, replicate}
use Rattle.std.specs.Int.{bit_at}
use Rattle.std.specs.List.{range_with_len}
use Rattle.shoot.specs.declared.TheConstants.{MAX_TICKETS}

-- bit t of a word is the mark of ticket t
unfoldable pub marked_in : ℕ → List Bool
marked_in bits = map (λ ticket. bit_at bits ticket == 1) (range_with_len 0 MAX_TICKETS)

abbrev pub all_free : List Bool
all_free = replicate MAX_TICKETS true

-- the lowest number that has its mark
abbrev pub lowest_marked : List Bool → Option ℕ
lowest_marked marks = position (λ mark. mark) marks
