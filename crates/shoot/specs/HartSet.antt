-- Sets of harts, as a test for each hart in the order of their numbers.
use Rattle.std.specs.Prelude.{ℕ, ◌^◌, Bool, false, List, ◌==◌, ◌&&◌, not, map, slice_get, unwrap_or, if◌then◌else◌}
use Rattle.std.specs.Int.{bit_at}
use Rattle.std.specs.List.{list_all, range_with_len, sum_by}
use Rattle.pte.specs.declared.TheConstants.{MAX_HARTS}

-- the numbers that a hart can have
abbrev pub all_harts : List ℕ
all_harts = range_with_len 0 MAX_HARTS

-- the hart is in the set
abbrev pub contains : List Bool → ℕ → Bool
contains set hart = unwrap_or (slice_get set hart) false

-- the set of the harts that pass a test
abbrev pub harts_where : (ℕ → Bool) → List Bool
harts_where test = map test all_harts

abbrev pub no_harts : List Bool
no_harts = harts_where (λ _. false)

-- bit h of a byte stands for hart h
abbrev pub harts_in : ℕ → List Bool
harts_in byte = harts_where (λ hart. bit_at byte hart == 1)

-- what the bit of a hart adds to a byte, and the byte of a set
abbrev pub bit_of : List Bool → ℕ → ℕ
bit_of set hart = if contains set hart then 2 ^ hart else 0

unfoldable pub byte_of : List Bool → ℕ
byte_of set = sum_by (bit_of set) all_harts

-- the harts of the first set that are not in the second
unfoldable pub difference : List Bool → List Bool → List Bool
difference a b = harts_where (λ hart. contains a hart && not (contains b hart))

-- no hart is in the set
abbrev pub is_empty : List Bool → Bool
is_empty set = list_all (λ member. not member) set
