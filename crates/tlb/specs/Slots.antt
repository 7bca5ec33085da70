-- The slots of a TLB and their ages.
use Rattle.std.specs.Prelude.{ℕ, ◌≡◌, ◌-◌, ◌<◌, ◌==◌, not, nat_lt, if◌then◌else◌, List, length}
use Rattle.std.specs.Prelude.{slice_index}
use Rattle.std.specs.List.{prefix_len}
use Rattle.std.specs.Int.{bit_at}
use Rattle.tlb.specs.declared.store.TheConstants.{TLB_SIZE}

-- the slot is in the set
abbrev pub IsIn : ℕ → ℕ → Type 0
IsIn set slot = bit_at set slot ≡ 1

-- the slot that has an age, the first of them
abbrev pub slot_of : List ℕ → ℕ → ℕ
slot_of ages age = prefix_len (λ a. not (a == age)) ages

-- what becomes of an age where one is dropped: those above it come one down, and the dropped one
-- goes to the end
abbrev pub closed_up : ℕ → ℕ → ℕ
closed_up dropped age =
    if age == dropped then TLB_SIZE - 1
    else if nat_lt dropped age then age - 1
    else age

-- the ages of the slots are the numbers below their number, each once
pub record IsRanking (ages : List ℕ) : Type 0 where
  pub length : length ages ≡ TLB_SIZE
  pub each : (age : ℕ) → age < TLB_SIZE → slot_of ages age < TLB_SIZE
  pub below : (slot : ℕ) → slot < TLB_SIZE → slice_index ages slot < TLB_SIZE
  pub once : (slot : ℕ) → slot < TLB_SIZE → slot_of ages (slice_index ages slot) ≡ slot
