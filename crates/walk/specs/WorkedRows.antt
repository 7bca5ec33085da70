-- Worked rows: the answers of accesses over three frames, as the manual gives them by hand.
use Rattle.std.specs.Prelude.{◌≡◌, ℕ, Bool, true, false, Result, Ok, Err}
use Rattle.pte.specs.declared.permission.Access.{Access}
use Rattle.pte.specs.declared.permission.Access.TheVariants.{Fetch, Load, Store}
use Rattle.pte.specs.declared.permission.Mode.TheVariants.{User, Super}
use Rattle.pte.specs.declared.permission.Ctx.{Ctx}
use Rattle.pte.specs.declared.address.PageSize.TheVariants.{Kib4, Mib2, Gib1}
use Rattle.pte.specs.declared.scheme.Scheme.TheVariants.{Sv39}
use Rattle.walk.specs.declared.found_or_trap.Found.{Found}
use Rattle.walk.specs.declared.found_or_trap.Trap.{Trap}
use Rattle.walk.specs.declared.found_or_trap.Why.{Why}
use Rattle.walk.specs.declared.found_or_trap.Why.TheVariants.{Invalid, Reserved, TooDeep, Outside}
use Rattle.walk.specs.declared.found_or_trap.Why.TheVariants.{Denied, Misaligned, NotAccessed}
use Rattle.walk.specs.declared.found_or_trap.Why.TheVariants.{NotDirty}
use Rattle.walk.specs.Frames.{three_frames}
use Rattle.walk.specs.Outcome.{Outcome}

abbrev pub user : Ctx
user = record { mode = User; sum = false; mxr = false }

abbrev pub with_mxr : Ctx
with_mxr = record { mode = User; sum = false; mxr = true }

abbrev pub supervisor : Ctx
supervisor = record { mode = Super; sum = false; mxr = false }

abbrev pub with_sum : Ctx
with_sum = record { mode = Super; sum = true; mxr = false }

-- from the root at 0x80000 an access of 0x80403ABC has this answer and no other, where the three
-- words are those on its path
unfoldable pub Gives : ℕ → ℕ → ℕ → Access → Ctx → Result Found Trap → Type 0
Gives root middle low access ctx answer =
    (given : Result Found Trap)
    → Outcome Sv39 (three_frames root middle low) 0x80000 0x80403ABC access ctx given
    → given ≡ answer

abbrev pub trap : ℕ → Why → Result Found Trap
trap cause why = Err (record { cause = cause; why = why })

-- the page at 0x12345000, found with these flags
abbrev pub small : ℕ → Bool → Result Found Trap
small flags global =
    Ok (record {
      pa = 0x12345ABC;
      page = record { base = 0x80403000; size = Kib4 };
      ppn = 0x12345;
      flags = record { 0 = flags };
      global = global;
    })

abbrev pub small_page : Type 0
small_page = Gives 0x20000401 0x20000801 0x48D14D7 Load user (small 0xD6 false)

abbrev pub middle_page : Type 0
middle_page =
    Gives 0x20000401 0x48800D7 0x48D14D7 Load user
    (Ok (record {
      pa = 0x12203ABC;
      page = record { base = 0x80400000; size = Mib2 };
      ppn = 0x12200;
      flags = record { 0 = 0xD6 };
      global = false;
    }))

abbrev pub large_page : Type 0
large_page =
    Gives 0x100000D7 0x20000801 0x48D14D7 Load user
    (Ok (record {
      pa = 0x40403ABC;
      page = record { base = 0x80000000; size = Gib1 };
      ppn = 0x40000;
      flags = record { 0 = 0xD6 };
      global = false;
    }))

abbrev pub misaligned : Type 0
misaligned = Gives 0x20000401 0x48804D7 0x48D14D7 Load user (trap 13 Misaligned)

abbrev pub sum_lets_no_fetch : Type 0
sum_lets_no_fetch = Gives 0x20000401 0x20000801 0x48D145B Fetch with_sum (trap 12 Denied)

abbrev pub sum_lets_load : Type 0
sum_lets_load = Gives 0x20000401 0x20000801 0x48D145B Load with_sum (small 0x5A false)

abbrev pub no_sum : Type 0
no_sum = Gives 0x20000401 0x20000801 0x48D145B Load supervisor (trap 13 Denied)

abbrev pub user_fetches : Type 0
user_fetches = Gives 0x20000401 0x20000801 0x48D145B Fetch user (small 0x5A false)

abbrev pub no_mxr : Type 0
no_mxr = Gives 0x20000401 0x20000801 0x48D1459 Load user (trap 13 Denied)

abbrev pub mxr_lets_load : Type 0
mxr_lets_load = Gives 0x20000401 0x20000801 0x48D1459 Load with_mxr (small 0x58 false)

abbrev pub no_store : Type 0
no_store = Gives 0x20000401 0x20000801 0x48D1459 Store user (trap 15 Denied)

abbrev pub not_accessed : Type 0
not_accessed = Gives 0x20000401 0x20000801 0x48D1417 Load user (trap 13 NotAccessed)

abbrev pub denied_first : Type 0
denied_first = Gives 0x20000401 0x20000801 0x48D1417 Fetch user (trap 12 Denied)

abbrev pub clean_page_loads : Type 0
clean_page_loads = Gives 0x20000401 0x20000801 0x48D1457 Load user (small 0x56 false)

abbrev pub not_dirty : Type 0
not_dirty = Gives 0x20000401 0x20000801 0x48D1457 Store user (trap 15 NotDirty)

abbrev pub user_pointer : Type 0
user_pointer = Gives 0x20000411 0x20000801 0x48D14D7 Load user (trap 13 Reserved)

abbrev pub too_deep : Type 0
too_deep = Gives 0x20000401 0x20000801 0x20000401 Load user (trap 13 TooDeep)

abbrev pub outside_load : Type 0
outside_load = Gives 0x20000C01 0x20000801 0x48D14D7 Load user (trap 5 Outside)

abbrev pub outside_store : Type 0
outside_store = Gives 0x20000C01 0x20000801 0x48D14D7 Store user (trap 7 Outside)

abbrev pub outside_fetch : Type 0
outside_fetch = Gives 0x20000C01 0x20000801 0x48D14D7 Fetch user (trap 1 Outside)

abbrev pub high_bit : Type 0
high_bit = Gives 0x20000401 0x20000801 0x80000000048D14D7 Load user (trap 13 Reserved)

abbrev pub write_only : Type 0
write_only = Gives 0x20000401 0x20000801 0x48D14D5 Load user (trap 13 Reserved)

abbrev pub software_bits : Type 0
software_bits = Gives 0x20000401 0x20000801 0x48D17D7 Load user (small 0xD6 false)

abbrev pub global_pointer : Type 0
global_pointer = Gives 0x20000421 0x20000801 0x48D14D7 Load user (small 0xD6 true)

abbrev pub root_to_itself : Type 0
root_to_itself = Gives 0x20000001 0x20000801 0x48D14D7 Load user (trap 13 Invalid)

abbrev pub all_ones : Type 0
all_ones = Gives 0xFFFFFFFFFFFFFFFF 0x20000801 0x48D14D7 Load user (trap 13 Reserved)

abbrev pub all_ones_but_v : Type 0
all_ones_but_v = Gives 0xFFFFFFFFFFFFFFFE 0x20000801 0x48D14D7 Load user (trap 13 Invalid)

abbrev pub highest_table : Type 0
highest_table = Gives 0x3FFFFFFFFFFC01 0x20000801 0x48D14D7 Load user (trap 5 Outside)

abbrev pub accessed_pointer : Type 0
accessed_pointer = Gives 0x20000441 0x20000801 0x48D14D7 Load user (trap 13 Reserved)

abbrev pub dirty_pointer : Type 0
dirty_pointer = Gives 0x20000481 0x20000801 0x48D14D7 Load user (trap 13 Reserved)

abbrev pub write_and_execute : Type 0
write_and_execute = Gives 0x20000401 0x20000801 0x48D14DD Fetch user (trap 12 Reserved)

abbrev pub lowest_high_bit : Type 0
lowest_high_bit = Gives 0x20000401 0x20000801 0x400000048D14D7 Load user (trap 13 Reserved)

abbrev pub software_bits_of_pointer : Type 0
software_bits_of_pointer = Gives 0x20000701 0x20000801 0x48D14D7 Load user (small 0xD6 false)

abbrev pub global_middle_pointer : Type 0
global_middle_pointer = Gives 0x20000401 0x20000821 0x48D14D7 Load user (small 0xD6 true)

abbrev pub global_leaf : Type 0
global_leaf = Gives 0x20000401 0x20000801 0x48D14F7 Load user (small 0xF6 true)

abbrev pub supervisor_page : Type 0
supervisor_page = Gives 0x20000401 0x20000801 0x48D14CF Load user (trap 13 Denied)

abbrev pub supervisor_fetches : Type 0
supervisor_fetches = Gives 0x20000401 0x20000801 0x48D14CF Fetch supervisor (small 0xCE false)

abbrev pub sum_lets_store : Type 0
sum_lets_store = Gives 0x20000401 0x20000801 0x48D14D7 Store with_sum (small 0xD6 false)

abbrev pub denied_before_misaligned : Type 0
denied_before_misaligned = Gives 0x20000401 0x48804C7 0x48D14D7 Load user (trap 13 Denied)

abbrev pub misaligned_before_accessed : Type 0
misaligned_before_accessed = Gives 0x20000401 0x4880417 0x48D14D7 Load user (trap 13 Misaligned)

abbrev pub misaligned_before_dirty : Type 0
misaligned_before_dirty = Gives 0x20000401 0x4880457 0x48D14D7 Store user (trap 15 Misaligned)

abbrev pub misaligned_by_half : Type 0
misaligned_by_half = Gives 0x20000401 0x48C00D7 0x48D14D7 Load user (trap 13 Misaligned)

abbrev pub misaligned_large_page : Type 0
misaligned_large_page = Gives 0x180000D7 0x20000801 0x48D14D7 Load user (trap 13 Misaligned)

abbrev pub accessed_before_dirty : Type 0
accessed_before_dirty = Gives 0x20000401 0x20000801 0x48D1417 Store user (trap 15 NotAccessed)

abbrev pub dirty_alone : Type 0
dirty_alone = Gives 0x20000401 0x20000801 0x48D1497 Load user (trap 13 NotAccessed)

abbrev pub fetch_not_accessed : Type 0
fetch_not_accessed = Gives 0x20000401 0x20000801 0x48D141B Fetch user (trap 12 NotAccessed)
