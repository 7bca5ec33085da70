-- Worked rows of Sv48: the answers of accesses over four frames, as the manual gives them by hand.
use Rattle.std.specs.Prelude.{◌≡◌, ℕ, Bool, true, false, Result, Ok}
use Rattle.pte.specs.declared.permission.Access.{Access}
use Rattle.pte.specs.declared.permission.Access.TheVariants.{Fetch, Load, Store}
use Rattle.pte.specs.declared.address.PageSize.{PageSize}
use Rattle.pte.specs.declared.address.PageSize.TheVariants.{Kib4, Mib2, Gib1, Gib512}
use Rattle.pte.specs.declared.scheme.Scheme.{Scheme}
use Rattle.pte.specs.declared.scheme.Scheme.TheVariants.{Sv39, Sv48}
use Rattle.walk.specs.declared.found_or_trap.Found.{Found}
use Rattle.walk.specs.declared.found_or_trap.Trap.{Trap}
use Rattle.walk.specs.declared.found_or_trap.Why.TheVariants.{NotCanonical, Invalid, Reserved}
use Rattle.walk.specs.declared.found_or_trap.Why.TheVariants.{TooDeep, Outside, Denied, Misaligned}
use Rattle.walk.specs.declared.found_or_trap.Why.TheVariants.{NotDirty}
use Rattle.walk.specs.Frames.{four_frames}
use Rattle.walk.specs.Leads.{Tables}
use Rattle.walk.specs.Outcome.{Outcome}
use Rattle.walk.specs.WorkedRows.{user, trap}

-- from the root at 0x80000 an access by U-mode has this answer and no other
unfoldable pub Gives : Scheme → Tables → ℕ → Access → Result Found Trap → Type 0
Gives scheme words va access answer =
    (given : Result Found Trap) → Outcome scheme words 0x80000 va access user given → given ≡ answer

-- what is found: the physical address, the page, and the leaf's PPN and flags
abbrev pub page : ℕ → ℕ → PageSize → ℕ → ℕ → Bool → Result Found Trap
page pa base size ppn flags global =
    Ok (record {
      pa = pa;
      page = record { base = base; size = size };
      ppn = ppn;
      flags = record { 0 = flags };
      global = global;
    })

-- a pointer to each next table, and a leaf at level 0
abbrev pub words : Tables
words = four_frames 0x20000401 0x20000801 0x20000C01 0x48D14D7

abbrev pub four_loads : Type 0
four_loads =
    Gives Sv48 words 0x8080403ABC Load (page 0x12345ABC 0x8080403000 Kib4 0x12345 0xD6 false)

abbrev pub widest_page : Type 0
widest_page =
    Gives Sv48 (four_frames 0x40000000D7 0x20000801 0x20000C01 0x48D14D7) 0x8080403ABC Load
    (page 0x10080403ABC 0x8000000000 Gib512 0x10000000 0xD6 false)

abbrev pub misaligned_widest_page : Type 0
misaligned_widest_page =
    Gives Sv48 (four_frames 0x40000004D7 0x20000801 0x20000C01 0x48D14D7) 0x8080403ABC Load
    (trap 13 Misaligned)

abbrev pub widest_page_misaligned_by_half : Type 0
widest_page_misaligned_by_half =
    Gives Sv48 (four_frames 0x50000000D7 0x20000801 0x20000C01 0x48D14D7) 0x8080403ABC Load
    (trap 13 Misaligned)

abbrev pub large_page : Type 0
large_page =
    Gives Sv48 (four_frames 0x20000401 0x100000D7 0x20000C01 0x48D14D7) 0x8080403ABC Load
    (page 0x40403ABC 0x8080000000 Gib1 0x40000 0xD6 false)

abbrev pub middle_page : Type 0
middle_page =
    Gives Sv48 (four_frames 0x20000401 0x20000801 0x48800D7 0x48D14D7) 0x8080403ABC Load
    (page 0x12203ABC 0x8080400000 Mib2 0x12200 0xD6 false)

abbrev pub denied_before_misaligned : Type 0
denied_before_misaligned =
    Gives Sv48 (four_frames 0x40000004C7 0x20000801 0x20000C01 0x48D14D7) 0x8080403ABC Load
    (trap 13 Denied)

abbrev pub widest_page_not_dirty : Type 0
widest_page_not_dirty =
    Gives Sv48 (four_frames 0x4000000057 0x20000801 0x20000C01 0x48D14D7) 0x8080403ABC Store
    (trap 15 NotDirty)

abbrev pub global_root_pointer : Type 0
global_root_pointer =
    Gives Sv48 (four_frames 0x20000421 0x20000801 0x20000C01 0x48D14D7) 0x8080403ABC Load
    (page 0x12345ABC 0x8080403000 Kib4 0x12345 0xD6 true)

abbrev pub outside_at_level_2 : Type 0
outside_at_level_2 =
    Gives Sv48 (four_frames 0x20001001 0x20000801 0x20000C01 0x48D14D7) 0x8080403ABC Fetch
    (trap 1 Outside)

abbrev pub too_deep : Type 0
too_deep =
    Gives Sv48 (four_frames 0x20000401 0x20000801 0x20000C01 0x20000401) 0x8080403ABC Load
    (trap 13 TooDeep)

abbrev pub reserved_at_level_2 : Type 0
reserved_at_level_2 =
    Gives Sv48 (four_frames 0x20000401 0x20000811 0x20000C01 0x48D14D7) 0x8080403ABC Load
    (trap 13 Reserved)

-- an address that Sv48 alone has; and those between the halves of Sv48
abbrev pub last_of_the_low_half : Type 0
last_of_the_low_half = Gives Sv48 words 0x7FFFFFFFFFFF Load (trap 13 Invalid)

abbrev pub first_of_the_high_half : Type 0
first_of_the_high_half = Gives Sv48 words 0xFFFF800000000000 Load (trap 13 Invalid)

abbrev pub not_of_sv39 : Type 0
not_of_sv39 = Gives Sv39 words 0x8080403ABC Load (trap 13 NotCanonical)

abbrev pub behind_the_low_half : Type 0
behind_the_low_half = Gives Sv48 words 0x800000000000 Load (trap 13 NotCanonical)

abbrev pub before_the_high_half : Type 0
before_the_high_half = Gives Sv48 words 0xFFFF7FFFFFFFFFFF Load (trap 13 NotCanonical)
