-- Worked rows of the policies for A and D: what a walk makes of the word for 0x80403ABC in a table at
-- 0x80002000, as the manual gives it by hand. The word is at 0x80002018 where the table is of level
-- 0, by bits 20 to 12 of the address, and at 0x80002010 where it is of level 1, by bits 29 to 21.
use Rattle.std.specs.Prelude.{◌≡◌, ℕ, false, Some, None}
use Rattle.pte.specs.declared.permission.Access.{Access}
use Rattle.pte.specs.declared.permission.Access.TheVariants.{Fetch, Load, Store}
use Rattle.pte.specs.declared.address.PageSize.TheVariants.{Kib4}
use Rattle.walk.specs.declared.found_or_trap.Why.{Why}
use Rattle.walk.specs.declared.found_or_trap.Why.TheVariants.{Denied, Misaligned, NotAccessed}
use Rattle.walk.specs.declared.found_or_trap.Why.TheVariants.{NotDirty, Outside, TooDeep}
use Rattle.walk.specs.declared.stepping.AccessedDirty.TheVariants as policy
use Rattle.walk.specs.declared.stepping.Advance.{Advance}
use Rattle.walk.specs.declared.stepping.Advance.TheVariants as advance
use Rattle.walk.specs.Policy.{load_under}
use Rattle.walk.specs.Stage.{Stage}
use Rattle.walk.specs.WorkedRows.{user}

-- a walk by U-mode that waits for the word
abbrev pub waits : Access → ℕ → Stage
waits access level =
    record {
      va = 0x80403ABC;
      access = access;
      ctx = user;
      level = level;
      table = 0x80002;
      global = false;
    }

-- the page at 0x12345000 is granted with these flags, and these bits are to be set
abbrev pub small : ℕ → ℕ → ℕ → Advance
small word flags bits =
    advance.Granted
    (record {
      found =
          record {
            pa = 0x12345ABC;
            page = record { base = 0x80403000; size = Kib4 };
            ppn = 0x12345;
            flags = record { 0 = flags };
            global = false;
          };
      set = record { 0 = bits };
      read = record { pa = 0x80002018; word = word; level = 0 };
    })

abbrev pub trap : ℕ → Why → ℕ → ℕ → ℕ → Advance
trap cause why pa word level =
    advance.Trapped
    (record {
      trap = record { cause = cause; why = why };
      read = Some (record { pa = pa; word = word; level = level });
    })

-- a leaf with V, R, W and U, with A, with D or with both
abbrev pub load_sets_accessed : Type 0
load_sets_accessed =
    load_under policy.Set (waits Load 0) (Some 0x48D1417) ≡ small 0x48D1417 0x56 0x40

abbrev pub store_sets_both : Type 0
store_sets_both =
    load_under policy.Set (waits Store 0) (Some 0x48D1417) ≡ small 0x48D1417 0xD6 0xC0

abbrev pub load_leaves_dirty_clear : Type 0
load_leaves_dirty_clear =
    load_under policy.Set (waits Load 0) (Some 0x48D1457) ≡ small 0x48D1457 0x56 0

abbrev pub store_sets_dirty : Type 0
store_sets_dirty =
    load_under policy.Set (waits Store 0) (Some 0x48D1457) ≡ small 0x48D1457 0xD6 0x80

abbrev pub store_sets_accessed : Type 0
store_sets_accessed =
    load_under policy.Set (waits Store 0) (Some 0x48D1497) ≡ small 0x48D1497 0xD6 0x40

abbrev pub store_finds_both : Type 0
store_finds_both =
    load_under policy.Set (waits Store 0) (Some 0x48D14D7) ≡ small 0x48D14D7 0xD6 0

-- a leaf with V, R, X and U
abbrev pub fetch_sets_accessed : Type 0
fetch_sets_accessed =
    load_under policy.Set (waits Fetch 0) (Some 0x48D141B) ≡ small 0x48D141B 0x5A 0x40

-- what is refused for another reason is refused as ever: no W; and a page of 2 MiB out of line
abbrev pub denied_sets_nothing : Type 0
denied_sets_nothing =
    load_under policy.Set (waits Store 0) (Some 0x48D141B)
    ≡ trap 15 Denied 0x80002018 0x48D141B 0

abbrev pub misaligned_sets_nothing : Type 0
misaligned_sets_nothing =
    load_under policy.Set (waits Load 1) (Some 0x48D1417)
    ≡ trap 13 Misaligned 0x80002010 0x48D1417 1

abbrev pub too_deep : Type 0
too_deep =
    load_under policy.Set (waits Load 0) (Some 0x20000401)
    ≡ trap 13 TooDeep 0x80002018 0x20000401 0

-- the other policy
abbrev pub accessed_traps : Type 0
accessed_traps =
    load_under policy.Trap (waits Load 0) (Some 0x48D1417)
    ≡ trap 13 NotAccessed 0x80002018 0x48D1417 0

abbrev pub dirty_traps : Type 0
dirty_traps =
    load_under policy.Trap (waits Store 0) (Some 0x48D1457)
    ≡ trap 15 NotDirty 0x80002018 0x48D1457 0

-- a pointer, and a word that is not there
abbrev pub pointer_goes_on : Type 0
pointer_goes_on =
    load_under policy.Set (waits Load 1) (Some 0x20000C01)
    ≡ advance.More (record (waits Load 0) { table = 0x80003 })

abbrev pub outside : Type 0
outside =
    load_under policy.Set (waits Store 0) None
    ≡ advance.Trapped (record { trap = record { cause = 7; why = Outside }; read = None })
