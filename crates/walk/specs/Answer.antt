-- What a walk answers for the word at which it ends
-- (privileged manual 4.3.2, steps 2 to 8; 4.1.8, the exception codes of scause).
use Rattle.std.specs.Prelude.{ℕ, Bool, ◌+◌, ◌*◌, ◌%◌, ◌==◌, ◌&&◌, not, if◌then◌else◌, Option, Some}
use Rattle.std.specs.Prelude.{None, Result, Ok, Err, true, false}
use Rattle.pte.specs.declared.permission.Access.{Access}
use Rattle.pte.specs.declared.permission.Access.TheVariants.{Fetch, Load, Store}
use Rattle.pte.specs.declared.permission.Ctx.{Ctx}
use Rattle.pte.specs.declared.flags.PteFlags.{PteFlags}
use Rattle.pte.specs.declared.address.PageSize.{PageSize}
use Rattle.pte.specs.declared.address.PageSize.TheVariants.{Kib4, Mib2, Gib1, Gib512}
use Rattle.pte.specs.declared.entry.Kind.{Kind}
use Rattle.pte.specs.declared.entry.Kind.TheVariants as kinds
use Rattle.pte.specs.Address.{bytes_of, level_bytes, level_of, level_pages, page_around}
use Rattle.pte.specs.Entry.{kind_of, is_accessed, is_dirty}
use Rattle.pte.specs.Permission.{is_permitted, page_cause_of, access_cause_of}
use Rattle.walk.specs.declared.found_or_trap.Found.{Found}
use Rattle.walk.specs.declared.found_or_trap.Trap.{Trap}
use Rattle.walk.specs.declared.found_or_trap.Why.{Why}
use Rattle.walk.specs.declared.found_or_trap.Why.TheVariants.{Outside, Invalid, Reserved, TooDeep}
use Rattle.walk.specs.declared.found_or_trap.Why.TheVariants.{Denied, Misaligned, NotAccessed}
use Rattle.walk.specs.declared.found_or_trap.Why.TheVariants.{NotDirty}

-- the traps: Outside is an access fault of the access, all others are its page fault
abbrev pub page_trap : Access → Why → Trap
page_trap access why = record { cause = page_cause_of access; why = why }

abbrev pub outside_trap : Access → Trap
outside_trap access = record { cause = access_cause_of access; why = Outside }

-- the size of the page of a leaf at level i
abbrev pub size_at : ℕ → PageSize
size_at i =
    if i == level_of Kib4 then Kib4
    else if i == level_of Mib2 then Mib2
    else if i == level_of Gib1 then Gib1
    else Gib512

-- what a leaf at level i gives for an address: the low bits of the physical address are those of
-- the virtual one
abbrev pub found_at : ℕ → ℕ → Bool → ℕ → PteFlags → Found
found_at va i global ppn flags =
    record {
      pa = ppn * bytes_of Kib4 + va % level_bytes i;
      page = page_around va (size_at i);
      ppn = ppn;
      flags = flags;
      global = global;
    }

abbrev pub is_store : Access → Bool
is_store Fetch = false
is_store Load = false
is_store Store = true

-- a PPN that a leaf at level i may have: the lower bits of a superpage's are 0
abbrev pub is_aligned : ℕ → ℕ → Bool
is_aligned i ppn = ppn % level_pages i == 0

-- A, and for a store D, must be set: the walk faults rather than set them
abbrev pub accessed_fault : Access → PteFlags → Option Why
accessed_fault access flags =
    if not (is_accessed flags.0) then Some NotAccessed
    else if is_store access && not (is_dirty flags.0) then Some NotDirty
    else None

-- what is wrong with a leaf at level i: the first that applies
abbrev pub leaf_fault : Access → Ctx → ℕ → ℕ → PteFlags → Option Why
leaf_fault access ctx i ppn flags =
    if not (is_permitted flags.0 access ctx) then Some Denied
    else if not (is_aligned i ppn) then Some Misaligned
    else accessed_fault access flags

-- what is wrong with the flags of an aligned leaf
abbrev pub flags_fault : Access → Ctx → PteFlags → Option Why
flags_fault access ctx flags =
    if not (is_permitted flags.0 access ctx) then Some Denied else accessed_fault access flags

abbrev pub found_unless : Option Why → Access → Found → Result Found Trap
found_unless None access found = Ok found
found_unless (Some why) access found = Err (page_trap access why)

abbrev pub leaf_answer : ℕ → Access → Ctx → ℕ → Bool → ℕ → PteFlags → Result Found Trap
leaf_answer va access ctx i global ppn flags =
    found_unless (leaf_fault access ctx i ppn flags) access (found_at va i global ppn flags)

abbrev pub kind_answer : ℕ → Access → Ctx → ℕ → Bool → Kind → Result Found Trap
kind_answer va access ctx i global kinds.Invalid = Err (page_trap access Invalid)
kind_answer va access ctx i global kinds.Reserved = Err (page_trap access Reserved)
kind_answer va access ctx i global (kinds.Table ppn g) = Err (page_trap access TooDeep)
kind_answer va access ctx i global (kinds.Leaf ppn flags) =
    leaf_answer va access ctx i global ppn flags

-- the answer where this word leads at level i and nothing leads lower; global if G is on the word
-- or above
abbrev pub answer_at : ℕ → Access → Ctx → ℕ → Bool → Option ℕ → Result Found Trap
answer_at va access ctx i global None = Err (outside_trap access)
answer_at va access ctx i global (Some word) = kind_answer va access ctx i global (kind_of word)
