-- What a machine's tables map now, space by space.
use Rattle.std.specs.Prelude.{ℕ, Bool, true, false, ◌≡◌, ◌+◌, ◌%◌, ◌==◌, ◌&&◌, nat_lt, length, Option, Some, None, is_none, if◌then◌else◌}
use Rattle.pte.specs.Address.{pages_of}
use Rattle.walk.specs.Maps.{Maps}
use Rattle.spaces.specs.Layout.{root_ppn}
use Rattle.tlb.specs.declared.store.Entry.{Entry}
use Rattle.tlb.specs.Mappings.{Mapping}
use Rattle.spaces.specs.Held.{Held, memory_words}
use Rattle.stepcore.specs.State.{State}
use Rattle.stepcore.specs.Answers.{asid_of_space}

-- the ASID of an entry's mappings, or every one
abbrev pub reach_of : Entry → Option ℕ
reach_of e = if e.global then None else Some e.asid

-- the mapping that an entry has of the page of 4 KiB of this number
abbrev pub mapping_of : Entry → ℕ → Mapping
mapping_of e page =
    record {
      asid = reach_of e;
      page = page;
      ppn = e.ppn
          + page % pages_of e.page.size;
      flags = e.flags;
    }

abbrev pub is_of : ℕ → Option ℕ → Bool
is_of asid None = false
is_of asid (Some other) = other == asid

-- pages of an ASID are reached through the space that has it and is not free, those of every ASID
-- through each space
abbrev pub has_asid : State → Option ℕ → ℕ → Bool
has_asid m None space = true
has_asid m (Some asid) space = is_of asid (asid_of_space m space)

abbrev pub is_reached : State → Option ℕ → ℕ → Bool
is_reached m of space = nat_lt space (length m.memory.layout.homes) && has_asid m of space

-- the tables of a space map it so
abbrev pub IsMappedFrom : Held → ℕ → Mapping → Type 0
IsMappedFrom memory space p =
    Maps memory.layout.scheme (memory_words memory) (root_ppn memory.layout space) p.page p.ppn
    p.flags
    (is_none p.asid)

-- there is a space through which it is reached, and each such space maps it so
pub record IsMappedIn (m : State) (p : Mapping) : Type 0 where
  pub some : (space : ℕ) × (is_reached m p.asid space ≡ true)
  pub each : (space : ℕ) → is_reached m p.asid space ≡ true → IsMappedFrom m.memory space p

-- there is a space through which it is reached and that maps it so
pub record IsMappedSomewhere (m : State) (p : Mapping) : Type 0 where
  pub space : ℕ
  pub reached : is_reached m p.asid space ≡ true
  pub maps : IsMappedFrom m.memory space p
