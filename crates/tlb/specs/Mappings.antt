-- A TLB as a set of mappings of 4 KiB pages, and which addresses it translates.
use Rattle.std.specs.Prelude.{ℕ, Bool, ◌≡◌, ◌+◌, ◌%◌, ◌⊎◌, ◌==◌, ◌&&◌, ◌||◌}
use Rattle.std.specs.Prelude.{if◌then◌else◌, Option, Some, None, List, Contains}
use Rattle.pte.specs.declared.flags.PteFlags.{PteFlags}
use Rattle.pte.specs.Address.{Span, overlaps, pages_of}
use Rattle.walk.specs.Maps.{page_number, LiesIn}
use Rattle.tlb.specs.declared.store.Entry.{Entry}

-- the mapping of one page of 4 KiB, by its number, for one ASID or, with None, for every one
pub record Mapping : Type 0 where
  pub asid : Option ℕ
  pub page : ℕ
  pub ppn : ℕ
  pub flags : PteFlags

-- the entry has the mapping: the PPN is the entry's and the page's place in the entry's page
pub record IsMappingOf (e : Entry) (m : Mapping) : Type 0 where
  pub asid : m.asid ≡ (if e.global then None else Some e.asid)
  pub page : LiesIn e.page m.page
  pub ppn : m.ppn ≡ e.ppn + m.page % pages_of e.page.size
  pub flags : m.flags ≡ e.flags

-- the set of mappings of a list of entries
abbrev pub IsMappedBy : List Entry → Mapping → Type 0
IsMappedBy entries m = (e : Entry) × Contains entries e × IsMappingOf e m

-- some mapping of the set, for the ASID or for every one, has the page that the address lies in
pub record Translates (set : Mapping → Type 0) (asid va : ℕ) : Type 0 where
  pub mapping : Mapping
  pub member : set mapping
  pub space : (mapping.asid ≡ None) ⊎ (mapping.asid ≡ Some asid)
  pub page : mapping.page ≡ page_number va

-- the entry's page overlaps the page, and the entry is global or of the ASID; with None, whatever
-- its ASID
abbrev pub maps_into : Span → Option ℕ → Entry → Bool
maps_into page None e = overlaps page e.page
maps_into page (Some asid) e = overlaps page e.page && (e.global || (e.asid == asid))
