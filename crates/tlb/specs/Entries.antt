-- The entries of a TLB, a list with the oldest first: which of them an address matches, and what a
-- fill leaves.
use Rattle.std.specs.Prelude.{ℕ, Bool, ◌-◌, ◌≤◌, ◌==◌, ◌&&◌, ◌||◌, Option}
use Rattle.std.specs.Prelude.{List, [], ◌∷◌, ◌++◌, length, drop, find, All}
use Rattle.pte.specs.declared.scheme.Scheme.{Scheme}
pub use Rattle.pte.specs.Address.{holds}
use Rattle.pte.specs.Address.{IsPage}
use Rattle.tlb.specs.declared.store.Entry.{Entry}
use Rattle.tlb.specs.declared.store.TheConstants.{TLB_SIZE}

-- the page has the address, and the entry is global or of the ASID
abbrev pub is_match : ℕ → ℕ → Entry → Bool
is_match asid va e = holds e.page va && (e.global || (e.asid == asid))

-- the oldest entry that matches
abbrev pub first_match : List Entry → ℕ → ℕ → Option Entry
first_match entries asid va = find (is_match asid va) entries

-- the youngest entries, as many as a TLB holds
abbrev pub youngest : List Entry → List Entry
youngest entries = drop (length entries - TLB_SIZE) entries

-- what a fill leaves: the new entry is the youngest, and of one entry too many the oldest goes
abbrev pub filled : List Entry → Entry → List Entry
filled entries e = youngest (entries ++ e ∷ [])

-- a TLB: the scheme of the addresses that it is asked about, and its entries
pub record TlbState : Type 0 where
  pub scheme : Scheme
  pub entries : List Entry

-- what every TLB keeps
pub record IsTlb (entries : List Entry) : Type 0 where
  pub size : length entries ≤ TLB_SIZE
  pub pages : All (λ e. IsPage e.page) entries
