-- The leaves at and below a table (privileged manual 4.3.2, virtual address translation process).
use Rattle.std.specs.Prelude.{ℕ, ◌≡◌, ◌+◌, ◌≤◌, ◌↔◌, IsTrue}
use Rattle.pte.specs.declared.scheme.Scheme.{Scheme}
use Rattle.pte.specs.Address.{level_of, vpn_of}
use Rattle.walk.specs.Leads.{Tables}
use Rattle.watch.specs.Holding.{HasLeaf}
use Rattle.watch_tables.specs.declared.leaf.RootLeaf.{RootLeaf}
use Rattle.watch_tables.specs.declared.way.Way.{Way}
use Rattle.watch_tables.specs.Paths.{IsUnchangedSince}
use Rattle.watch_tables.specs.Ways.{vpn_from}

-- the tables of the root have the leaf, and `since` is the least number of records within which the
-- words on its path were stored
pub record IsLeafOf (scheme : Scheme) (words : Tables) (since : ℕ → ℕ → ℕ)
    (x : RootLeaf) : Type 0 where
  pub asid : x.entry.asid ≡ 0
  pub leaf : HasLeaf scheme words x.root x.entry
  pub since_is : (count : ℕ)
      → (x.since ≤ count) ↔ IsUnchangedSince scheme words since x.root x.entry count

-- the leaf stands in the table of the way, or in one below it
pub record IsLeafBelow (scheme : Scheme) (words : Tables) (since : ℕ → ℕ → ℕ) (way : Way)
    (x : RootLeaf) : Type 0 where
  pub root_is : x.root ≡ way.root
  pub leaf : IsLeafOf scheme words since x
  pub level : level_of x.entry.page.size ≤ way.level
  pub vpn : vpn_from scheme (way.level + 1) x.entry.page.base ≡ way.vpn

-- the leaf is the word at this index of the table, or stands below it
pub record IsLeafAt (scheme : Scheme) (words : Tables) (since : ℕ → ℕ → ℕ) (way : Way) (index : ℕ)
    (x : RootLeaf) : Type 0 where
  pub below : IsLeafBelow scheme words since way x
  pub index_is : vpn_of x.entry.page.base way.level ≡ index

-- each leaf at or below an index of the table is global, and each in the table or below it
abbrev pub AreGlobalAt : Scheme → Tables → (ℕ → ℕ → ℕ) → Way → ℕ → Type 0
AreGlobalAt scheme words since way index =
    (x : RootLeaf) → IsLeafAt scheme words since way index x → IsTrue x.entry.global

abbrev pub AreGlobalBelow : Scheme → Tables → (ℕ → ℕ → ℕ) → Way → Type 0
AreGlobalBelow scheme words since way =
    (x : RootLeaf) → IsLeafBelow scheme words since way x → IsTrue x.entry.global
