-- What a store to a word of a table leaves, and what it can change.
use Rattle.std.specs.Prelude.{ℕ, ◌≡◌, ◌≤◌, ◌==◌, ◌&&◌, if◌then◌else◌, Some}
use Rattle.pte.specs.declared.scheme.Scheme.{Scheme}
use Rattle.pte.specs.Address.{vpn_of}
use Rattle.walk.specs.Leads.{Tables, PointsTo, Leads}

-- the memory after a word is stored at an index of a table
abbrev pub stored : Tables → ℕ → ℕ → ℕ → Tables
stored words table index word t n = if (t == table) && (n == index) then Some word else words t n

-- two memories agree on every other word
pub record AgreeBut (old new : Tables) (table index : ℕ) : Type 0 where
  pub elsewhere : (t n : ℕ) → ¬ ((t ≡ table) × (n ≡ index)) → new t n ≡ old t n

-- every pointer of the one memory stands in the other too
pub record KeepsPointers (old new : Tables) : Type 0 where
  pub kept : (t n next : ℕ) → PointsTo (old t n) next → new t n ≡ old t n

-- the path of an address, at level i or above, leads to the word of this index of this table, in
-- both memories
pub record PassesThrough (scheme : Scheme) (old new : Tables)
    (root va i table index : ℕ) : Type 0 where
  pub level : ℕ
  pub from : i ≤ level
  pub asked : vpn_of va level ≡ index
  pub before : Leads scheme old root va level table (old table index)
  pub after : Leads scheme new root va level table (new table index)
