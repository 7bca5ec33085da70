-- Which words the pointers of an address lead to, level by level from the root (privileged manual
-- 4.3.2, virtual address translation process, steps 1 to 4; 4.4.1 and 4.5.1, the levels of Sv39 and
-- Sv48).
use Rattle.std.specs.Prelude.{ℕ, Bool, ◌≡◌, ◌-◌, ◌<◌, ◌≤◌, Option, Some, IsTrue}
use Rattle.pte.specs.declared.scheme.Scheme.{Scheme}
use Rattle.pte.specs.declared.entry.Kind.TheVariants.{Table}
use Rattle.pte.specs.Address.{top_level, vpn_of}
use Rattle.pte.specs.Entry.{kind_of, is_global}

-- what memory holds: the word at an index of the table at a PPN, or None outside memory
abbrev pub Tables : Type 0
Tables = ℕ → ℕ → Option ℕ

-- the word of a table of a level that an address asks for
abbrev pub word_at : Tables → ℕ → ℕ → ℕ → Option ℕ
word_at words va level table = words table (vpn_of va level)

-- the word is a pointer to this table
pub record PointsTo (word : Option ℕ) (table : ℕ) : Type 0 where
  pub entry : ℕ
  pub global : Bool
  pub is : word ≡ Some entry
  pub kind : kind_of entry ≡ Table table global

-- Leads: there are tables, from the root at the top level to this one at level i, such that for the
-- address the word of each level above i points to the table of the next; and this is the word of
-- the last table. None leads where memory ends.
pub record Leads (scheme : Scheme) (words : Tables) (root va i table : ℕ)
    (word : Option ℕ) : Type 0 where
  pub tables : ℕ → ℕ
  pub level : i ≤ top_level scheme
  pub first : tables (top_level scheme) ≡ root
  pub last : tables i ≡ table
  pub pointers : (j : ℕ) → i < j → j ≤ top_level scheme
      → PointsTo (word_at words va j (tables j)) (tables (j - 1))
  pub here : word ≡ word_at words va i table

-- G stands on the word that leads at level i, or on one that leads above it
pub record IsGlobalAt (scheme : Scheme) (words : Tables) (root va i : ℕ) : Type 0 where
  pub level : ℕ
  pub table : ℕ
  pub entry : ℕ
  pub from : i ≤ level
  pub leads : Leads scheme words root va level table (Some entry)
  pub global : IsTrue (is_global entry)
