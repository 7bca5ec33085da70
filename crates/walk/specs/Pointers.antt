-- The tables of an address, computed pointer by pointer.
use Rattle.std.specs.Prelude.{ℕ, Bool, zero, suc, ◌-◌, ◌&&◌, nat_lt, is_some, Option, Some, None}
use Rattle.pte.specs.declared.scheme.Scheme.{Scheme}
use Rattle.pte.specs.declared.entry.Kind.{Kind}
use Rattle.pte.specs.declared.entry.Kind.TheVariants as kinds
use Rattle.pte.specs.Address.{top_level}
use Rattle.pte.specs.Entry.{kind_of}
use Rattle.walk.specs.Leads.{Tables, word_at}

-- the table that an entry of a kind, and a word, points to
abbrev pub pointed_kind : Kind → Option ℕ
pointed_kind kinds.Invalid = None
pointed_kind kinds.Reserved = None
pointed_kind (kinds.Table ppn global) = Some ppn
pointed_kind (kinds.Leaf ppn flags) = None

abbrev pub pointed : Option ℕ → Option ℕ
pointed None = None
pointed (Some word) = pointed_kind (kind_of word)

abbrev pub next_table : Tables → ℕ → ℕ → Option ℕ → Option ℕ
next_table words va level None = None
next_table words va level (Some table) = pointed (word_at words va level table)

-- the table that n pointers of an address lead to from a table of a level, if there are that many
abbrev pub table_below : Tables → ℕ → ℕ → ℕ → ℕ → Option ℕ
table_below words va level table zero = Some table
table_below words va level table (suc n) =
    next_table words va (level - n) (table_below words va level table n)

-- and from the root
abbrev pub table_after : Scheme → Tables → ℕ → ℕ → ℕ → Option ℕ
table_after scheme words root va n = table_below words va (top_level scheme) root n

-- after this many loads of a walk a pointer above level 0 leads
abbrev pub goes_on : Scheme → Tables → ℕ → ℕ → ℕ → Bool
goes_on scheme words root va loads =
    nat_lt loads (top_level scheme) && is_some (table_after scheme words root va (suc loads))
