-- Whether the tables of a root have an entry, computed load by load.
use Rattle.std.specs.Prelude.{ℕ, zero, suc, Bool, true, false, Option, Some, None}
use Rattle.std.specs.Prelude.{◌+◌, ◌-◌, ◌%◌, ◌==◌, ◌&&◌, ◌||◌, not, nat_le}
use Rattle.pte.specs.declared.scheme.Scheme.{Scheme}
use Rattle.pte.specs.declared.flags.PteFlags.{PteFlags}
use Rattle.pte.specs.declared.entry.Kind.{Kind}
use Rattle.pte.specs.declared.entry.Kind.TheVariants as kinds
use Rattle.pte.specs.Address.{Span, bytes_of, is_canonical, level_of, pages_of, top_level}
use Rattle.pte.specs.Entry.{is_global, is_user, kind_of, may_execute, may_read, may_write}
use Rattle.walk.specs.Leads.{Tables, word_at}
use Rattle.walk.specs.Pointers.{table_after}
use Rattle.tlb.specs.declared.store.Entry.{Entry}
use Rattle.watch.specs.Holding.{Translation}

abbrev pub is_same : Bool → Bool → Bool
is_same true b = b
is_same false b = not b

-- the word that leads at level i
abbrev pub at_table : Tables → ℕ → ℕ → Option ℕ → Option ℕ
at_table words va i None = None
at_table words va i (Some table) = word_at words va i table

abbrev pub word_there : Scheme → Tables → ℕ → ℕ → ℕ → Option ℕ
word_there scheme words root va i =
    at_table words va i (table_after scheme words root va (top_level scheme - i))

abbrev pub is_global_word : Option ℕ → Bool
is_global_word None = false
is_global_word (Some word) = is_global word

-- G is on the word that leads at level i, or on one that leads above it, of n levels
abbrev pub is_global_up : Scheme → Tables → ℕ → ℕ → ℕ → ℕ → Bool
is_global_up scheme words root va i zero = false
is_global_up scheme words root va i (suc n) =
    is_global_word (word_there scheme words root va i)
    || is_global_up scheme words root va (i + 1) n

-- the tables have the entry
abbrev pub is_leaf_kind : Kind → Entry → Bool
is_leaf_kind kinds.Invalid e = false
is_leaf_kind kinds.Reserved e = false
is_leaf_kind (kinds.Table ppn global) e = false
is_leaf_kind (kinds.Leaf ppn flags) e = (ppn == e.ppn) && (flags.0 == e.flags.0)

abbrev pub is_leaf_word : Option ℕ → Entry → Bool
is_leaf_word None e = false
is_leaf_word (Some word) e = is_leaf_kind (kind_of word) e

abbrev pub is_page_of : Scheme → Span → Bool
is_page_of scheme page =
    nat_le (level_of page.size) (top_level scheme)
    && (is_canonical scheme page.base && (page.base % bytes_of page.size == 0))

abbrev pub has_leaf : Scheme → Tables → ℕ → Entry → Bool
has_leaf scheme words root e =
    is_page_of scheme e.page
    && (is_leaf_word (word_there scheme words root e.page.base (level_of e.page.size)) e
    && ((e.ppn % pages_of e.page.size == 0)
    && is_same e.global
    (is_global_up scheme words root e.page.base (level_of e.page.size)
    (top_level scheme + 1 - level_of e.page.size))))

-- the new flags permit what the old ones do
abbrev pub permits : PteFlags → PteFlags → Bool
permits new old =
    is_same (is_user new.0) (is_user old.0)
    && ((not (may_read old.0) || may_read new.0)
    && ((not (may_write old.0) || may_write new.0) && (not (may_execute old.0) || may_execute new.0)))

-- the tables under its root have it with at least its rights
abbrev pub with_flags : Translation → PteFlags → Entry
with_flags x flags = record x.entry { flags = flags }

abbrev pub is_mapped_kind : Scheme → Tables → Translation → Kind → Bool
is_mapped_kind scheme words x kinds.Invalid = false
is_mapped_kind scheme words x kinds.Reserved = false
is_mapped_kind scheme words x (kinds.Table ppn global) = false
is_mapped_kind scheme words x (kinds.Leaf ppn flags) =
    permits flags x.entry.flags && has_leaf scheme words x.root (with_flags x flags)

abbrev pub is_mapped_word : Scheme → Tables → Translation → Option ℕ → Bool
is_mapped_word scheme words x None = false
is_mapped_word scheme words x (Some word) = is_mapped_kind scheme words x (kind_of word)

abbrev pub is_mapped : Scheme → Tables → Translation → Bool
is_mapped scheme words x =
    is_mapped_word scheme words x
    (word_there scheme words x.root x.entry.page.base (level_of x.entry.page.size))
