-- Which words point to a table.
use Rattle.std.specs.Prelude.{ℕ, Bool, ◌==◌, List}
use Rattle.std.specs.List.{list_any}
use Rattle.std.specs.declared.cmp.Ordering.{Ordering}
use Rattle.std.specs.Ordering.{nat_cmp, ordering_then}
use Rattle.std.specs.BTreeSet.{contains}
use Rattle.watch_tables.specs.declared.pointers.Pointers.{Pointers}

-- pairs in order: by the first number, then by the second
abbrev pub pair_cmp : ℕ × ℕ → ℕ × ℕ → Ordering
pair_cmp a b = ordering_then (nat_cmp a.0 b.0) (nat_cmp a.1 b.1)

-- the word with this number points to the table
abbrev pub has_pointer : Pointers → ℕ → ℕ → Bool
has_pointer pointers table number = contains pair_cmp pointers.pairs (table, number)

-- some pair has this number
abbrev pub has_number : List (ℕ × ℕ) → ℕ → Bool
has_number pairs number = list_any (λ pair. pair.1 == number) pairs
