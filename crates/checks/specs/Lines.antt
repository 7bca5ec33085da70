-- The lines of the faults that are told, and their order.
use Rattle.std.specs.Prelude.{ℕ, ◌-◌, ◌^◌, List, [], ◌++◌, codes, Option, Some, None, IsSortedByKey, string_bytes}
use Rattle.std.specs.Fmt.{decimal}
use Rattle.std.specs.Ordering.{nat_cmp, ordering_then}
use Rattle.std.specs.declared.cmp.Ordering.{Ordering}
use Rattle.checks.specs.declared.printed.Told.{Told}

-- ---- a line

abbrev pub column_text : Option ℕ → List ℕ
column_text None = []
column_text (Some column) = codes ":" ++ decimal column

-- `:LINE:COL`, `:LINE`, or nothing
abbrev pub position_text : Option ℕ → Option ℕ → List ℕ
position_text None column = []
position_text (Some line) column = codes ":" ++ decimal line ++ column_text column

-- the name of the file, the position and what is wrong, without the line's end
abbrev pub told_line : List ℕ → Told → List ℕ
told_line name told =
    name ++ position_text told.line told.column ++ codes ": " ++ string_bytes told.text

-- ---- their order

-- a fault without a line comes after all others
abbrev pub line_or_last : Option ℕ → ℕ
line_or_last None = 2 ^ 64 - 1
line_or_last (Some line) = line

-- one without a column before the others of its line
abbrev pub column_or_first : Option ℕ → ℕ
column_or_first None = 0
column_or_first (Some column) = column

abbrev pub order_of : Told → ℕ × ℕ
order_of told = (line_or_last told.line, column_or_first told.column)

-- by the first number, or else by the second
abbrev pub pair_cmp : ℕ × ℕ → ℕ × ℕ → Ordering
pair_cmp x y = ordering_then (nat_cmp x.0 y.0) (nat_cmp x.1 y.1)

-- by line and column
abbrev pub IsInOrder : List Told → Type 0
IsInOrder told = IsSortedByKey order_of pair_cmp told
