use Rattle.std.proofs.Common.{◌≡◌, ◌++◌, slice_get, string_bytes}
use Rattle.lines.specs.Rows.{rows_below}
use Rattle.lines.specs.Sheet.{entry_row}
use Rattle.lines.proofs.hart_rows.push_entries.Given as goal

abbrev pub invariant-loop-age : goal.invariant-loop-age
invariant-loop-age l = string_bytes l.rows ≡ string_bytes l.fn.rows ++ rows_below (λ age. entry_row l.number age (slice_get l.hart.entries age)) l.age
