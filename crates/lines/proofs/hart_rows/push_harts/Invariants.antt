use Rattle.std.proofs.Common.{◌≡◌, string_bytes}
use Rattle.lines.specs.Rows.{rows_below}
use Rattle.lines.specs.Sheet.{hart_row}
use Rattle.lines.proofs.hart_rows.push_harts.Given as goal

abbrev pub invariant-loop-number : goal.invariant-loop-number
invariant-loop-number l = string_bytes l.rows ≡ rows_below (hart_row l.machine) l.number
