use Rattle.std.proofs.Common.{◌≡◌, string_bytes}
use Rattle.lines.specs.Rows.{rows_below}
use Rattle.lines.specs.Sheet.{space_row}
use Rattle.lines.proofs.space_rows.push_spaces.Given as goal

abbrev pub invariant-loop-space : goal.invariant-loop-space
invariant-loop-space l = string_bytes l.rows ≡ rows_below (space_row l.machine) l.space
