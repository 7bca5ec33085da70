use Rattle.std.proofs.Common.{◌≡◌, string_bytes}
use Rattle.lines.specs.Rows.{rows_below}
use Rattle.lines.specs.Sheet.{service_rows}
use Rattle.lines.proofs.hart_rows.push_services.Given as goal

abbrev pub invariant-loop-number : goal.invariant-loop-number
invariant-loop-number l = string_bytes l.rows ≡ rows_below (service_rows l.machine) l.number
