use Rattle.std.proofs.Common.{◌≡◌, string_bytes}
use Rattle.stepcore.specs.State.{hart_at}
use Rattle.lines.specs.Rows.{rows_below}
use Rattle.lines.specs.Sheet.{entry_rows}
use Rattle.lines.proofs.hart_rows.push_tlbs.Given as goal

abbrev pub invariant-loop-number : goal.invariant-loop-number
invariant-loop-number l = string_bytes l.rows ≡ rows_below (λ hart. entry_rows hart (hart_at l.machine hart).entries) l.number
