use Rattle.std.proofs.Common.{◌≡◌, length, string_bytes}
use Rattle.stepcore.specs.State.{tickets_at}
use Rattle.lines.specs.Rows.{rows_below}
use Rattle.lines.specs.Sheet.{order_rows}
use Rattle.lines.proofs.order_rows.push_orders.Given as goal

abbrev pub invariant-loop-hart : goal.invariant-loop-hart
invariant-loop-hart l = string_bytes l.rows ≡ rows_below (λ hart. order_rows (length l.machine.harts) hart (tickets_at l.machine hart)) l.hart
