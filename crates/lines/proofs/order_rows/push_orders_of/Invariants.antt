use Rattle.std.proofs.Common.{◌≡◌, ◌++◌, string_bytes}
use Rattle.shoot.specs.Tickets.{what_at}
use Rattle.lines.specs.Rows.{rows_below}
use Rattle.lines.specs.Sheet.{order_row}
use Rattle.lines.proofs.order_rows.push_orders_of.Given as goal

abbrev pub invariant-loop-ticket : goal.invariant-loop-ticket
invariant-loop-ticket l = string_bytes l.rows ≡ string_bytes l.fn.rows ++ rows_below (λ ticket. order_row l.harts l.hart l.tickets ticket (what_at l.tickets ticket)) l.ticket
