use Rattle.std.proofs.Common.{◌≡◌, ◌∙◌, ℕ, List, ◌++◌, ap, arith, string_bytes}
use Rattle.shoot.specs.Tickets.{what_at}
use Rattle.lines.specs.Rows.{rows_below}
use Rattle.lines.specs.Sheet.{order_row, ticket_count}
use Rattle.lines.proofs.CountLemmas.{tickets_are}
use Rattle.lines.proofs.order_rows.push_orders_of.Goals as goal

pub returns : goal.returns
returns c =
    let end : c.loop-ticket.ticket ≡ ticket_count = omega (arith, c.loop-ticket-test.false, c.loop-ticket.auto.ticket-end, tickets_are) in
    let row : ℕ → List ℕ = λ ticket. order_row c.args.harts c.args.hart c.args.tickets.now ticket (what_at c.args.tickets.now ticket) in
    record { ok = c.loop-ticket.invariant ∙ ap (λ n. string_bytes c.args.rows.now ++ rows_below row n) end }
