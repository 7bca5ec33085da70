-- What an open order knows of a hart.
use Rattle.std.specs.Prelude.{ℕ, Bool}
use Rattle.shoot.specs.Tickets.{TicketTable, ticket_acked, ticket_collected, ticket_posted, names}
use Rattle.lines.specs.declared.order_rows.Mark.{Mark}
use Rattle.lines.specs.declared.order_rows.Mark.TheVariants.{Named, Posted, Acknowledged, Collected}

abbrev pub is_marked : TicketTable → ℕ → Mark → ℕ → Bool
is_marked tickets ticket Named hart = names tickets ticket hart
is_marked tickets ticket Posted hart = ticket_posted tickets ticket hart
is_marked tickets ticket Acknowledged hart = ticket_acked tickets ticket hart
is_marked tickets ticket Collected hart = ticket_collected tickets ticket hart
