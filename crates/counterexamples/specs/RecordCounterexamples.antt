-- Orders and posts with which the counterexamples try the definitions of this crate.
use Rattle.std.specs.Prelude.{ℕ, List, Bool}
use Rattle.pte.specs.declared.address.What.{What}
use Rattle.pte.specs.declared.address.What.TheVariants.{All}
use Rattle.history.specs.Orders.{Order, Flushed}
use Rattle.history.specs.Mailboxes.{Sent}

-- an order of hart 0 for everything, under a ticket, to these harts
abbrev pub order_to : ℕ → List Bool → Order
order_to ticket named =
    record { sender = 0; ticket = ticket; named = named; what = All; cause = Flushed }

-- a post of hart 0, of an order under a ticket
abbrev pub post_of : ℕ → ℕ → What → Sent
post_of order ticket what =
    record { sender = 0; order = order; request = record { ticket = ticket; what = what } }
