-- A history of the harts: their turns, the newest first, each an event with the reply that it got.
use Rattle.std.specs.Prelude.{ℕ, Bool, true, false, ◌==◌, ◌&&◌, List, [], ◌∷◌, Option, Some, None, is_some}
use Rattle.shoot.specs.Request.{Request}
use Rattle.history.specs.declared.event.Event.{Event}
use Rattle.history.specs.declared.reply.Reply.{Reply}
use Rattle.history.specs.declared.reply.Reply.TheVariants as reply

pub record Turn : Type 0 where
  pub event : Event
  pub reply : Reply

abbrev pub History : Type 0
History = List Turn

abbrev pub with_turn : Event → Reply → History → History
with_turn event reply history = record { event = event; reply = reply } ∷ history

-- what a reply says
abbrev pub is_ok : Reply → Bool
is_ok reply.Ok = true
is_ok _ = false

abbrev pub is_more : Reply → Bool
is_more reply.More = true
is_more _ = false

abbrev pub is_filled : Reply → Bool
is_filled (reply.Filled pa) = true
is_filled _ = false

abbrev pub is_leaf : Reply → Bool
is_leaf reply.Leaf = true
is_leaf _ = false

abbrev pub is_table : Reply → Bool
is_table (reply.Table ppn) = true
is_table _ = false

-- the new table is at this PPN
abbrev pub is_table_at : Reply → ℕ → Bool
is_table_at (reply.Table ppn) frame = ppn == frame
is_table_at _ frame = false

-- an edit, a flush or a retirement opened a ticket
abbrev pub opened_ticket : Reply → Option ℕ
opened_ticket (reply.Opened ticket) = Some ticket
opened_ticket _ = None

abbrev pub is_opened : Reply → Bool
is_opened reply = is_some (opened_ticket reply)

abbrev pub is_taken : Reply → Bool
is_taken (reply.Taken request) = true
is_taken _ = false

abbrev pub taken_request : Reply → List Request
taken_request (reply.Taken request) = request ∷ []
taken_request _ = []

-- a ticket's progress was reported: the event was accepted
abbrev pub is_progress : Reply → Bool
is_progress reply.Done = true
is_progress (reply.Waiting harts) = true
is_progress _ = false

-- the numbers a and b are c and d
abbrev pub are_same : ℕ → ℕ → ℕ → ℕ → Bool
are_same a b c d = (a == c) && (b == d)
