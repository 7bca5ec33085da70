-- Mailboxes: one for each ordered pair of different harts. What was accepted into it and taken out
-- of it, and the statement that its order is kept.
use Rattle.std.specs.Prelude.{ℕ, Bool, false, ◌≡◌, ◌&&◌, ◌||◌, List, [], ◌∷◌, ◌++◌, length, drop, map, Option, Some, None, if◌then◌else◌}
use Rattle.history.specs.Setup.{Setup}
use Rattle.shoot.specs.Request.{Request}
use Rattle.history.specs.declared.event.Event.{Event}
use Rattle.history.specs.declared.event.Event.TheVariants.{Post, Take, Close}
use Rattle.history.specs.declared.reply.Reply.{Reply}
use Rattle.history.specs.Turns.{History, is_ok, taken_request, are_same}
use Rattle.history.specs.Orders.{open_order, order_at, what_asked}

-- an accepted post: who sent it, of which order, and the request
pub record Sent : Type 0 where
  pub sender : ℕ
  pub order : ℕ
  pub request : Request

abbrev pub sent_of : Setup → History → ℕ → ℕ → Option ℕ → List Sent
sent_of setup history sender ticket None = []
sent_of setup history sender ticket (Some number) =
    record {
      sender = sender;
      order = number;
      request = record { ticket = ticket; what = what_asked (order_at setup history number) };
    } ∷ []

-- the accepted posts of a pair, the oldest first
abbrev pub posts_after : Setup → Event → Reply → History → ℕ → ℕ → List Sent → List Sent
posts_after setup (Post hart ticket to) reply history sender receiver old =
    if is_ok reply && are_same hart to sender receiver
    then old ++ sent_of setup history hart ticket (open_order history hart ticket) else old
posts_after setup _ reply history sender receiver old = old

abbrev pub posts : Setup → History → ℕ → ℕ → List Sent
posts setup [] sender receiver = []
posts setup (turn ∷ history) sender receiver =
    posts_after setup turn.event turn.reply history sender receiver
    (posts setup history sender receiver)

-- the accepted requests of a pair, and those that its receiver took, the oldest first
abbrev pub accepted : Setup → History → ℕ → ℕ → List Request
accepted setup history sender receiver =
    map (λ (sent : Sent). sent.request) (posts setup history sender receiver)

abbrev pub taken_after : Event → Reply → ℕ → ℕ → List Request → List Request
taken_after (Take hart from) reply sender receiver old =
    if are_same from hart sender receiver then old ++ taken_request reply else old
taken_after _ reply sender receiver old = old

abbrev pub taken : History → ℕ → ℕ → List Request
taken [] sender receiver = []
taken (turn ∷ history) sender receiver =
    taken_after turn.event turn.reply sender receiver (taken history sender receiver)

-- what waits: the accepted requests but for the first, as many as were taken
abbrev pub waiting : Setup → History → ℕ → ℕ → List Request
waiting setup history sender receiver =
    drop (length (taken history sender receiver)) (accepted setup history sender receiver)

-- a Close of the pair was accepted
abbrev pub closed_after : Event → Reply → ℕ → ℕ → Bool → Bool
closed_after (Close hart to) reply sender receiver old =
    (is_ok reply && are_same hart to sender receiver) || old
closed_after _ reply sender receiver old = old

abbrev pub is_closed : History → ℕ → ℕ → Bool
is_closed [] sender receiver = false
is_closed (turn ∷ history) sender receiver =
    closed_after turn.event turn.reply sender receiver (is_closed history sender receiver)

-- a mailbox in which these requests wait keeps its order: what was accepted is what was taken,
-- followed by what waits
abbrev pub KeepsOrder : Setup → History → ℕ → ℕ → List Request → Type 0
KeepsOrder setup history sender receiver requests =
    accepted setup history sender receiver ≡ taken history sender receiver ++ requests

-- each mailbox does
abbrev pub Mailboxes : Setup → History → Type 0
Mailboxes setup history =
    (sender receiver : ℕ) → KeepsOrder setup history sender receiver
    (waiting setup history sender receiver)
