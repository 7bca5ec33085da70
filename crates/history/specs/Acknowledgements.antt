-- How far an order is with each hart: posted to it, acknowledged by it, and the acknowledgement
-- collected.
use Rattle.std.specs.Prelude.{ℕ, ◌+◌, Bool, false, ◌==◌, ◌&&◌, ◌||◌, not, List, [], ◌∷◌, if◌then◌else◌}
use Rattle.history.specs.Setup.{Setup}
use Rattle.history.specs.declared.event.Event.{Event}
use Rattle.history.specs.declared.event.Event.TheVariants.{Post, Ack, AckSelf, Collect}
use Rattle.history.specs.declared.reply.Reply.{Reply}
use Rattle.history.specs.Turns.{History, is_ok, is_progress}
use Rattle.history.specs.Orders.{open_order, is_order}
use Rattle.history.specs.Mailboxes.{Sent, posts}
use Rattle.history.specs.Service.{served, is_served}

-- a Post of the order's ticket to the hart was accepted while the order was open
abbrev pub posted_after : Event → Reply → History → ℕ → ℕ → Bool → Bool
posted_after (Post sender ticket to) reply history order hart old =
    (is_ok reply && ((to == hart) && is_order (open_order history sender ticket) order)) || old
posted_after _ reply history order hart old = old

abbrev pub is_posted : History → ℕ → ℕ → Bool
is_posted [] order hart = false
is_posted (turn ∷ history) order hart =
    posted_after turn.event turn.reply history order hart (is_posted history order hart)

-- an Ack by the hart was accepted while it served the order, or an AckSelf of the order's ticket by
-- the hart, its sender, while it was open
abbrev pub acked_after : Setup → Event → Reply → History → ℕ → ℕ → Bool → Bool
acked_after setup (Ack by) reply history order hart old =
    (is_ok reply && ((by == hart) && is_served (served setup history by) order)) || old
acked_after setup (AckSelf by ticket) reply history order hart old =
    (is_progress reply && ((by == hart) && is_order (open_order history by ticket) order)) || old
acked_after setup _ reply history order hart old = old

abbrev pub is_acked : Setup → History → ℕ → ℕ → Bool
is_acked setup [] order hart = false
is_acked setup (turn ∷ history) order hart =
    acked_after setup turn.event turn.reply history order hart (is_acked setup history order hart)

-- a Collect from the hart was accepted once it had acknowledged the open order; its sender's own
-- acknowledgement counts at once
abbrev pub collected_after : Setup → Event → Reply → History → ℕ → ℕ → Bool → Bool
collected_after setup (AckSelf by ticket) reply history order hart old =
    (is_progress reply && ((by == hart) && is_order (open_order history by ticket) order)) || old
collected_after setup (Collect sender ticket from) reply history order hart old =
    (is_progress reply && ((from == hart)
    && (is_order (open_order history sender ticket) order && is_acked setup history order hart)))
    || old
collected_after setup _ reply history order hart old = old

abbrev pub is_collected : Setup → History → ℕ → ℕ → Bool
is_collected setup [] order hart = false
is_collected setup (turn ∷ history) order hart =
    collected_after setup turn.event turn.reply history order hart
    (is_collected setup history order hart)

-- how many members of a list pass a test
abbrev pub count_where : {A : Type 0} → (A → Bool) → List A → ℕ
count_where test [] = 0
count_where test (x ∷ xs) = (if test x then 1 else 0) + count_where test xs

-- how many orders are posted from the sender to the receiver and not collected from it
abbrev pub outstanding : Setup → History → ℕ → ℕ → ℕ
outstanding setup history sender receiver =
    count_where (λ (sent : Sent). not (is_collected setup history sent.order receiver))
    (posts setup history sender receiver)
