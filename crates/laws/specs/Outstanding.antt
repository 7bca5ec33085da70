-- How many accepted posts of a pair are not collected, by what each event adds or takes away: the
-- counter of a mailbox.
use Rattle.std.specs.Prelude.{ℕ, ◌+◌, ◌-◌, Bool, false, ◌&&◌, not, Option, Some, None, if◌then◌else◌}
use Rattle.history.specs.Setup.{Setup}
use Rattle.history.specs.declared.event.Event.{Event}
use Rattle.history.specs.declared.event.Event.TheVariants.{Post, Collect}
use Rattle.history.specs.declared.reply.Reply.{Reply}
use Rattle.history.specs.Turns.{History, is_ok, is_progress, are_same}
use Rattle.history.specs.Orders.{open_order}
use Rattle.history.specs.Acknowledgements.{is_acked, is_collected}

-- the hart has acknowledged an open order, and the acknowledgement is not collected yet
abbrev pub is_collectable : Setup → History → Option ℕ → ℕ → Bool
is_collectable setup history None hart = false
is_collectable setup history (Some order) hart =
    is_acked setup history order hart && not (is_collected setup history order hart)

-- a Post adds one, and a Collect that finds an acknowledgement to collect takes one away
abbrev pub outstanding_after : Setup → Event → Reply → History → ℕ → ℕ → ℕ → ℕ
outstanding_after setup (Post hart ticket to) reply history sender receiver old =
    if is_ok reply && are_same hart to sender receiver then old + 1 else old
outstanding_after setup (Collect hart ticket from) reply history sender receiver old =
    if is_progress reply && (are_same hart from sender receiver
    && is_collectable setup history (open_order history hart ticket) from) then old - 1 else old
outstanding_after setup _ reply history sender receiver old = old
