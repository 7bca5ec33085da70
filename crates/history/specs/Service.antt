-- Service: which accepted post a hart serves, from its Take to its Ack, and whether it has fenced
-- for it.
use Rattle.std.specs.Prelude.{ℕ, Bool, true, false, ◌==◌, ◌&&◌, [], ◌∷◌, length, Option, Some, None, slice_get, option_map, unwrap_or, if◌then◌else◌}
use Rattle.pte.specs.declared.address.What.{What}
use Rattle.pte.specs.declared.address.What.TheVariants.{All}
use Rattle.history.specs.Setup.{Setup}
use Rattle.history.specs.declared.event.Event.{Event}
use Rattle.history.specs.declared.event.Event.TheVariants.{Take, ServeFence, Ack}
use Rattle.history.specs.declared.reply.Reply.{Reply}
use Rattle.history.specs.Turns.{History, is_ok, is_taken}
use Rattle.history.specs.Mailboxes.{Sent, posts, taken}

-- the n-th accepted Take of a pair takes its n-th accepted post
abbrev pub served_after : Setup → Event → Reply → History → ℕ → Option Sent → Option Sent
served_after setup (Take by from) reply history hart old =
    if is_taken reply && (by == hart)
    then slice_get (posts setup history from by) (length (taken history from by)) else old
served_after setup (Ack by) reply history hart old =
    if is_ok reply && (by == hart) then None else old
served_after setup _ reply history hart old = old

abbrev pub served : Setup → History → ℕ → Option Sent
served setup [] hart = None
served setup (turn ∷ history) hart =
    served_after setup turn.event turn.reply history hart (served setup history hart)

-- a ServeFence was accepted since the hart took what it serves
abbrev pub fenced_after : Event → Reply → ℕ → Bool → Bool
fenced_after (Take by from) reply hart old = if is_taken reply && (by == hart) then false else old
fenced_after (ServeFence by) reply hart old = if is_ok reply && (by == hart) then true else old
fenced_after _ reply hart old = old

abbrev pub has_fenced : History → ℕ → Bool
has_fenced [] hart = false
has_fenced (turn ∷ history) hart = fenced_after turn.event turn.reply hart (has_fenced history hart)

abbrev pub is_served : Option Sent → ℕ → Bool
is_served sent order = unwrap_or (option_map (λ (x : Sent). x.order == order) sent) false

abbrev pub what_served : Option Sent → What
what_served None = All
what_served (Some sent) = sent.request.what
