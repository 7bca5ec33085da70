-- Orders: what an accepted Unmap, Protect, Flush or Retire asks of the harts that it names. An
-- order is known by its number, which is how many turns were before it. Its ticket is the number by
-- which its sender speaks of it while it is open.
use Rattle.std.specs.Prelude.{ℕ, Bool, false, ◌==◌, ◌&&◌, List, [], ◌∷◌, length, Option, Some, None, option_and_then, option_map, unwrap_or, if◌then◌else◌}
use Rattle.pte.specs.Address.{Span}
use Rattle.pte.specs.declared.address.What.{What}
use Rattle.pte.specs.declared.address.What.TheVariants.{PageOf, SpaceOf, All}
use Rattle.history.specs.Setup.{Setup, is_hart}
use Rattle.shoot.specs.HartSet.{harts_in, harts_where}
use Rattle.history.specs.declared.event.Event.{Event}
use Rattle.history.specs.declared.event.Event.TheVariants.{Unmap, Protect, Flush, Retire, Finish}
use Rattle.history.specs.declared.event.Scope.{Scope}
use Rattle.history.specs.declared.event.Scope.TheVariants as scope
use Rattle.history.specs.declared.reply.Reply.{Reply}
use Rattle.history.specs.Turns.{History, is_ok, opened_ticket, are_same}
use Rattle.history.specs.Spaces.{asid_of, asid_in}

-- what an order followed: a page of an ASID (or of every one) was unmapped, or its flags were
-- changed, or nothing was stored. The ASID is the one that the space had then
pub data Cause : Type 0 where
  Unmapped : Option ℕ → Span → Cause
  Protected : Option ℕ → Span → Cause
  Flushed : Cause

-- who opened it under which ticket, which harts it names, what these are to drop, and what it
-- followed
pub record Order : Type 0 where
  pub sender : ℕ
  pub ticket : ℕ
  pub named : List Bool
  pub what : What
  pub cause : Cause

-- what the harts are to drop for a space, or for all
abbrev pub scope_request : Setup → History → Scope → What
scope_request setup history (scope.Space space) = SpaceOf (asid_of setup history space)
scope_request setup history scope.All = All

-- the order that an event opened, if its reply gives a ticket
abbrev pub order_with : ℕ → List Bool → What → Cause → Option ℕ → Option Order
order_with sender named what cause None = None
order_with sender named what cause (Some ticket) =
    Some (record { sender = sender; ticket = ticket; named = named; what = what; cause = cause })

-- what the harts drop for a page is that of its ASID, or of every one; a retirement asks every hart
abbrev pub opened_order : Setup → Event → Reply → History → Option Order
opened_order setup (Unmap hart place page named) reply history =
    order_with hart (harts_in named) (PageOf page (asid_in setup history place))
    (Unmapped (asid_in setup history place) page) (opened_ticket reply)
opened_order setup (Protect hart place page flags named) reply history =
    order_with hart (harts_in named) (PageOf page (asid_in setup history place))
    (Protected (asid_in setup history place) page) (opened_ticket reply)
opened_order setup (Flush hart scope named) reply history =
    order_with hart (harts_in named) (scope_request setup history scope) Flushed
    (opened_ticket reply)
opened_order setup (Retire hart space) reply history =
    order_with hart (harts_where (is_hart setup)) (SpaceOf (asid_of setup history space)) Flushed
    (opened_ticket reply)
opened_order setup _ reply history = None

-- the order at a place of the history
abbrev pub order_or : Option Order → ℕ → ℕ → Option Order → Option Order
order_or None place number old = old
order_or (Some order) place number old = if place == number then Some order else old

abbrev pub order_at : Setup → History → ℕ → Option Order
order_at setup [] order = None
order_at setup (turn ∷ history) order =
    order_or (opened_order setup turn.event turn.reply history) (length history) order
    (order_at setup history order)

-- the hart whose event opens an order, where it is answered by a ticket
abbrev pub opener_of : Event → Option ℕ
opener_of (Unmap hart place page named) = Some hart
opener_of (Protect hart place page flags named) = Some hart
opener_of (Flush hart scope named) = Some hart
opener_of (Retire hart space) = Some hart
opener_of _ = None

-- the open order of a sender under a ticket: the last one opened, until an accepted Finish
abbrev pub held_after : Option ℕ → ℕ → ℕ → ℕ → ℕ → Option ℕ → Option ℕ
held_after None hart sender ticket place old = old
held_after (Some number) hart sender ticket place old =
    if are_same hart number sender ticket then Some place else old

abbrev pub held_by : Option ℕ → Reply → ℕ → ℕ → ℕ → Option ℕ → Option ℕ
held_by None reply order sender ticket old = old
held_by (Some hart) reply order sender ticket old =
    held_after (opened_ticket reply) hart sender ticket order old

abbrev pub open_after : Event → Reply → ℕ → ℕ → ℕ → Option ℕ → Option ℕ
open_after (Finish hart number) reply order sender ticket old =
    if is_ok reply && are_same hart number sender ticket then None else old
open_after event reply order sender ticket old =
    held_by (opener_of event) reply order sender ticket old

abbrev pub open_order : History → ℕ → ℕ → Option ℕ
open_order [] sender ticket = None
open_order (turn ∷ history) sender ticket =
    open_after turn.event turn.reply (length history) sender ticket
    (open_order history sender ticket)

-- the open order is this one
abbrev pub is_order : Option ℕ → ℕ → Bool
is_order number order = unwrap_or (option_map (λ place. place == order) number) false

-- what the order at a place asks
abbrev pub what_asked : Option Order → What
what_asked order = unwrap_or (option_map (λ (x : Order). x.what) order) All

abbrev pub what_of : Setup → History → Option ℕ → What
what_of setup history number = what_asked (option_and_then (order_at setup history) number)
