-- When the frame of an unmapped page may be used again.
use Rattle.std.specs.Prelude.{ℕ, ◌≡◌, ◌∷◌, Ok}
use mathlib.Core.List.{IsPrefix}
use Rattle.atomic_table.specs.Table.{State}
use Rattle.pte.specs.Address.{Span}
use Rattle.shoot.specs.HartSet.{contains, harts_in}
use Rattle.shoot.specs.Request.{Request}
use Rattle.spaces.specs.declared.places.Place.{Place}
use Rattle.spaces.specs.declared.wishes.Wish.TheVariants.{Unmap}
use Rattle.views.specs.declared.view.View.{View}
use Rattle.board.specs.Answers.{after_ack_self, after_post, after_serve, known_waiting}
use Rattle.board.specs.Collects.{AreAllCollected, IsCollected}
use Rattle.board.specs.Ports.{PortState, inbox_from}
use Rattle.board.specs.Promises.{HasView, IsGone, TranslateNone}
use Rattle.board.specs.Tables.{page_request}
use Rattle.harts.specs.Refused.{after_unmap, unmap_answer}

-- There is a state of the board with the view of the hart that unmapped, and in each the page is
-- gone from the shared words, and from what both harts hold. So it is of their own TLBs.
pub record IsFree (zero one : PortState) (place : Place) (page : Span) : Type 0 where
  pub now : State ℕ View
  pub has_view : HasView zero now
  pub gone : (state : State ℕ View) → HasView zero state
      → IsGone zero.view.config state (contains (harts_in 3)) place page
  pub own : TranslateNone zero.view.config zero.tlb.entries place page
  pub other : TranslateNone zero.view.config one.tlb.entries place page

-- hart 0's port once it has unmapped the page, posted the ticket to hart 1 and acknowledged it
-- itself; the end then knew of `room` free places
abbrev pub after_asking : PortState → Place → Span → ℕ → ℕ → PortState
after_asking zero place page ticket room =
    after_ack_self (after_post (after_unmap zero place page) ticket 1 room) ticket

-- Both ports once nothing was refused: hart 0 has asked, and looked for acknowledgements; and hart 1
-- has served the oldest request of hart 0 that came through.
pub record HaveMet (zero one after other : PortState) (place : Place) (page : Span) : Type 0 where
  pub ticket : ℕ
  pub unmapped : unmap_answer zero place page ≡ Ok ticket
  pub room : ℕ
  pub looked : IsCollected (after_asking zero place page ticket room) ticket zero.setup.harts after
  pub request : Request
  pub served : other ≡ after_serve one 0 request (known_waiting (inbox_from other 0))
  pub oldest : IsPrefix (known_waiting (inbox_from one 0))
      (request ∷ known_waiting (inbox_from other 0))

-- what hart 0 asks hart 1 to drop, under a ticket
abbrev pub request_for : PortState → Place → Span → ℕ → Request
request_for zero place page ticket =
    record { ticket = ticket; what = page_request zero.setup (Unmap place page) }

-- Hart 0 unmapped the page under this ticket; what hart 1 served is this ticket's request; and each
-- named hart is collected for it.
pub record HaveDropped (zero one after other : PortState) (place : Place) (page : Span) : Type 0 where
  pub ticket : ℕ
  pub unmapped : unmap_answer zero place page ≡ Ok ticket
  pub served : other ≡ after_serve one 0 (request_for zero place page ticket)
      (known_waiting (inbox_from other 0))
  pub collected : AreAllCollected after ticket
