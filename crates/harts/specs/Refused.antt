-- When hart 0 is refused where it unmaps a page and has hart 1 drop it, and what stays of its port.
use Rattle.std.specs.Prelude.{ℕ, ◌≡◌, ◌↔◌, ◌⊎◌, Bool, true, false, [], Some, None, Result, Ok, Err, IfErr, IsOk}
use Rattle.pte.specs.Address.{Span}
use Rattle.shoot.specs.Tickets.{lowest_free}
use Rattle.spaces.specs.declared.places.Place.{Place}
use Rattle.spaces.specs.declared.wishes.Wish.TheVariants.{Unmap}
use Rattle.spaces.specs.declared.faults.MapFault.{MapFault}
use Rattle.spaces.specs.Edits.{Store}
use Rattle.history.specs.Refusal.{refusal_of}
use Rattle.history.specs.declared.refusal.Refusal.{Refusal}
use Rattle.history.specs.declared.refusal.Refusal.TheVariants.{NoSpace, NotHome, WrongHalf, NotMapped, WrongSize, NoTicket, Closed, Full, Empty}
use Rattle.board.specs.Ports.{PortState, inbox_from, outbox_to}
use Rattle.board.specs.Answers.{after_no_post, after_post, is_closed_to, known_room, known_waiting, outbox_refusal}
use Rattle.board.specs.Tables.{after_edit, due_store, edit_answer, has_place}

-- the store of 0 on the page's leaf, or why none is due by the home's own words
abbrev pub unmap_store : PortState → Place → Span → Result Store MapFault
unmap_store zero place page = due_store zero (Unmap place page)

-- what hart 0 answers to the unmapping in both harts, and its port then
abbrev pub unmap_answer : PortState → Place → Span → Result ℕ Refusal
unmap_answer zero place page = edit_answer zero (Unmap place page) 3

abbrev pub after_unmap : PortState → Place → Span → PortState
after_unmap zero place page = after_edit zero (Unmap place page) 3

-- the refusals that there are
abbrev pub may_refuse : Refusal → Bool
may_refuse NoSpace = true
may_refuse NotHome = true
may_refuse WrongHalf = true
may_refuse NotMapped = true
may_refuse WrongSize = true
may_refuse NoTicket = true
may_refuse Closed = true
may_refuse Full = true
may_refuse Empty = true
may_refuse _ = false

-- The answer is each refusal exactly in its case, in the order of the tests: the place does not
-- exist; the home's words make no store due; no ticket is free; the mailbox to hart 1 is closed, or
-- as many as its capacity are outstanding. Else it is `Full` only if hart 0 knew of no free place of
-- its ring, and then `Empty` only if hart 1 knew of no request of hart 0 that waits.
pub record IsRefused (zero one : PortState) (place : Place) (page : Span)
    (answer : Result Bool Refusal) : Type 0 where
  pub no_space : (answer ≡ Err NoSpace) ↔ (has_place zero.setup place ≡ false)
  pub no_store : (fault : MapFault) → (answer ≡ Err (refusal_of fault))
      ↔ (has_place zero.setup place ≡ true) × (unmap_store zero place page ≡ Err fault)
  pub no_ticket : (answer ≡ Err NoTicket)
      ↔ (has_place zero.setup place ≡ true) × IsOk (unmap_store zero place page)
      × (lowest_free zero.tickets ≡ None)
  pub closed : (answer ≡ Err Closed)
      ↔ IsOk (unmap_answer zero place page) × (is_closed_to (outbox_to zero 1) ≡ true)
  pub full : IsOk (unmap_answer zero place page)
      → outbox_refusal (outbox_to zero 1) ≡ Some Full → answer ≡ Err Full
  pub only_full : answer ≡ Err Full
      → IsOk (unmap_answer zero place page) × (is_closed_to (outbox_to zero 1) ≡ false)
      × ((outbox_refusal (outbox_to zero 1) ≡ Some Full) ⊎ (known_room (outbox_to zero 1) ≡ 0))
  pub only_empty : answer ≡ Err Empty
      → IsOk (unmap_answer zero place page) × (outbox_refusal (outbox_to zero 1) ≡ None)
      × (known_waiting (inbox_from one 0) ≡ [])
  pub no_other : IfErr answer (λ refusal. may_refuse refusal ≡ true)

-- Hart 0's port once this was refused: as it was, if the page could not be unmapped. Else the ticket
-- of the unmapping is open; at `Empty` it is posted to hart 1, and the end then knows of `room` free
-- places.
abbrev pub left_unmapped : PortState → ℕ → ℕ → Refusal → PortState
left_unmapped unmapped ticket room Empty = after_post unmapped ticket 1 room
left_unmapped unmapped ticket room _ = after_no_post unmapped ticket 1

abbrev pub left_with : Result ℕ Refusal → PortState → PortState → ℕ → Refusal → PortState
left_with (Ok ticket) unmapped before room refusal = left_unmapped unmapped ticket room refusal
left_with (Err why) unmapped before room refusal = before

abbrev pub left_by : PortState → Place → Span → ℕ → Refusal → PortState
left_by zero place page room refusal =
    left_with (unmap_answer zero place page) (after_unmap zero place page) zero room refusal
