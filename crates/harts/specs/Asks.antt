-- What a shootdown in one call does of the port of the hart that unmaps, and when it is refused.
use Rattle.std.specs.Prelude.{ℕ, zero, suc, ◌≡◌, ◌⊎◌, Bool, true, false, List, None, Some, Ok, Err}
use Rattle.pte.specs.Address.{Span}
use Rattle.shoot.specs.HartSet.{contains, harts_in}
use Rattle.spaces.specs.declared.places.Place.{Place}
use Rattle.spaces.specs.declared.wishes.Wish.TheVariants.{Unmap}
use Rattle.history.specs.declared.refusal.Refusal.{Refusal}
use Rattle.history.specs.declared.refusal.Refusal.TheVariants.{Full, NoHart}
use Rattle.board.specs.Answers.{after_ack_self, after_no_post, after_post, known_room, post_refusal}
use Rattle.board.specs.Ports.{PortState, outbox_to}
use Rattle.board.specs.Tables.{after_edit, edit_answer}

-- the refusal of a post to the own hart, which has no mailbox from itself
abbrev pub is_no_hart : Refusal → Bool
is_no_hart NoHart = true
is_no_hart _ = false

-- A hart is asked: the ticket's request was posted to it. The own hart is left out.
abbrev pub Asks : ℕ → ℕ → PortState → PortState → Type 0
Asks ticket to port after =
    ((post_refusal port ticket to ≡ Some NoHart) × (after ≡ port))
    ⊎ ((post_refusal port ticket to ≡ None)
    × (after ≡ after_post port ticket to (known_room (outbox_to after to))))

-- The hart cannot be asked: what refuses the post, or `Full` where the end knows of no free place in
-- its ring. The cell is armed in this case alone.
pub record IsNotAsked (ticket to : ℕ) (port after : PortState) (refusal : Refusal) : Type 0 where
  pub why : (post_refusal port ticket to ≡ Some refusal)
      ⊎ ((post_refusal port ticket to ≡ None) × (refusal ≡ Full)
      × (known_room (outbox_to port to) ≡ 0))
  pub other : is_no_hart refusal ≡ false
  pub after_is : after ≡ after_no_post port ticket to

-- of the harts below a number those of a set are asked, the lowest first
unfoldable pub AsksBelow : ℕ → List Bool → ℕ → PortState → PortState → Type 0
AsksBelow zero named ticket port after = after ≡ port
AsksBelow (suc to) named ticket port after =
    (before : PortState) × AsksBelow to named ticket port before
    × (contains named to ≡ true → Asks ticket to before after)
    × (contains named to ≡ false → after ≡ before)

-- the harts of the set below one of them are asked, and that one cannot be
pub record IsStopped (named : List Bool) (ticket : ℕ) (port after : PortState)
    (refusal : Refusal) : Type 0 where
  pub to : ℕ
  pub is_named : contains named to ≡ true
  pub before : PortState
  pub asked : AsksBelow to named ticket port before
  pub stopped : IsNotAsked ticket to before after refusal

-- the page is unmapped under the ticket, each named hart is asked, and the own hart has acknowledged
pub record IsShotDown (port : PortState) (place : Place) (page : Span) (named ticket : ℕ)
    (after : PortState) : Type 0 where
  pub unmapped : edit_answer port (Unmap place page) named ≡ Ok ticket
  pub asking : PortState
  pub asked : AsksBelow 8 (harts_in named) ticket (after_edit port (Unmap place page) named) asking
  pub after_is : after ≡ after_ack_self asking ticket

-- The page cannot be unmapped, and nothing changes; or it is unmapped, and one of the named harts
-- cannot be asked.
abbrev pub IsNotShotDown : PortState → Place → Span → ℕ → PortState → Refusal → Type 0
IsNotShotDown port place page named after refusal =
    ((edit_answer port (Unmap place page) named ≡ Err refusal) × (after ≡ port))
    ⊎ ((ticket : ℕ) × (edit_answer port (Unmap place page) named ≡ Ok ticket)
    × IsStopped (harts_in named) ticket (after_edit port (Unmap place page) named) after refusal)
