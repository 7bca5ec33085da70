-- Seats that are given up or lent: what the shared words keep of them, and one state with the views
-- of all.
use Rattle.std.specs.Prelude.{◌≡◌, ℕ, true, false, List, [], ◌∷◌, ◌++◌, All, Option, Some, None}
use mathlib.Core.Option.{some}
use lib.ListN.{get_elem?}
use Rattle.atomic_table.specs.Table.{State}
use Rattle.atomic_table.specs.Seated.{TableId}
use Rattle.pte.specs.declared.scheme.Scheme.TheVariants.{Sv39}
use Rattle.spaces.specs.declared.configuration.Config.{Config}
use Rattle.views.specs.declared.view.SeatView.{SeatView}
use Rattle.views.specs.declared.view.View.{View}
use Rattle.views.specs.Rule.{starting}
use Rattle.views.specs.Board.{Board}

-- a seat in use: nothing was gathered with it, nothing is lent to it
abbrev pub in_use : View → SeatView
in_use v = record {
  view = v;
  gathered = [];
  borrowed = None;
  is_given_up = false;
  is_lent = false;
  is_notice = false;
}

-- a hart's seat that may make steps
pub record IsInUse (seat : SeatView) : Type 0 where
  pub hart : seat.is_notice ≡ false
  pub kept : seat.is_given_up ≡ false
  pub free : seat.is_lent ≡ false

-- one that was given up, and one that is lent
abbrev pub given_up : View → SeatView
given_up v = record (in_use v) { is_given_up = true }

abbrev pub lent : View → SeatView
lent v = record (in_use v) { is_lent = true }

-- a notice that this seat is lent, or that none is
abbrev pub no_view : View
no_view = starting (record {
  scheme = Sv39;
  harts = 0;
  spaces = record { items = [] };
  window = 0;
  base = 0;
  spares = record { items = [] };
  capacity = 0;
}) 0 0

abbrev pub notice : Option View → SeatView
notice borrowed = record (in_use no_view) { borrowed = borrowed; is_notice = true }

-- the seat with which one more was gathered
abbrev pub with_gathered : View → SeatView → SeatView
with_gathered v seat = record seat { gathered = v ∷ seat.gathered }

-- the views of all that were gathered with it, the last one first, and then its own
abbrev pub all_views : SeatView → List View
all_views seat = seat.gathered ++ seat.view ∷ []

-- of seats of harts, each view is there that of its hart
abbrev pub StandAt : List View → List SeatView → Type 0
StandAt views seats =
    (j : ℕ) (seat : SeatView) → get_elem? seats j ≡ some seat → seat.is_notice ≡ false
    → get_elem? views seat.view.hart ≡ some seat.view

-- no hart has two seats
abbrev pub AreOneEach : List SeatView → Type 0
AreOneEach seats =
    (i j : ℕ) (seat other : SeatView) → get_elem? seats i ≡ some seat → get_elem? seats j ≡ some other
    → seat.is_notice ≡ false → other.is_notice ≡ false → seat.view.hart ≡ other.view.hart → i ≡ j

-- each of these is the view of a seat that was given up
abbrev pub AreGivenUp : List SeatView → List View → Type 0
AreGivenUp seats views = All (λ v. (j : ℕ) × (get_elem? seats j ≡ some (given_up v))) views

-- what is borrowed is lent, and only once
abbrev pub AreLent : List SeatView → Type 0
AreLent seats =
    (j : ℕ) (seat : SeatView) (v : View) → get_elem? seats j ≡ some seat → seat.borrowed ≡ Some v
    → (i : ℕ) × (get_elem? seats i ≡ some (lent v))

abbrev pub AreLentOnce : List SeatView → Type 0
AreLentOnce seats =
    (i j : ℕ) (seat other : SeatView) (v w : View) → get_elem? seats i ≡ some seat
    → get_elem? seats j ≡ some other → seat.borrowed ≡ Some v → other.borrowed ≡ Some w
    → v.hart ≡ w.hart → i ≡ j

-- What the shared words keep: in a state with the views of all harts, the board's rule; and of
-- seats, that what was gathered was given up, and that what is borrowed is lent.
pub record BoardAndSeats (c : Config) (s : State ℕ SeatView) : Type 0 where
  pub views : List View
  pub board : Board c record { words = s.words; homes = s.homes; views = views }
  pub stand : StandAt views s.views
  pub one_each : AreOneEach s.views
  pub given_up : (j : ℕ) (seat : SeatView) → get_elem? s.views j ≡ some seat
      → AreGivenUp s.views seat.gathered
  pub lent : AreLent s.views
  pub once : AreLentOnce s.views

-- the board keeps its rule in this state, and this is there the view of its hart's seat
pub record StandsIn (state : State ℕ View) (v : View) : Type 0 where
  pub stands : Board v.config state
  pub at : get_elem? state.views v.hart ≡ some v

-- one state of the board in which each of these views stands
pub record StandTogether (views : List View) : Type 0 where
  pub state : State ℕ View
  pub each : All (StandsIn state) views

-- seats that were gathered: which table their words are, and the view of each, the last one first
pub record GatheredState : Type 0 where
  pub table_id : TableId
  pub views : List View
