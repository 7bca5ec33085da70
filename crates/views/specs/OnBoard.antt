-- What a seat knows of the board it belongs to.
use Rattle.std.specs.Prelude.{◌≡◌, ℕ, ◌≤◌, List, [], Contains}
use mathlib.Core.Option.{some}
use lib.ListN.{get_elem?}
use Rattle.atomic_table.specs.Table.{State}
use Rattle.atomic_table.specs.Seated.{TableId}
use Rattle.pte.specs.declared.scheme.Scheme.{Scheme}
use Rattle.tlb.specs.declared.store.Entry.{Entry}
use Rattle.tlb.specs.Entries.{TlbState}
use Rattle.spaces.specs.declared.configuration.Config.{Config}
use Rattle.spaces.specs.Layout.{layout_of}
use Rattle.spaces.specs.Limits.{MeetsLimits}
use Rattle.spaces.specs.declared.configuration.TheConstants.{MAX_LIVE_FRAMES}
use Rattle.views.specs.declared.view.View.{View}
use Rattle.views.specs.Rule.{board_size, Has, Local, tables_in}
use Rattle.views.specs.Board.{Board}

-- a state of the board that keeps the rule, in which this is the view of its hart's seat
pub record IsOnBoard (v : View) : Type 0 where
  pub state : State ℕ View
  pub stands : Board v.config state
  pub at : get_elem? state.views v.hart ≡ some v

-- and the tables have there all words that the view's last walk read
pub record HasReads (v : View) : Type 0 where
  pub on : IsOnBoard v
  pub has : Has (tables_in (layout_of v.config) on.state.words) v.reads

-- a seat: which table its words are, its number, what it knows of them, and its TLB
pub record SeatState : Type 0 where
  pub table_id : TableId
  pub id : ℕ
  pub view : View
  pub tlb : TlbState

-- with an empty TLB
abbrev pub new_seat : TableId → ℕ → View → Scheme → SeatState
new_seat table id view scheme = record {
  table_id = table;
  id = id;
  view = view;
  tlb = record { scheme = scheme; entries = [] };
}

-- each entry of the TLB is one that the view holds
pub record IsWithin (tlb held : List Entry) : Type 0 where
  pub each : (e : Entry) → Contains tlb e → Contains held e

-- the seat is one of the words of a configuration, and its number is that of its hart
pub record IsFit (z : TableId) (key c : Config) (seat : SeatState) : Type 0 where
  pub limits : MeetsLimits MAX_LIVE_FRAMES c
  pub key_is : key ≡ c
  pub words_are : board_size (layout_of c) ≤ z.words
  pub same : seat.table_id ≡ z
  pub config : seat.view.config ≡ c
  pub local : Local (layout_of c) seat.view
  pub number : seat.id ≡ seat.view.hart
  pub on_board : IsOnBoard seat.view
