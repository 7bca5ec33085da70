-- The seats of the harts in the shared words.
use Rattle.std.specs.Prelude.{ℕ, ◌+◌, ◌<◌, ◌≡◌, List, [], ◌∷◌, length}
use Rattle.atomic_table.specs.Seated.{TableId}
use Rattle.spaces.specs.declared.configuration.Config.{Config}
use Rattle.views.specs.Rule.{starting}
use Rattle.views.specs.OnBoard.{IsFit, SeatState}
use Rattle.board.specs.Ports.{next_seat}

-- the seat of a hart in the words of a configuration, that has done nothing and has an empty TLB
pub record IsNewSeat (z : TableId) (key c : Config) (hart : ℕ) (seat : SeatState) : Type 0 where
  pub fit : IsFit z key c seat
  pub view : seat.view ≡ starting c hart (next_seat c hart)
  pub tlb : seat.tlb ≡ record { scheme = c.scheme; entries = [] }

-- they are the seats of the harts from this one on
abbrev pub AreSeats : TableId → Config → Config → ℕ → List SeatState → Type 0
AreSeats z key c from [] = Unit {0}
AreSeats z key c from (seat ∷ rest) = IsNewSeat z key c from seat × AreSeats z key c (from + 1) rest

-- a hart in a space holds its own seat, and knows how many of its spare frames are in use
pub record IsSeated (z : TableId) (key c : Config) (seat : SeatState)
    (hart space used : ℕ) : Type 0 where
  pub fit : IsFit z key c seat
  pub hart_is : seat.view.hart ≡ hart
  pub used_is : seat.view.used ≡ used
  pub has_space : space < length c.spaces.items
