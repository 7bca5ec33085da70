-- From a ticket that is done to a frame that is free.
use Rattle.std.proofs.Common.{◌≡◌, ◌∙◌, sym, ap, refl, ℕ, [], ◌∷◌, length, get_or}
use Rattle.std.specs.List.{range_with_len}
use Rattle.std.proofs.lemmas.List.FromFn.{length-range_with_len}
use Rattle.pte.specs.Address.{Span}
use Rattle.shoot.specs.HartSet.{contains, harts_in}
use Rattle.history.specs.Setup.{Setup}
use Rattle.spaces.specs.declared.places.Place.{Place}
use Rattle.board.proofs.Unmapping.{done_unmapping_is_gone}
use Rattle.board.specs.Ports.{ArePorts, PortName, PortState, name_of}
use Rattle.atomic_table.specs.Table.{State}
use Rattle.views.specs.declared.view.View.{View}
use Rattle.board.specs.Promises.{HasView, IsDoneClean, IsGone, IsUnmapping, TranslateNone}
use Rattle.views.specs.OnBoard.{IsWithin}
use Rattle.harts.specs.Free.{IsFree}

-- of two ports of one board the first is that of hart 0, and the second that of hart 1
pub harts-of-two : (setup : Setup) (zero one : PortName) → ArePorts setup (zero ∷ one ∷ []) → (zero.hart ≡ 0) × (one.hart ≡ 1)
harts-of-two setup zero one are =
    let two : setup.harts ≡ 2 = sym (ap length are.numbered ∙ length-range_with_len 0 setup.harts) in
    let numbered : (zero.hart ∷ one.hart ∷ []) ≡ range_with_len 0 2 = are.numbered ∙ ap (range_with_len 0) two in
    (ap (λ l. get_or l 0 0) numbered, ap (λ l. get_or l 1 0) numbered)

-- in each state with the view of the hart that unmapped, the page is gone
gone-each : (zero : PortState) (ticket : ℕ) (place : Place) (page : Span) → IsUnmapping zero ticket place page 3 → IsDoneClean zero ticket
    → (state : State ℕ View) → HasView zero state → IsGone zero.view.config state (contains (harts_in 3)) place page
gone-each zero ticket place page unmapping done = (done_unmapping_is_gone zero ticket place page 3 unmapping done).gone

pub freed : (setup : Setup) (before before' zero one : PortState) (ticket : ℕ) (place : Place) (page : Span) → ArePorts setup (name_of before ∷ name_of before' ∷ [])
    → zero.hart ≡ before.hart → IsWithin zero.tlb.entries zero.view.entries → IsUnmapping zero ticket place page 3 → IsDoneClean zero ticket
    → TranslateNone zero.view.config one.tlb.entries place page → IsFree zero one place page
freed setup before before' zero one ticket place page are same within unmapping done other =
    let harts = harts-of-two setup (name_of before) (name_of before') are in
    record {
      now = done.now;
      has_view = done.has_view;
      gone = gone-each zero ticket place page unmapping done;
      own =
          let own-hart : zero.view.hart ≡ 0 = done.has_view.stands.tables.numbered zero.hart zero.view done.has_view.at ∙ (same ∙ harts.0) in
          (gone-each zero ticket place page unmapping done done.now done.has_view).dropped 0 refl zero.hart zero.view done.has_view.at own-hart zero.tlb.entries within;
      other = other;
    }
