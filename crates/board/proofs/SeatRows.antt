-- Rows of seats that grow and shrink at their end.
use Rattle.std.proofs.Common.{◌≡◌, ◌∙◌, sym, ap, subst, ℕ, Bool, if◌then◌else◌, ◌+◌, ◌++◌, List, [], ◌∷◌, length, arith}
use Rattle.std.proofs.lemmas.Bool.{ne_eqb}
use Rattle.atomic_table.specs.Seated.{TableId}
use Rattle.spaces.specs.declared.configuration.Config.{Config}
use Rattle.views.specs.Rule.{starting}
use Rattle.views.specs.OnBoard.{IsFit, SeatState}
use Rattle.board.specs.Ports.{next_seat}
use Rattle.board.specs.Seats.{AreSeats, IsNewSeat}

module _ (z : TableId) (key c : Config) where
  renumbered : (x : SeatState) (h k : ℕ) → h ≡ k → IsNewSeat z key c h x → IsNewSeat z key c k x
  renumbered x h k same is = subst (λ n. IsNewSeat z key c n x) same is

  pub seats-more : (from : ℕ) (xs : List SeatState) (x : SeatState) → AreSeats z key c from xs → IsNewSeat z key c (from + length xs) x
      → AreSeats z key c from (xs ++ x ∷ [])
  seats-more from [] x all new = (renumbered x (from + 0) from (omega arith) new, tt)
  seats-more from (y ∷ ys) x all new = (all.0, seats-more (from + 1) ys x all.1 (renumbered x (from + length (y ∷ ys)) (from + 1 + length ys) (omega arith) new))

  pub seats-front : (from : ℕ) (xs : List SeatState) (x : SeatState) → AreSeats z key c from (xs ++ x ∷ []) → AreSeats z key c from xs
  seats-front from [] x all = tt
  seats-front from (y ∷ ys) x all = (all.0, seats-front (from + 1) ys x all.1)

  pub seats-last : (from : ℕ) (xs : List SeatState) (x : SeatState) → AreSeats z key c from (xs ++ x ∷ []) → IsNewSeat z key c (from + length xs) x
  seats-last from [] x all = renumbered x from (from + 0) (omega arith) all.0
  seats-last from (y ∷ ys) x all = renumbered x (from + 1 + length ys) (from + length (y ∷ ys)) (omega arith) (seats-last (from + 1) ys x all.1)

  -- hart 0 alone deals seats
  none-next : (h k : ℕ) → k + 1 ≡ h → next_seat c h ≡ 0
  none-next h k later = ap (λ (b : Bool). if b then c.harts else 0) (ne_eqb h 0 (λ same. absurd (omega (arith, later, same))))

  pub seat-dealt : (seat : SeatState) (h k : ℕ) → k + 1 ≡ h → IsFit z key c seat → seat.view ≡ starting c h 0 → seat.tlb ≡ record { scheme = c.scheme; entries = [] } → IsNewSeat z key c h seat
  seat-dealt seat h k later fit view tlb = record { fit = fit; tlb = tlb; view = view ∙ ap (starting c h) (sym (none-next h k later)) }
