-- What a TLB holds was filled; once an order is acknowledged, nothing of it is left but what was
-- filled since.
use Rattle.std.proofs.Common.{◌≡◌, ℕ, ◌<◌, Bool, true, false, cond, ◌&&◌, not, List, [], ◌∷◌, length, Option, Some, None, refl, ap, sym, ◌∙◌, subst, eqb, ◌⊎◌, inl, inr, filter}
use Rattle.std.specs.Prelude.{All, Result, Ok, Err}
use Rattle.std.proofs.lemmas.Bool.{and_parts, eqb-true, false≢true, not-true, cases_Bool}
use Rattle.std.proofs.lemmas.List.Elements.{All-nil, All-weaker, All-filter, filter_passes}
use Rattle.pte.specs.declared.address.What.{What}
use Rattle.walk.specs.declared.found_or_trap.Found.{Found}
use Rattle.walk.specs.declared.found_or_trap.Trap.{Trap}
use Rattle.tlb.specs.declared.store.Entry.{Entry}
use Rattle.tlb.specs.Answer.{entry_of}
use Rattle.tlb.specs.Fence.{is_fenced}
use Rattle.tlb.specs.Service.{is_dropped}
use Rattle.tlb.proofs.Keeping.{All-filled}
use Rattle.history.specs.Setup.{Setup}
use Rattle.history.specs.Spaces.{asid_of}
use Rattle.history.specs.declared.event.Event.{Event}
use Rattle.history.specs.declared.event.Event.TheVariants.{Load, Fence, ServeFence, Ack, AckSelf}
use Rattle.history.specs.declared.reply.Reply.{Reply}
use Rattle.history.specs.Turns.{Turn, History, is_ok, is_filled, is_progress}
use Rattle.history.specs.Orders.{open_order, is_order, order_at, what_asked, what_of}
use Rattle.history.specs.Service.{served, is_served as is_serving, what_served}
use Rattle.history.specs.Acknowledgements.{is_acked}
use Rattle.history.specs.Harts.{Walking, walk_of, space_of, outcome_of, with_found, with_fill, entries_of}
use Rattle.history.specs.Due.{Lawful}
use Rattle.history.specs.Occurrences.{Sometime}
use Rattle.laws.specs.Fills.{Fills, FillsAcked}
use Rattle.history.proofs.Splits.{sometime-here, sometime-later}
use Rattle.laws.proofs.Tools.{by_test, or3}
use Rattle.laws.proofs.Accepted.{turn_of, ack_found}
use Rattle.laws.proofs.Orders.{order_stays}
use Rattle.laws.proofs.Posts.{order_is, served_post}
use Rattle.laws.proofs.Acknowledged.{served_is, acked_below, acked_before}
use Rattle.laws.proofs.Serving.{DropsNone, fenced}

-- what holds of each entry, and of one that is filled, holds of each entry after the turn
found_each : (P : Entry → Type 0) (asid : ℕ) (answer : Result Found Trap) (old : List Entry) → All P old → ((found : Found) → answer ≡ Ok found → P (entry_of asid found))
    → All P (with_found asid answer old)
found_each P asid (Ok found) old all new = All-filled P old (entry_of asid found) all (new found refl)
found_each P asid (Err trap) old all new = all

fill_each : (C : Setup) (H : History) (P : Entry → Type 0) (space : ℕ) (walk : Option Walking) (old : List Entry) → All P old
    → ((w : Walking) (found : Found) → walk ≡ Some w → outcome_of C H space w ≡ Ok found → P (entry_of (asid_of C H space) found)) → All P (with_fill C H space walk old)
fill_each C H P space None old all new = all
fill_each C H P space (Some w) old all new = found_each P (asid_of C H space) (outcome_of C H space w) old all (λ found e. new w found refl e)

filter_each : (P : Entry → Type 0) (test : Entry → Bool) (apply : Bool) (old : List Entry) → All P old → All P (cond apply (filter test old) old)
filter_each P test true old all = All-filter test P old all
filter_each P test false old all = all

pub entries_each : (C : Setup) (event : Event) (r : Reply) (H : History) (h : ℕ) (P : Entry → Type 0) → All P (entries_of C H h)
    → ((e : Entry) → Fills C h e (turn_of event r) H → P e) → All P (entries_of C (turn_of event r ∷ H) h)
entries_each C (Load b) r H h P all new =
    by_test (λ v. All P (cond v (with_fill C H (space_of H h) (walk_of H h) (entries_of C H h)) (entries_of C H h))) (is_filled r && eqb b h)
    (λ z. let y = and_parts (is_filled r) (eqb b h) z in
    let bh : b ≡ h = eqb-true b h y.1 in
    fill_each C H P (space_of H h) (walk_of H h) (entries_of C H h) all
    (λ w found is finds. new (entry_of (asid_of C H (space_of H h)) found)
    (record { walk = w; found = found; event = ap Load bh; accepted = y.0; walking = is; finds = finds; is = refl })))
    (λ _. all)
entries_each C (Fence b rs1 rs2) r H h P all new = filter_each P (λ e. not (is_fenced C.layout.scheme rs1 rs2 e)) (is_ok r && eqb b h) (entries_of C H h) all
entries_each C (ServeFence b) r H h P all new = filter_each P (λ e. not (is_dropped (what_served (served C H h)) e)) (is_ok r && eqb b h) (entries_of C H h) all
entries_each C (AckSelf b t) r H h P all new =
    filter_each P (λ e. not (is_dropped (what_of C H (open_order H b t)) e)) (is_progress r && eqb b h) (entries_of C H h) all
entries_each C _ r H h P all new = all

-- each entry was filled
pub entries_filled : (C : Setup) (H : History) (h : ℕ) → All (λ e. Sometime (Fills C h e) H) (entries_of C H h)
entries_filled C [] h = All-nil (λ e. Sometime (Fills C h e) [])
entries_filled C (turn ∷ H) h =
    entries_each C turn.event turn.reply H h (λ e. Sometime (Fills C h e) (turn ∷ H))
    (All-weaker (λ e. Sometime (Fills C h e) H) (λ e. Sometime (Fills C h e) (turn ∷ H)) (λ e s. sometime-later (Fills C h e) turn H s) (entries_of C H h) (entries_filled C H h))
    (λ e f. sometime-here (Fills C h e) turn H f)

-- what an acknowledgement leaves: nothing that its order drops
acknowledged_step : (C : Setup) (event : Event) (r : Reply) (H : History) (k h : ℕ) → Lawful C (turn_of event r ∷ H) → is_acked C H k h ≡ false
    → is_acked C (turn_of event r ∷ H) k h ≡ true → DropsNone (what_asked (order_at C H k)) (entries_of C (turn_of event r ∷ H) h)
acknowledged_step C (Ack b) r H k h l old e =
    elim (or3 (is_ok r) (eqb b h) (is_serving (served C H b) k) (is_acked C H k h) e) [
      | inl n ↦ let x = served_is (served C H b) k n.2 in
          let bh : b ≡ h = eqb-true b h n.1 in
          let none = fenced C H b x.0 l.0 x.1 (ack_found C H b r l.1 n.0) in
          let what : x.0.request.what ≡ what_asked (order_at C H k) = (served_post C H b x.0 l.0 x.1).what ∙ ap (λ j. what_asked (order_at C H j)) x.2 in
          subst (λ (i : ℕ). DropsNone (what_asked (order_at C H k)) (entries_of C H i)) bh (subst (λ (w : What). DropsNone w (entries_of C H b)) what none)
      | inr y ↦ absurd (false≢true (sym old ∙ y))
    ]
acknowledged_step C (AckSelf b t) r H k h l old e =
    elim (or3 (is_progress r) (eqb b h) (is_order (open_order H b t) k) (is_acked C H k h) e) [
      | inl n ↦ let o = order_is (open_order H b t) k n.2 in
          rw (n.0, n.1, o) (filter_passes (λ y. not (is_dropped (what_asked (order_at C H k)) y)) (entries_of C H h))
      | inr y ↦ absurd (false≢true (sym old ∙ y))
    ]
acknowledged_step C _ r H k h l old e = absurd (false≢true (sym old ∙ e))

pub acknowledged : (C : Setup) (turn : Turn) (H : History) (k h : ℕ) → Lawful C (turn ∷ H) → is_acked C H k h ≡ false → is_acked C (turn ∷ H) k h ≡ true
    → DropsNone (what_asked (order_at C H k)) (entries_of C (turn ∷ H) h)
acknowledged C turn H k h l old e = acknowledged_step C turn.event turn.reply H k h l old e

-- once an order is acknowledged, what it drops was filled since
abbrev pub LeftOrFilled : Setup → History → ℕ → ℕ → Entry → Type 0
LeftOrFilled C H k h e = (is_dropped (what_asked (order_at C H k)) e ≡ false) ⊎ Sometime (FillsAcked C k h e) H

left_later : (C : Setup) (turn : Turn) (H : History) (k h : ℕ) → k < length H → (e : Entry) → LeftOrFilled C H k h e → LeftOrFilled C (turn ∷ H) k h e
left_later C turn H k h below e f =
    elim f [
      | inl n ↦ inl (ap (λ o. is_dropped (what_asked o) e) (order_stays C turn H k below) ∙ n)
      | inr s ↦ inr (sometime-later (FillsAcked C k h e) turn H s)
    ]

pub acknowledged_since : (C : Setup) (H : History) (k h : ℕ) → Lawful C H → is_acked C H k h ≡ true → All (LeftOrFilled C H k h) (entries_of C H h)
acknowledged_since C [] k h l e = absurd (false≢true e)
acknowledged_since C (turn ∷ H) k h l e =
    elim (cases_Bool (is_acked C H k h)) [
      | inl y ↦ let below = acked_below C H k h l.0 y in
          entries_each C turn.event turn.reply H h (LeftOrFilled C (turn ∷ H) k h)
          (All-weaker (LeftOrFilled C H k h) (LeftOrFilled C (turn ∷ H) k h) (left_later C turn H k h below) (entries_of C H h) (acknowledged_since C H k h l.0 y))
          (λ x f. inr (sometime-here (FillsAcked C k h x) turn H (y, f)))
      | inr n ↦ let below = acked_before C turn H k h l.0 e in
          All-weaker (λ x. not (is_dropped (what_asked (order_at C H k)) x) ≡ true) (LeftOrFilled C (turn ∷ H) k h)
          (λ x d. left_later C turn H k h below x (inl (not-true (is_dropped (what_asked (order_at C H k)) x) d)))
          (entries_of C (turn ∷ H) h) (acknowledged C turn H k h l n e)
    ]
