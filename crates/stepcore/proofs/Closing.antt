-- An order is open until each hart that it names is collected.
use Rattle.std.proofs.Common.{◌≡◌, ℕ, ◌<◌, ◌⊎◌, Bool, true, false, cond, not, List, [], ◌∷◌, length, Option, Some, None, refl, ap, sym, ◌∙◌, subst, inl, inr, arith, ◌&&◌}
use Rattle.std.proofs.lemmas.Bool.{false≢true}
use Rattle.pte.specs.declared.address.What.{What}
use Rattle.shoot.specs.HartSet.{is_empty}
use Rattle.shoot.proofs.HartSets.{by_test, where_agree}
use Rattle.history.specs.Setup.{Setup}
use Rattle.history.specs.declared.event.Event.{Event}
use Rattle.history.specs.declared.event.Event.TheVariants.{Unmap, Protect, Flush, Retire}
use Rattle.history.specs.declared.reply.Reply.{Reply}
use Rattle.history.specs.Turns.{Turn, History, are_same}
use Rattle.history.specs.Orders.{Order, Cause, order_with, opened_order, order_at, held_after, open_after, open_order, is_order}
use Rattle.history.specs.Acknowledgements.{is_collected}
use Rattle.history.specs.Due.{due, names, is_done, Lawful}
use Rattle.history.proofs.Occurred.{same_from, is_order_of, collected_stays}
use Rattle.history.proofs.OpenOrders.{order_cases}
use Rattle.laws.specs.Orders.{Finishes}
use Rattle.laws.proofs.Accepted.{turn_of}
use Rattle.laws.proofs.Live.{finished_collected}
use Rattle.laws.proofs.Orders.{known, order_stays, open_cases, open_stays}
use Rattle.laws.proofs.Posts.{order_is}
use Rattle.stepcore.proofs.Tools.{both_ways}

-- a new order is open
held_now : (number : Option ℕ) (hart : ℕ) (named : List Bool) (what : What) (cause : Cause) (order : Order) (place : ℕ) (old : Option ℕ)
    → order_with hart named what cause number ≡ Some order → held_after number hart order.sender order.ticket place old ≡ Some place
held_now None hart named what cause order place old e = absurd (cc (e))
held_now (Some n) hart named what cause order place old e =
    let made : record { sender = hart; ticket = n; named = named; what = what; cause = cause } ≡ order = cc (e) in
    subst (λ (o : Order). cond (are_same hart n o.sender o.ticket) (Some place) old ≡ Some place) made (ap (λ v. cond v (Some place) old) (same_from hart n))

open_now : (C : Setup) (event : Event) (r : Reply) (H : History) (order : Order) (place : ℕ) (old : Option ℕ) → opened_order C event r H ≡ Some order
    → open_after event r place order.sender order.ticket old ≡ Some place
open_now C (Unmap hart at page named) r H order place old e = held_now _ hart _ _ _ order place old e
open_now C (Protect hart at page flags named) r H order place old e = held_now _ hart _ _ _ order place old e
open_now C (Flush hart scope named) r H order place old e = held_now _ hart _ _ _ order place old e
open_now C (Retire hart space) r H order place old e = held_now _ hart _ _ _ order place old e
open_now C _ r H order place old e = absurd (cc (e))

-- each hart that the order names is collected
abbrev AreCollected : Setup → History → ℕ → Type 0
AreCollected C H k = (h : ℕ) → names (order_at C H k) h ≡ true → is_collected C H k h ≡ true

collected_later : (C : Setup) (turn : Turn) (H : History) (k : ℕ) → k < length H → AreCollected C H k → AreCollected C (turn ∷ H) k
collected_later C turn H k below all h named =
    collected_stays C turn.event turn.reply H k h (is_collected C H k h) (all h (ap (λ (o : Option Order). names o h) (sym (order_stays C turn H k below)) ∙ named))

open_or_collected : (C : Setup) (H : History) (k : ℕ) (order : Order) → Lawful C H → order_at C H k ≡ Some order
    → (open_order H order.sender order.ticket ≡ Some k) ⊎ AreCollected C H k
open_or_collected C [] k order l is = absurd (cc (is))
open_or_collected C (turn ∷ H) k order l is =
    elim (order_cases (opened_order C turn.event turn.reply H) (length H) k (order_at C H k) order is) [
      | inl new ↦ inl (open_now C turn.event turn.reply H order (length H) (open_order H order.sender order.ticket) new.1 ∙ ap Some new.0)
      | inr old ↦
          let below = (known C H k order l.0 old).below in
          elim (open_or_collected C H k order l.0 old) [
            | inr all ↦ inr (collected_later C turn H k below all)
            | inl was ↦ elim (open_stays C turn.event turn.reply H order.sender order.ticket k l.1 was) [
              | inl stays ↦ inl stays
              | inr finishes ↦ inr (collected_later C turn H k below (λ h named. finished_collected C turn H order.sender order.ticket k h l finishes was named))
            ]
          ]
    ]

all_done : (C : Setup) (H : History) (k : ℕ) → AreCollected C H k → is_done C H k ≡ true
all_done C H k all =
    ap is_empty (where_agree (λ h. names (order_at C H k) h && not (is_collected C H k h)) (λ h. false)
    (λ h _. by_test (λ v. (v && not (is_collected C H k h)) ≡ false) (names (order_at C H k) h) (λ named. ap not (all h named)) (λ _. refl)))

-- one that is not open any more is done
pub closed_done : (C : Setup) (H : History) (k : ℕ) (order : Order) → Lawful C H → order_at C H k ≡ Some order → is_order (open_order H order.sender order.ticket) k ≡ false → is_done C H k ≡ true
closed_done C H k order l is closed =
    elim (open_or_collected C H k order l is) [
      | inl stays ↦ absurd (false≢true (sym closed ∙ is_order_of (open_order H order.sender order.ticket) k stays))
      | inr all ↦ all_done C H k all
    ]

-- whether an order is open stays, unless its ticket is finished
pub open_kept : (C : Setup) (event : Event) (r : Reply) (H : History) (a n k : ℕ) → r ≡ due C H event → k < length H → (Finishes (turn_of event r) a n → ⊥)
    → is_order (open_order H a n) k ≡ is_order (open_order (turn_of event r ∷ H) a n) k
open_kept C event r H a n k d below none =
    both_ways _ _
    (λ t. is_order_of (open_order (turn_of event r ∷ H) a n) k (elim (open_stays C event r H a n k d (order_is (open_order H a n) k t)) [ inl stays ↦ stays | inr finishes ↦ absurd (none finishes) ]))
    (λ t. elim (open_cases C event r H a n (length H) (open_order H a n) k (order_is (open_order (turn_of event r ∷ H) a n) k t)) [
      | inl new ↦ absurd (let at = new.1 in omega arith)
      | inr old ↦ is_order_of (open_order H a n) k old
    ])
