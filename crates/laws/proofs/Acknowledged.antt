-- What is collected is acknowledged, and what is acknowledged was posted, or is the sender's own.
use Rattle.std.proofs.Common.{◌≡◌, ℕ, Bool, true, ◌&&◌, ◌||◌, [], ◌∷◌, ◌∙◌, eqb, ◌⊎◌, inl, inr, ◌<◌, length, subst, arith}
use Rattle.std.proofs.lemmas.Bool.{eqb-true, false≢true, or_cases, or_left, or_right}
use Rattle.history.specs.Setup.{Setup}
use Rattle.history.specs.declared.event.Event.{Event}
use Rattle.history.specs.declared.event.Event.TheVariants.{Ack, AckSelf, Collect}
use Rattle.history.specs.declared.reply.Reply.{Reply}
use Rattle.history.specs.Turns.{Turn, History, is_ok, is_progress}
use Rattle.history.specs.Orders.{open_order, is_order}
use Rattle.history.specs.Service.{served, is_served}
use Rattle.history.specs.Acknowledgements.{is_posted, is_acked, is_collected}
use Rattle.history.specs.Due.{Lawful}
use Rattle.history.proofs.Occurred.{and4}
pub use Rattle.history.proofs.Occurred.{served_is}
use Rattle.laws.specs.Posts.{IsOwn}
use Rattle.laws.proofs.Tools.{or3}
use Rattle.laws.proofs.Accepted.{turn_of}
use Rattle.laws.proofs.Orders.{known, order_stays, open_known, open_below}
use Rattle.laws.proofs.Posts.{order_is, posted_stays, post_below, served_post}

or4 : (a b c d old : Bool) → ((a && (b && (c && d))) || old) ≡ true → ((a ≡ true) × (b ≡ true) × (c ≡ true) × (d ≡ true)) ⊎ (old ≡ true)
or4 a b c d old e = elim (or_cases (a && (b && (c && d))) old e) [ inl n ↦ inl (and4 a b c d n) | inr y ↦ inr y ]

collected_step : (C : Setup) (event : Event) (r : Reply) (H : History) (k h : ℕ) → (is_collected C H k h ≡ true → is_acked C H k h ≡ true)
    → is_collected C (turn_of event r ∷ H) k h ≡ true → is_acked C (turn_of event r ∷ H) k h ≡ true
collected_step C (AckSelf b t) r H k h old e =
    elim (or3 (is_progress r) (eqb b h) (is_order (open_order H b t) k) (is_collected C H k h) e) [
      | inl n ↦ or_left (is_progress r && (eqb b h && is_order (open_order H b t) k)) (is_acked C H k h) (rw (n.0, n.1) n.2)
      | inr y ↦ or_right (is_progress r && (eqb b h && is_order (open_order H b t) k)) (is_acked C H k h) (old y)
    ]
collected_step C (Collect s t b) r H k h old e =
    elim (or4 (is_progress r) (eqb b h) (is_order (open_order H s t) k) (is_acked C H k h) (is_collected C H k h) e) [
      | inl n ↦ n.3
      | inr y ↦ old y
    ]
collected_step C (Ack b) r H k h old e = or_right (is_ok r && (eqb b h && is_served (served C H b) k)) (is_acked C H k h) (old e)
collected_step C _ r H k h old e = old e

pub collected_acked : (C : Setup) (H : History) (k h : ℕ) → is_collected C H k h ≡ true → is_acked C H k h ≡ true
collected_acked C [] k h e = absurd (false≢true e)
collected_acked C (turn ∷ H) k h e = collected_step C turn.event turn.reply H k h (collected_acked C H k h) e

-- who acknowledged was posted to, or opened the order
acked_stays : (C : Setup) (event : Event) (r : Reply) (H : History) (k h : ℕ) → Lawful C H → (is_posted H k h ≡ true) ⊎ IsOwn C H k h
    → (is_posted (turn_of event r ∷ H) k h ≡ true) ⊎ IsOwn C (turn_of event r ∷ H) k h
acked_stays C event r H k h l f =
    elim f [
      | inl p ↦ inl (posted_stays event r H k h p)
      | inr o ↦ inr (record { order = o.order; is = order_stays C (turn_of event r) H k (known C H k o.order l o.is).below ∙ o.is; sender = o.sender })
    ]

acked_step : (C : Setup) (event : Event) (r : Reply) (H : History) (k h : ℕ) → Lawful C H
    → (is_acked C H k h ≡ true → (is_posted H k h ≡ true) ⊎ IsOwn C H k h)
    → is_acked C (turn_of event r ∷ H) k h ≡ true → (is_posted (turn_of event r ∷ H) k h ≡ true) ⊎ IsOwn C (turn_of event r ∷ H) k h
acked_step C (Ack b) r H k h l old e =
    elim (or3 (is_ok r) (eqb b h) (is_served (served C H b) k) (is_acked C H k h) e) [
      | inl n ↦ let x = served_is (served C H b) k n.2 in
          let bh : b ≡ h = eqb-true b h n.1 in
          acked_stays C (Ack b) r H k h l (inl (rw (← bh, ← x.2) (served_post C H b x.0 l x.1).posted))
      | inr y ↦ acked_stays C (Ack b) r H k h l (old y)
    ]
acked_step C (AckSelf b t) r H k h l old e =
    elim (or3 (is_progress r) (eqb b h) (is_order (open_order H b t) k) (is_acked C H k h) e) [
      | inl n ↦ let o = open_known C H b t k l (order_is (open_order H b t) k n.2) in
          acked_stays C (AckSelf b t) r H k h l (inr (record { order = o.order; is = o.is; sender = o.sender ∙ eqb-true b h n.1 }))
      | inr y ↦ acked_stays C (AckSelf b t) r H k h l (old y)
    ]
acked_step C event r H k h l old e = acked_stays C event r H k h l (old e)

pub acked_posted : (C : Setup) (H : History) (k h : ℕ) → Lawful C H → is_acked C H k h ≡ true → (is_posted H k h ≡ true) ⊎ IsOwn C H k h
acked_posted C [] k h l e = absurd (false≢true e)
acked_posted C (turn ∷ H) k h l e = acked_step C turn.event turn.reply H k h l.0 (acked_posted C H k h l.0) e

-- what a turn leaves acknowledged is an order of the turns before it
acked_before_step : (C : Setup) (event : Event) (r : Reply) (H : History) (k h : ℕ) → Lawful C H → (is_acked C H k h ≡ true → k < length H)
    → is_acked C (turn_of event r ∷ H) k h ≡ true → k < length H
acked_before_step C (Ack b) r H k h l old e =
    elim (or3 (is_ok r) (eqb b h) (is_served (served C H b) k) (is_acked C H k h) e) [
      | inl n ↦ let x = served_is (served C H b) k n.2 in
          subst (λ (j : ℕ). j < length H) x.2 (post_below C H x.0.sender b x.0 l (served_post C H b x.0 l x.1))
      | inr y ↦ old y
    ]
acked_before_step C (AckSelf b t) r H k h l old e =
    elim (or3 (is_progress r) (eqb b h) (is_order (open_order H b t) k) (is_acked C H k h) e) [
      | inl n ↦ open_below C H b t k l (order_is (open_order H b t) k n.2)
      | inr y ↦ old y
    ]
acked_before_step C _ r H k h l old e = old e

pub acked_below : (C : Setup) (H : History) (k h : ℕ) → Lawful C H → is_acked C H k h ≡ true → k < length H
acked_below C [] k h l e = absurd (false≢true e)
acked_below C (turn ∷ H) k h l e =
    let b = acked_before_step C turn.event turn.reply H k h l.0 (acked_below C H k h l.0) e in omega arith

pub acked_before : (C : Setup) (turn : Turn) (H : History) (k h : ℕ) → Lawful C H → is_acked C (turn ∷ H) k h ≡ true → k < length H
acked_before C turn H k h l e = acked_before_step C turn.event turn.reply H k h l (acked_below C H k h l) e
