-- From the answer of a post to which harts were asked, and which could not be.
use Rattle.std.proofs.Common.{◌≡◌, ◌∙◌, sym, ap, subst, refl, ℕ, suc, ◌+◌, cond, Bool, true, false, List, Option, Some, None, Result, Ok, Err, inl, inr, arith}
use Rattle.std.specs.Prelude.{◌⊎◌, IfErr, is_none, is_ok}
use mathlib.Core.Logic.{⊎_elim}
use Rattle.std.proofs.lemmas.Bool.{true≢false}
use Rattle.shoot.specs.HartSet.{contains}
use Rattle.shoot.specs.Tickets.{acked_by, is_open, progress_at}
use Rattle.history.specs.declared.refusal.Refusal.{Refusal}
use Rattle.history.specs.declared.refusal.Refusal.TheVariants.{Full, NoHart, NotOpen}
use Rattle.board.specs.Answers.{ack_self_answer, after_no_post, after_post, known_room, post_refusal}
use Rattle.board.specs.Calls.{KeepsUnmappings}
use Rattle.board.specs.Ports.{PortState, outbox_to}
use Rattle.views.specs.OrderTurns.{with_armed}
use Rattle.harts.specs.Asks.{Asks, AsksBelow, IsNotAsked, is_no_hart}

no_hart-is : (r : Refusal) → is_no_hart r ≡ true → r ≡ NoHart
no_hart-is NoHart e = refl
no_hart-is _ e = absurd (true≢false (sym e))

abbrev refusal_in : {X : Type 0} → Result X Refusal → Refusal
refusal_in (Err r) = r
refusal_in (Ok x) = Full

module _ {X : Type 0} (P : Refusal → Type 0) (R : Result X Refusal) where
  -- an answer that is no refusal, and one that is
  none-refuses : (o : Option Refusal) → ((r : Refusal) → o ≡ Some r → R ≡ Err r) → (x : X) → R ≡ Ok x → o ≡ None
  none-refuses None told x e = refl
  none-refuses (Some r) told x e = absurd (true≢false (ap is_ok (sym e ∙ told r refl)))

  one-refuses : (o : Option Refusal) → ((r : Refusal) → o ≡ Some r → R ≡ Err r) → (o ≡ None → IfErr R P) → (r : Refusal) → R ≡ Err r → (o ≡ Some r) ⊎ ((o ≡ None) × P r)
  one-refuses None told ring r e = inr (refl, subst (λ x. IfErr x P) e (ring refl))
  one-refuses (Some s) told ring r e = inl (ap (λ x. Some (refusal_in x)) (sym (told s refl) ∙ e))

abbrev IsRing : PortState → ℕ → Refusal → Type 0
IsRing port to r = (r ≡ Full) × (known_room (outbox_to port to) ≡ 0)

module _ {X : Type 0} (port after : PortState) (ticket to : ℕ) (R : Result X Refusal) (told : (r : Refusal) → post_refusal port ticket to ≡ Some r → R ≡ Err r)
    (ring : post_refusal port ticket to ≡ None → IfErr R (λ r. (r ≡ Full) × (known_room (outbox_to port to) ≡ 0))) where
  pub posted : (x : X) → R ≡ Ok x → after ≡ after_post port ticket to (known_room (outbox_to after to)) → Asks ticket to port after
  posted x e is = inr (none-refuses (IsRing port to) R (post_refusal port ticket to) told x e, is)

  pub left_out : (r : Refusal) → R ≡ Err r → is_no_hart r ≡ true → after ≡ after_no_post port ticket to → Asks ticket to port after
  left_out r e own is =
      elim (one-refuses (IsRing port to) R (post_refusal port ticket to) told ring r e) [
        | inl some ↦ inl (some ∙ ap (λ x. Some x) (no_hart-is r own), is ∙ ap (λ o. cond (is_none o) (record port { view = with_armed ticket to port.view }) port) some)
        | inr none ↦ absurd (true≢false (sym own ∙ ap is_no_hart none.1.0))
      ]

  pub not_asked : (r : Refusal) → R ≡ Err r → is_no_hart r ≡ false → after ≡ after_no_post port ticket to → IsNotAsked ticket to port after r
  not_asked r e other is = record {
    why = ⊎_elim (λ some. inl some) (λ none. inr (none.0, none.1.0, none.1.1)) (one-refuses (IsRing port to) R (post_refusal port ticket to) told ring r e);
    other = other;
    after_is = is;
  }

-- one hart more
pub asks_more : (to : ℕ) (named : List Bool) (ticket : ℕ) (port before after : PortState) → AsksBelow to named ticket port before
    → (contains named to ≡ true → Asks ticket to before after) → (contains named to ≡ false → after ≡ before) → AsksBelow (to + 1) named ticket port after
unfolding AsksBelow
asks_more to named ticket port before after was asks skips =
    let next : suc to ≡ to + 1 = omega arith in subst (λ n. AsksBelow n named ticket port after) next (before, was, asks, skips)

pub keeps_both : (a b c : PortState) → KeepsUnmappings a b → KeepsUnmappings b c → KeepsUnmappings a c
keeps_both a b c first second ticket place page named is = second ticket place page named (first ticket place page named is)

-- an open ticket is acknowledged
pub acks : (port : PortState) (ticket : ℕ) → is_open port.tickets ticket ≡ true → (r : Refusal) → Err r ≡ ack_self_answer port ticket → ⊥
acks port ticket is_so r e = true≢false (sym (ap is_ok (e ∙ ap (λ b. cond b (Ok (progress_at (acked_by port.tickets ticket port.hart) ticket)) (Err NotOpen)) is_so)))
