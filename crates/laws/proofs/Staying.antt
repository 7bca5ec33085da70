-- An order that was not posted to a hart that it names before the close of the mailbox stays open.
use Rattle.std.proofs.Common.{◌≡◌, ℕ, true, false, ◌&&◌, inl, inr, ◌∷◌, [], ◌++◌, Some, ap, sym, ◌∙◌, eqb}
use Rattle.std.proofs.lemmas.Bool.{eqb-true, false_from_ne_true, false≢true, or_right}
use Rattle.history.specs.Setup.{Setup}
use Rattle.history.specs.declared.event.Event.{Event}
use Rattle.history.specs.declared.event.Event.TheVariants.{Close, Post}
use Rattle.history.specs.declared.reply.Reply.{Reply}
use Rattle.history.specs.Turns.{Turn, History, is_ok, are_same}
use Rattle.history.specs.Orders.{is_order, open_order, order_at}
use Rattle.history.specs.Mailboxes.{is_closed}
use Rattle.history.specs.Acknowledgements.{is_posted, is_collected}
use Rattle.history.specs.Due.{due, Lawful, names}
use Rattle.laws.proofs.Tools.{or3}
use Rattle.laws.proofs.Accepted.{post_found, turn_of}
use Rattle.laws.proofs.Orders.{one_sender, open_below, open_known, open_stays, order_stays}
use Rattle.laws.proofs.Posts.{order_is}
use Rattle.laws.proofs.Acknowledged.{acked_posted, collected_acked}
use Rattle.laws.proofs.Live.{finished_collected}

-- the order is open under its ticket, names a hart other than its sender, was not posted to it, and
-- their mailbox is closed
pub record IsStuck (C : Setup) (H : History) (s t k h : ℕ) : Type 0 where
  pub is_open : open_order H s t ≡ Some k
  pub named : names (order_at C H k) h ≡ true
  pub apart : s ≡ h → ⊥
  pub closed : is_closed H s h ≡ true
  pub unposted : is_posted H k h ≡ false

still_closed : (event : Event) (r : Reply) (H : History) (s h : ℕ) → is_closed H s h ≡ true → is_closed (turn_of event r ∷ H) s h ≡ true
still_closed (Close hart to) r H s h c = or_right (is_ok r && are_same hart to s h) (is_closed H s h) c
still_closed _ r H s h c = c

module _ (C : Setup) where
  still_unposted : (event : Event) (r : Reply) (H : History) (s t k h : ℕ) → Lawful C H → r ≡ due C H event → IsStuck C H s t k h → is_posted (turn_of event r ∷ H) k h ≡ false
  still_unposted (Post a n to) r H s t k h l d stuck =
      false_from_ne_true _ (λ p. elim (or3 (is_ok r) (eqb to h) (is_order (open_order H a n) k) (is_posted H k h) p) [
        | inl f ↦ let post = post_found C H a n to r d f.0 in
            let mine = open_known C H s t k l stuck.is_open in
            let theirs = open_known C H a n k l (order_is (open_order H a n) k f.2) in
            let same : a ≡ s = sym theirs.sender ∙ one_sender C H k theirs.order mine.order theirs.is mine.is ∙ mine.sender in
            let to_h : to ≡ h = eqb-true to h f.1 in
            let open' : is_closed H s h ≡ false = rw (same, to_h) at post.unclosed in
            false≢true (sym open' ∙ stuck.closed)
        | inr old ↦ false≢true (sym stuck.unposted ∙ old)
      ])
  still_unposted _ r H s t k h l d stuck = stuck.unposted

  uncollected : (H : History) (s t k h : ℕ) → Lawful C H → IsStuck C H s t k h → is_collected C H k h ≡ true → ⊥
  uncollected H s t k h l stuck c =
      elim (acked_posted C H k h l (collected_acked C H k h c)) [
        | inl p ↦ false≢true (sym stuck.unposted ∙ p)
        | inr own ↦ let mine = open_known C H s t k l stuck.is_open in
            stuck.apart (sym mine.sender ∙ one_sender C H k mine.order own.order mine.is own.is ∙ own.sender)
      ]

  stuck_step : (turn : Turn) (H : History) (s t k h : ℕ) → Lawful C (turn ∷ H) → IsStuck C H s t k h → IsStuck C (turn ∷ H) s t k h
  stuck_step turn H s t k h l stuck = record {
    is_open = elim (open_stays C turn.event turn.reply H s t k l.1 stuck.is_open) [
      | inl o ↦ o
      | inr f ↦ absurd (uncollected H s t k h l.0 stuck (finished_collected C turn H s t k h l f stuck.is_open stuck.named))
    ];
    named = ap (λ o. names o h) (order_stays C turn H k (open_below C H s t k l.0 stuck.is_open)) ∙ stuck.named;
    apart = stuck.apart;
    closed = still_closed turn.event turn.reply H s h stuck.closed;
    unposted = still_unposted turn.event turn.reply H s t k h l.0 l.1 stuck;
  }

  pub stays_stuck : (later H : History) (s t k h : ℕ) → Lawful C (later ++ H) → IsStuck C H s t k h → IsStuck C (later ++ H) s t k h
  stays_stuck [] H s t k h l stuck = stuck
  stays_stuck (turn ∷ later) H s t k h l stuck = stuck_step turn (later ++ H) s t k h l (stays_stuck later H s t k h l.0 stuck)
