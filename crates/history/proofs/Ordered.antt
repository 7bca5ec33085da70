-- The n-th accepted post of a pair, and its n-th taken request.
use Rattle.std.proofs.Common.{◌≡◌, ℕ, zero, suc, cond, ◌&&◌, ◌⊎◌, inl, inr, List, [], ◌∷◌, ◌++◌, length, Option, Some, None, slice_get, refl, ap, sym, ◌∙◌}
use Rattle.std.proofs.lemmas.Bool.{and_parts}
use Rattle.std.specs.Prelude.{◌↔◌}
use Rattle.shoot.specs.Request.{Request}
use Rattle.history.specs.Setup.{Setup}
use Rattle.history.specs.declared.event.Event.{Event}
use Rattle.history.specs.declared.event.Event.TheVariants.{Post, Take}
use Rattle.history.specs.declared.reply.Reply.{Reply}
use Rattle.history.specs.declared.reply.Reply.TheVariants.{Ok, Taken}
use Rattle.history.specs.Turns.{Turn, History, is_ok, taken_request, are_same}
use Rattle.history.specs.Orders.{open_order, what_of}
use Rattle.history.specs.Mailboxes.{Sent, sent_of, posts, posts_after, taken, taken_after}
use Rattle.history.specs.Occurrences.{Sometime, IsNthPost, IsNthTake}
use Rattle.history.proofs.Splits.{read_sometime}
use Rattle.history.proofs.Occurred.{turn_of, ok_is, same_from}
use Rattle.history.proofs.OpenOrders.{same_parts}
use Rattle.history.proofs.Mailboxes.{get_front}
use Rattle.shoot.proofs.HartSets.{by_test}

-- the members of a list with one more
pub last_cases : {A : Type 0} (xs : List A) (x y : A) (n : ℕ) → slice_get (xs ++ x ∷ []) n ≡ Some y → ((length xs ≡ n) × (y ≡ x)) ⊎ (slice_get xs n ≡ Some y)
last_cases [] x y zero e = let same : y ≡ x = cc in inl (refl, same)
last_cases [] x y (suc n) e = absurd cc
last_cases (z ∷ xs) x y zero e = inr e
last_cases (z ∷ xs) x y (suc n) e = elim (last_cases xs x y n e) [ inl p ↦ inl (ap suc p.0, p.1) | inr o ↦ inr o ]

pub last_here : {A : Type 0} (xs : List A) (x : A) → slice_get (xs ++ x ∷ []) (length xs) ≡ Some x
last_here [] x = refl
last_here (z ∷ xs) x = last_here xs x

pub none_more : {A : Type 0} (xs : List A) (n : ℕ) (y : A) → slice_get (xs ++ []) n ≡ Some y → slice_get xs n ≡ Some y
none_more [] n y e = e
none_more (x ∷ xs) zero y e = e
none_more (x ∷ xs) (suc n) y e = none_more xs n y e

-- what a Post of an open order sends
abbrev pub sent_as : Setup → History → ℕ → ℕ → ℕ → Sent
sent_as C H sender ticket order = record { sender = sender; order = order; request = record { ticket = ticket; what = what_of C H (Some order) } }

module _ (C : Setup) (s h n : ℕ) (sent : Sent) where
  sent_to : (H : History) (hart ticket to : ℕ) (r : Reply) (o : Option ℕ) (old : List Sent) → open_order H hart ticket ≡ o → old ≡ posts C H s h → r ≡ Ok → hart ≡ s → to ≡ h
      → slice_get (old ++ sent_of C H hart ticket o) n ≡ Some sent → IsNthPost C s h n sent (turn_of (Post hart ticket to) r) H ⊎ (slice_get old n ≡ Some sent)
  sent_to H hart ticket to r None old is was ok sender receiver e = inr (none_more old n sent e)
  sent_to H hart ticket to r (Some k) old is was ok sender receiver e = elim (last_cases old (sent_as C H hart ticket k) sent n e) [
    | inl p ↦ inl (record {
      ticket = ticket;
      order = k;
      event = ap (λ a. Post a ticket to) sender ∙ ap (Post s ticket) receiver;
      accepted = ok;
      is_open = ap (λ a. open_order H a ticket) (sym sender) ∙ is;
      count = ap length (sym was) ∙ p.0;
      is = p.1 ∙ ap (λ a. sent_as C H a ticket k) sender;
    })
    | inr o ↦ inr o
  ]

  post_to : (e : Event) (r : Reply) (H : History) → slice_get (posts_after C e r H s h (posts C H s h)) n ≡ Some sent
      → IsNthPost C s h n sent (turn_of e r) H ⊎ (slice_get (posts C H s h) n ≡ Some sent)
  post_to (Post hart ticket to) r H e =
      by_test (λ t. slice_get (cond t (posts C H s h ++ sent_of C H hart ticket (open_order H hart ticket)) (posts C H s h)) n ≡ Some sent
      → IsNthPost C s h n sent (turn_of (Post hart ticket to) r) H ⊎ (slice_get (posts C H s h) n ≡ Some sent))
      (is_ok r && are_same hart to s h)
      (λ t e. let p = and_parts (is_ok r) (are_same hart to s h) t in
      let q = same_parts hart to s h p.1 in
      sent_to H hart ticket to r (open_order H hart ticket) (posts C H s h) refl refl (ok_is r p.0) q.0 q.1 e)
      (λ _ e. inr e) e
  post_to _ r H e = inr e

  post_stays : (e : Event) (r : Reply) (H : History) → slice_get (posts C H s h) n ≡ Some sent → slice_get (posts_after C e r H s h (posts C H s h)) n ≡ Some sent
  post_stays (Post hart ticket to) r H e =
      by_test (λ t. slice_get (cond t (posts C H s h ++ sent_of C H hart ticket (open_order H hart ticket)) (posts C H s h)) n ≡ Some sent) (is_ok r && are_same hart to s h)
      (λ _. get_front (posts C H s h) _ n sent e) (λ _. e)
  post_stays _ r H e = e

  post_by : (turn : Turn) (H : History) → IsNthPost C s h n sent turn H → slice_get (posts_after C turn.event turn.reply H s h (posts C H s h)) n ≡ Some sent
  post_by turn H p = rw (p.event, p.accepted, same_from s h, p.is_open, ← p.count, p.is) (last_here (posts C H s h) (sent_as C H s p.ticket p.order))

  pub nth_post : (H : History) → (slice_get (posts C H s h) n ≡ Some sent) ↔ Sometime (IsNthPost C s h n sent) H
  nth_post H = read_sometime (IsNthPost C s h n sent) (λ H. slice_get (posts C H s h) n ≡ Some sent) (λ e. cc)
      (λ turn H. (post_to turn.event turn.reply H, λ c. elim c [ inl p ↦ post_by turn H p | inr o ↦ post_stays turn.event turn.reply H o ])) H

-- taken
module _ (s h n : ℕ) (request : Request) where
  take_new : (hart from : ℕ) (r : Reply) (H : History) (old : List Request) → old ≡ taken H s h → hart ≡ h → from ≡ s → slice_get (old ++ taken_request r) n ≡ Some request
      → IsNthTake s h n request (turn_of (Take hart from) r) H ⊎ (slice_get old n ≡ Some request)
  take_new hart from (Taken new) H old was receiver sender e = elim (last_cases old new request n e) [
    | inl p ↦ inl (record {
      event = ap (λ a. Take a from) receiver ∙ ap (Take h) sender;
      answer = ap Taken (sym p.1);
      count = ap length (sym was) ∙ p.0;
    })
    | inr o ↦ inr o
  ]
  take_new hart from r H old was receiver sender e = inr (none_more old n request e)

  take_to : (e : Event) (r : Reply) (H : History) → slice_get (taken_after e r s h (taken H s h)) n ≡ Some request
      → IsNthTake s h n request (turn_of e r) H ⊎ (slice_get (taken H s h) n ≡ Some request)
  take_to (Take hart from) r H e =
      by_test (λ t. slice_get (cond t (taken H s h ++ taken_request r) (taken H s h)) n ≡ Some request
      → IsNthTake s h n request (turn_of (Take hart from) r) H ⊎ (slice_get (taken H s h) n ≡ Some request))
      (are_same from hart s h)
      (λ t e. let q = same_parts from hart s h t in take_new hart from r H (taken H s h) refl q.1 q.0 e)
      (λ _ e. inr e) e
  take_to _ r H e = inr e

  take_stays : (e : Event) (r : Reply) (H : History) → slice_get (taken H s h) n ≡ Some request → slice_get (taken_after e r s h (taken H s h)) n ≡ Some request
  take_stays (Take hart from) r H e =
      by_test (λ t. slice_get (cond t (taken H s h ++ taken_request r) (taken H s h)) n ≡ Some request) (are_same from hart s h)
      (λ _. get_front (taken H s h) _ n request e) (λ _. e)
  take_stays _ r H e = e

  take_by : (turn : Turn) (H : History) → IsNthTake s h n request turn H → slice_get (taken_after turn.event turn.reply s h (taken H s h)) n ≡ Some request
  take_by turn H p = rw (p.event, p.answer, same_from s h, ← p.count) (last_here (taken H s h) request)

  pub nth_take : (H : History) → (slice_get (taken H s h) n ≡ Some request) ↔ Sometime (IsNthTake s h n request) H
  nth_take H = read_sometime (IsNthTake s h n request) (λ H. slice_get (taken H s h) n ≡ Some request) (λ e. cc)
      (λ turn H. (take_to turn.event turn.reply H, λ c. elim c [ inl p ↦ take_by turn H p | inr o ↦ take_stays turn.event turn.reply H o ])) H
