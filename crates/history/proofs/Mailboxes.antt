-- What is accepted was taken or waits, and nothing is accepted after a close.
use Rattle.std.proofs.Common.{◌≡◌, ℕ, zero, suc, true, false, cond, ◌&&◌, List, [], ◌∷◌, ◌++◌, length, drop, map, Option, Some, None, inl, inr, slice_get, refl, ap, sym, ◌∙◌, eqb}
use Rattle.std.proofs.lemmas.List.{append-nil}
use Rattle.std.proofs.lemmas.Bool.{and_parts, eqb-true, true≢false}
use Rattle.shoot.specs.Request.{Request}
use Rattle.history.specs.Setup.{Setup}
use Rattle.history.specs.declared.event.Event.{Event}
use Rattle.history.specs.declared.event.Event.TheVariants.{Post, Take}
use Rattle.history.specs.declared.refusal.Refusal.TheVariants.{NoHart, NotNamed, AlreadyPosted, Closed, Walking, Serving}
use Rattle.history.specs.declared.reply.Reply.{Reply}
use Rattle.history.specs.declared.reply.Reply.TheVariants.{Ok, Taken}
use Rattle.history.specs.Turns.{Turn, History, is_ok, taken_request, are_same}
use Rattle.history.specs.Orders.{open_order}
use Rattle.history.specs.Mailboxes.{Sent, sent_of, posts, posts_after, accepted, taken, taken_after, waiting, is_closed, Mailboxes}
use Rattle.history.specs.Due.{next_reply, due, Lawful}
use Rattle.history.specs.Occurrences.{Sometime, IsPostAfterClose}
use Rattle.history.proofs.Splits.{not_sometime-empty, sometime_cases}
use Rattle.history.proofs.Occurred.{ok_is, closed}
use Rattle.shoot.proofs.HartSets.{by_test}
use Rattle.history.proofs.Passing.{passed, post_reply}

abbrev IsFront : {A : Type 0} → List A → List A → Type 0
IsFront ts xs = ts ++ drop (length ts) xs ≡ xs

front_append : {A : Type 0} (ts xs ys : List A) → IsFront ts xs → IsFront ts (xs ++ ys)
front_append [] xs ys f = refl
front_append (t ∷ ts) [] ys f = absurd cc
front_append (t ∷ ts) (x ∷ xs) ys f =
    let head : t ≡ x = cc in
    let rest : ts ++ drop (length ts) xs ≡ xs = cc in
    let more = front_append ts xs ys rest in cc

front_more : {A : Type 0} (ts xs : List A) (r : A) (rs : List A) → IsFront ts xs → drop (length ts) xs ≡ r ∷ rs → IsFront (ts ++ r ∷ []) xs
front_more [] xs r rs f e = rw e refl
front_more (t ∷ ts) [] r rs f e = absurd cc
front_more (t ∷ ts) (x ∷ xs) r rs f e =
    let head : t ≡ x = cc in
    let rest : ts ++ drop (length ts) xs ≡ xs = cc in
    let more = front_more ts xs r rs rest e in cc

pub map_append : {A B : Type 0} (f : A → B) (xs ys : List A) → map f (xs ++ ys) ≡ map f xs ++ map f ys
map_append f [] ys = refl
map_append f (x ∷ xs) ys = ap (λ zs. f x ∷ zs) (map_append f xs ys)

next_taken : (xs : List Request) (request : Request) → next_reply xs ≡ Taken request → (rest : List Request) × (xs ≡ request ∷ rest)
next_taken [] request e = absurd cc
next_taken (x ∷ xs) request e = (xs, let same : x ≡ request = cc in ap (λ y. y ∷ xs) same)

abbrev of : Sent → Request
of sent = sent.request

module _ (C : Setup) where
  -- a Take that was answered took the first that waited
  took : (H : History) (hart from : ℕ) (request : Request) → Taken request ≡ due C H (Take hart from) → (rest : List Request) × (waiting C H from hart ≡ request ∷ rest)
  took H hart from request e =
      let pair = passed _ NoHart _ (Taken request) (sym e) refl in
      let walk = passed _ Walking _ (Taken request) pair.1 refl in
      let serve = passed _ Serving _ (Taken request) walk.1 refl in
      next_taken (waiting C H from hart) request serve.1

  front_taken : (hart from : ℕ) (r : Reply) (H : History) → IsFront (taken H from hart) (accepted C H from hart) → r ≡ due C H (Take hart from)
      → IsFront (taken H from hart ++ taken_request r) (accepted C H from hart)
  front_taken hart from (Taken request) H f e =
      let w = took H hart from request e in
      front_more (taken H from hart) (accepted C H from hart) request w.0 f w.1
  front_taken hart from _ H f e = rw append-nil f

  front_after : (s h : ℕ) (e : Event) (r : Reply) (H : History) → IsFront (taken H s h) (accepted C H s h) → r ≡ due C H e
      → IsFront (taken_after e r s h (taken H s h)) (map of (posts_after C e r H s h (posts C H s h)))
  front_after s h (Post hart ticket to) r H f e =
      by_test (λ v. IsFront (taken H s h) (map of (cond v (posts C H s h ++ sent_of C H hart ticket (open_order H hart ticket)) (posts C H s h)))) (is_ok r && are_same hart to s h)
      (λ _. rw map_append (front_append (taken H s h) (accepted C H s h) _ f)) (λ _. f)
  front_after s h (Take hart from) r H f e =
      by_test (λ v. IsFront (cond v (taken H s h ++ taken_request r) (taken H s h)) (accepted C H s h)) (are_same from hart s h)
      (λ t. let p = and_parts (eqb from s) (eqb hart h) t in
      let sender : from ≡ s = eqb-true from s p.0 in
      let receiver : hart ≡ h = eqb-true hart h p.1 in
      rw (← sender, ← receiver) (front_taken hart from r H (rw (sender, receiver) f) e))
      (λ _. f)
  front_after s h _ r H f e = f

  front : (H : History) (s h : ℕ) → Lawful C H → IsFront (taken H s h) (accepted C H s h)
  front [] s h l = refl
  front (turn ∷ H) s h l = front_after s h turn.event turn.reply H (front H s h l.0) l.1

  pub lawful_order : (H : History) → Lawful C H → Mailboxes C H
  lawful_order H l s h = sym (front H s h l)

  -- an accepted Post found its mailbox open
  posted_open : (H : History) (hart to k : ℕ) (o : Option ℕ) → post_reply C H hart to o ≡ Ok → is_closed H hart to ≡ false
  posted_open H hart to k None e = absurd cc
  posted_open H hart to k (Some j) e =
      let named = passed _ NotNamed _ Ok e refl in
      let fresh = passed _ AlreadyPosted _ Ok named.1 refl in
      (passed (is_closed H hart to) Closed _ Ok fresh.1 refl).0

  accepted_open : (H : History) (hart ticket to : ℕ) (r : Reply) → r ≡ due C H (Post hart ticket to) → is_ok r ≡ true → is_closed H hart to ≡ false
  accepted_open H hart ticket to r e t =
      let pair = passed _ NoHart _ Ok (sym e ∙ ok_is r t) refl in
      posted_open H hart to 0 (open_order H hart ticket) pair.1

  none_at : (s h : ℕ) (e : Event) (r : Reply) (H : History) → r ≡ due C H e → is_closed H s h ≡ true → map of (posts_after C e r H s h (posts C H s h)) ≡ accepted C H s h
  none_at s h (Post hart ticket to) r H e c =
      by_test (λ v. map of (cond v (posts C H s h ++ sent_of C H hart ticket (open_order H hart ticket)) (posts C H s h)) ≡ accepted C H s h) (is_ok r && are_same hart to s h)
      (λ t. let p = and_parts (is_ok r) (are_same hart to s h) t in
      let q = and_parts (eqb hart s) (eqb to h) p.1 in
      let open_now = accepted_open H hart ticket to r e p.0 in
      let sender : hart ≡ s = eqb-true hart s q.0 in
      let receiver : to ≡ h = eqb-true to h q.1 in
      absurd (true≢false (sym c ∙ rw (← sender, ← receiver) open_now)))
      (λ _. refl)
  none_at s h _ r H e c = refl

  pub none_added : (turn : Turn) (H : History) (s h : ℕ) → Lawful C (turn ∷ H) → is_closed H s h ≡ true → accepted C (turn ∷ H) s h ≡ accepted C H s h
  none_added turn H s h l closed = none_at s h turn.event turn.reply H l.1 closed

-- no accepted Post of a lawful history follows an accepted Close of its pair
not_after_close : (C : Setup) (s h : ℕ) (turn : Turn) (H : History) → turn.reply ≡ due C H turn.event → IsPostAfterClose s h turn H → ⊥
not_after_close C s h turn H d p =
    let e : turn.reply ≡ due C H (Post s p.ticket h) = d ∙ ap (due C H) p.event in
    let open_now = accepted_open C H s p.ticket h turn.reply e (ap is_ok p.accepted) in
    true≢false (sym ((closed H s h).1 p.closed) ∙ open_now)

pub no_post_after_close : (C : Setup) (H : History) (s h : ℕ) → Lawful C H → Sometime (IsPostAfterClose s h) H → ⊥
no_post_after_close C [] s h l p = not_sometime-empty (IsPostAfterClose s h) p
no_post_after_close C (turn ∷ H) s h l p = elim (sometime_cases (IsPostAfterClose s h) turn H p) [
  | inl n ↦ not_after_close C s h turn H l.1 n
  | inr old ↦ no_post_after_close C H s h l.0 old
]

-- the members of a list stay where they are when others are put behind it
pub get_front : {A : Type 0} (ts ws : List A) (n : ℕ) (x : A) → slice_get ts n ≡ Some x → slice_get (ts ++ ws) n ≡ Some x
get_front [] ws n x e = absurd cc
get_front (t ∷ ts) ws zero x e = e
get_front (t ∷ ts) ws (suc n) x e = get_front ts ws n x e

pub taken_nth : (C : Setup) (H : History) (s h n : ℕ) (request : Request) → Lawful C H → slice_get (taken H s h) n ≡ Some request → slice_get (accepted C H s h) n ≡ Some request
taken_nth C H s h n request l e = ap (λ xs. slice_get xs n) (lawful_order C H l s h) ∙ get_front (taken H s h) (waiting C H s h) n request e
