-- What is served is of another order than what waits, and what is posted stands among the posts.
use Rattle.std.proofs.Common.{◌≡◌, ℕ, suc, ◌<◌, Bool, true, false, cond, ◌&&◌, List, [], ◌∷◌, ◌++◌, length, drop, Option, Some, None, slice_get, refl, ap, sym, ◌∙◌, subst, arith, eqb, inl, inr, length-append}
use Rattle.std.specs.Prelude.{All}
use Rattle.std.proofs.lemmas.Bool.{and_parts, eqb-true, eq-eqb, false≢true, false_from_ne_true, cases_eq}
use Rattle.std.proofs.lemmas.List.{append-nil, drop-append-le}
use Rattle.std.proofs.lemmas.List.Elements.{All-append, All-weaker, All-contains, Contains-append_left, Contains-push}
use Rattle.shoot.specs.Request.{Request}
use Rattle.history.specs.Setup.{Setup}
use Rattle.history.specs.declared.event.Event.{Event}
use Rattle.history.specs.declared.event.Event.TheVariants.{Post, Take, Ack}
use Rattle.history.specs.declared.reply.Reply.{Reply}
use Rattle.history.specs.declared.reply.Reply.TheVariants as reply
use Rattle.history.specs.Turns.{History, is_ok, is_taken, taken_request, are_same}
use Rattle.history.specs.Orders.{Order, order_at, open_order, is_order}
use Rattle.history.specs.Mailboxes.{Sent, sent_of, posts_after, posts, taken}
use Rattle.history.specs.Service.{served_after, served}
use Rattle.history.specs.Acknowledgements.{is_posted}
use Rattle.history.specs.Due.{due, Lawful, names}
use Rattle.laws.specs.Posts.{IsAcceptedPost, waiting_posts, IsOfOther, StandsIn}
use Rattle.history.proofs.Ordered.{sent_as}
use Rattle.laws.proofs.Tools.{by_test, and3, or3, All-slice_get, drop_slice_get}
use Rattle.laws.proofs.Accepted.{turn_of, post_found}
use Rattle.laws.proofs.Orders.{order_stays, open_known, one_sender, open_below}
use Rattle.laws.proofs.Posts.{order_is, sent_each, posts_known, served_post, Distinct, distinct, distinct_drop, taken_within, waiting_known}

-- the posts of two senders are of different orders
sender_differs : (C : Setup) (H : History) (s a h b : ℕ) (x y : Sent) → IsAcceptedPost C H s h x → IsAcceptedPost C H a b y → (s ≡ a → ⊥) → IsOfOther x.order y
sender_differs C H s a h b x y p q apart e =
    apart (sym p.opened.sender ∙ (one_sender C H x.order p.opened.order q.opened.order p.opened.is (ap (order_at C H) e ∙ q.opened.is) ∙ q.opened.sender))

-- a new post is of another order than one that was posted
new_is_other : (C : Setup) (H : History) (s t h k : ℕ) (r : Reply) → r ≡ due C H (Post s t h) → is_ok r ≡ true → is_posted H k h ≡ true
    → All (IsOfOther k) (sent_of C H s t (open_order H s t))
new_is_other C H s t h k r d z p =
    sent_each C H (IsOfOther k) s t (open_order H s t)
    (λ j o e. let f = post_found C H s t h r d z in
    let same : f.order ≡ j = cc (f.is, o) in
    let kf : k ≡ f.order = e ∙ sym same in
    let fresh : is_posted H k h ≡ false = rw kf f.fresh in false≢true (sym fresh ∙ p))

not_taken : (r : Reply) → is_taken r ≡ false → taken_request r ≡ []
not_taken (reply.Taken request) e = absurd (cc (e))
not_taken _ e = refl

pub taken_length : (r : Reply) (ts : List Request) → is_taken r ≡ true → length (ts ++ taken_request r) ≡ suc (length ts)
taken_length (reply.Taken request) ts e = omega (arith, length-append ts (request ∷ []))
taken_length _ ts e = absurd (false≢true e)

-- the one that is taken is of another order than what waits then
first_is_other : (xs : List Sent) (n : ℕ) (x : Sent) → Distinct xs → slice_get xs n ≡ Some x → All (IsOfOther x.order) (drop (suc n) xs)
first_is_other xs n x d e =
    let u : Distinct (x ∷ drop (suc n) xs) = subst Distinct (drop_slice_get n xs x e) (distinct_drop n xs d) in u.0

abbrev Others : Setup → History → ℕ → Sent → Type 0
Others C H h x = All (IsOfOther x.order) (waiting_posts C H x.sender h)

others_step : (C : Setup) (event : Event) (r : Reply) (H : History) (h : ℕ) (x : Sent) → Lawful C (turn_of event r ∷ H) → (served C H h ≡ Some x → Others C H h x)
    → served_after C event r H h (served C H h) ≡ Some x → Others C (turn_of event r ∷ H) h x
others_step C (Post a t b) r H h x l old e =
    by_test (λ v. All (IsOfOther x.order) (drop (length (taken H x.sender h)) (cond v (posts C H x.sender h ++ sent_of C H a t (open_order H a t)) (posts C H x.sender h)))) (is_ok r && are_same a b x.sender h)
    (λ z. let y = and3 (is_ok r) (eqb a x.sender) (eqb b h) z in
    let bh : b ≡ h = eqb-true b h y.2 in
    rw (drop-append-le (length (taken H x.sender h)) (posts C H x.sender h) (sent_of C H a t (open_order H a t)) (taken_within C H x.sender h l.0))
    (All-append (IsOfOther x.order) (waiting_posts C H x.sender h) (sent_of C H a t (open_order H a t)) (old e)
    (new_is_other C H a t b x.order r l.1 y.0 (rw bh (served_post C H h x l.0 e).posted))))
    (λ _. old e)
others_step C (Take b a) r H h x l old e =
    by_test (λ v. cond v (slice_get (posts C H a b) (length (taken H a b))) (served C H h) ≡ Some x → Others C (turn_of (Take b a) r ∷ H) h x) (is_taken r && eqb b h)
    (λ z q. let y = and_parts (is_taken r) (eqb b h) z in
    let bh : b ≡ h = eqb-true b h y.1 in
    let from : x.sender ≡ a = (took_from C H a b x l.0 q).sender in
    subst (λ (i : ℕ). Others C (turn_of (Take b a) r ∷ H) i x) bh
    (subst (λ (s : ℕ). All (IsOfOther x.order) (waiting_posts C (turn_of (Take b a) r ∷ H) s b)) (sym from)
    (rw (eq-eqb a a refl, eq-eqb b b refl, taken_length r (taken H a b) y.0) (first_is_other (posts C H a b) (length (taken H a b)) x (distinct C H a b l.0) q))))
    (λ z q. by_test (λ v. All (IsOfOther x.order) (drop (length (cond v (taken H x.sender h ++ taken_request r) (taken H x.sender h))) (posts C H x.sender h))) (are_same a b x.sender h)
    (λ w. rw (not_taken r (unless_taken r (eqb b h) z (and_parts (eqb a x.sender) (eqb b h) w).1), append-nil) (old q))
    (λ _. old q)) e
  where
    unless_taken : (r : Reply) (same : Bool) → (is_taken r && same) ≡ false → same ≡ true → is_taken r ≡ false
    unless_taken r same z s = false_from_ne_true (is_taken r) (λ t. false≢true (sym z ∙ rw (t, s) refl))

    took_from : (C : Setup) (H : History) (a b : ℕ) (x : Sent) → Lawful C H → slice_get (posts C H a b) (length (taken H a b)) ≡ Some x → IsAcceptedPost C H a b x
    took_from C H a b x l q = All-slice_get (IsAcceptedPost C H a b) (posts C H a b) (length (taken H a b)) x (posts_known C H a b l) q
others_step C (Ack b) r H h x l old e =
    by_test (λ v. cond v None (served C H h) ≡ Some x → Others C H h x) (is_ok r && eqb b h) (λ _ q. absurd cc) (λ _ q. old q) e
others_step C _ r H h x l old e = old e

others : (C : Setup) (H : History) (h : ℕ) (x : Sent) → Lawful C H → served C H h ≡ Some x → Others C H h x
others C [] h x l e = absurd cc
others C (turn ∷ H) h x l e = others_step C turn.event turn.reply H h x l (others C H h x l.0) e

pub served_is_other : (C : Setup) (H : History) (s h : ℕ) (x : Sent) → Lawful C H → served C H h ≡ Some x → All (IsOfOther x.order) (waiting_posts C H s h)
served_is_other C H s h x l e =
    elim (cases_eq s x.sender) [
      | inl q ↦ rw q (others C H h x l e)
      | inr apart ↦ All-weaker (IsAcceptedPost C H s h) (IsOfOther x.order)
          (λ y p. sender_differs C H x.sender s h h x y (served_post C H h x l e) p (λ q. apart (sym q)))
          (waiting_posts C H s h) (waiting_known C H s h l)
    ]

-- a posted order stands among the posts
stands_left : (xs ys : List Sent) (k : ℕ) → StandsIn xs k → StandsIn (xs ++ ys) k
stands_left xs ys k i = record { post = i.post; member = Contains-append_left xs ys i.post i.member; is = i.is }

new_stands : (C : Setup) (H : History) (s t k : ℕ) (xs : List Sent) (o : Option ℕ) → o ≡ Some k → StandsIn (xs ++ sent_of C H s t o) k
new_stands C H s t k xs None e = absurd cc
new_stands C H s t k xs (Some j) e =
    record { post = sent_as C H s t j; member = Contains-push xs (sent_as C H s t j); is = cc }

stands_step : (C : Setup) (event : Event) (r : Reply) (H : History) (k h : ℕ) (order : Order) → Lawful C H → order_at C H k ≡ Some order
    → (is_posted H k h ≡ true → StandsIn (posts C H order.sender h) k)
    → is_posted (turn_of event r ∷ H) k h ≡ true → StandsIn (posts_after C event r H order.sender h (posts C H order.sender h)) k
stands_step C (Post a t b) r H k h order l is old e =
    elim (or3 (is_ok r) (eqb b h) (is_order (open_order H a t) k) (is_posted H k h) e) [
      | inl n ↦ let o = order_is (open_order H a t) k n.2 in
          let own = open_known C H a t k l o in
          let from : a ≡ order.sender = sym own.sender ∙ one_sender C H k own.order order own.is is in
          rw (n.0, eq-eqb a order.sender from, n.1) (new_stands C H a t k (posts C H order.sender h) (open_order H a t) o)
      | inr y ↦ by_test (λ v. StandsIn (cond v (posts C H order.sender h ++ sent_of C H a t (open_order H a t)) (posts C H order.sender h)) k) (is_ok r && are_same a b order.sender h)
          (λ _. stands_left (posts C H order.sender h) (sent_of C H a t (open_order H a t)) k (old y)) (λ _. old y)
    ]
stands_step C _ r H k h order l is old e = old e

posted_below_step : (C : Setup) (event : Event) (r : Reply) (H : History) (k h : ℕ) → Lawful C H → (is_posted H k h ≡ true → k < length H)
    → is_posted (turn_of event r ∷ H) k h ≡ true → k < length H
posted_below_step C (Post a t b) r H k h l old e =
    elim (or3 (is_ok r) (eqb b h) (is_order (open_order H a t) k) (is_posted H k h) e) [
      | inl n ↦ open_below C H a t k l (order_is (open_order H a t) k n.2)
      | inr y ↦ old y
    ]
posted_below_step C _ r H k h l old e = old e

pub posted_below : (C : Setup) (H : History) (k h : ℕ) → Lawful C H → is_posted H k h ≡ true → k < length H
posted_below C [] k h l e = absurd (false≢true e)
posted_below C (turn ∷ H) k h l e = let b = posted_below_step C turn.event turn.reply H k h l.0 (posted_below C H k h l.0) e in omega arith

pub posted_stands : (C : Setup) (H : History) (k h : ℕ) (order : Order) → Lawful C H → order_at C H k ≡ Some order → is_posted H k h ≡ true → StandsIn (posts C H order.sender h) k
posted_stands C [] k h order l is e = absurd (false≢true e)
posted_stands C (turn ∷ H) k h order l is e =
    let b = posted_below_step C turn.event turn.reply H k h l.0 (posted_below C H k h l.0) e in
    let was = sym (order_stays C turn H k b) ∙ is in
    stands_step C turn.event turn.reply H k h order l.0 was (posted_stands C H k h order l.0 was) e

pub posted_named : (C : Setup) (H : History) (k h : ℕ) (order : Order) → Lawful C H → order_at C H k ≡ Some order → is_posted H k h ≡ true → names (order_at C H k) h ≡ true
posted_named C H k h order l is e =
    let i = posted_stands C H k h order l is e in
    let p = All-contains (IsAcceptedPost C H order.sender h) (posts C H order.sender h) i.post (posts_known C H order.sender h l) i.member in
    subst (λ (j : ℕ). names (order_at C H j) h ≡ true) i.is p.named
