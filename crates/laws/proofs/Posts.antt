-- Accepted posts: each is of an order of its sender, no two of a pair are of one order, and what is
-- served is none that waits.
use Rattle.std.proofs.Common.{◌≡◌, ℕ, zero, suc, ◌<◌, ◌≤◌, true, false, cond, ◌&&◌, List, [], ◌∷◌, ◌++◌, length, drop, map, Option, Some, None, slice_get, refl, ap, sym, ◌∙◌, subst, arith, eqb, length-append}
use Rattle.std.specs.Prelude.{All}
use Rattle.std.specs.List.{AllPairs}
use Rattle.std.proofs.lemmas.Bool.{and_parts, eqb-true, eq-eqb, false≢true, or_left, or_right}
use Rattle.std.proofs.lemmas.List.{append-nil, length-map, length-drop}
use Rattle.std.proofs.lemmas.List.Elements.{All-nil, All-cons, All-head, All-tail, All-append, All-weaker, All-drop}
use Rattle.std.proofs.lemmas.List.Kept.{AllPairs-cons}
use Rattle.shoot.specs.Request.{Request}
use Rattle.history.specs.Setup.{Setup}
use Rattle.history.specs.declared.event.Event.{Event}
use Rattle.history.specs.declared.event.Event.TheVariants.{Post, Take, Ack}
use Rattle.history.specs.declared.reply.Reply.{Reply}
use Rattle.history.specs.declared.reply.Reply.TheVariants as reply
use Rattle.history.specs.Turns.{Turn, History, is_ok, is_taken, taken_request, are_same}
use Rattle.history.specs.Orders.{open_order, is_order, what_asked}
use Rattle.history.specs.Mailboxes.{Sent, sent_of, posts_after, posts, taken}
use Rattle.history.specs.Service.{served_after, served}
use Rattle.history.specs.Acknowledgements.{is_posted}
use Rattle.history.specs.Due.{due, Lawful, names}
pub use Rattle.history.proofs.Occurred.{order_is}
use Rattle.history.proofs.Ordered.{sent_as}
use Rattle.laws.specs.Orders.{IsOpenedBy}
use Rattle.laws.specs.Posts.{IsAcceptedPost, waiting_posts, IsOfOther, AreOfDifferent}
use Rattle.laws.proofs.Tools.{by_test, and3, All-slice_get}
use Rattle.laws.proofs.Accepted.{turn_of, post_found, take_found}
use Rattle.laws.proofs.Orders.{known, order_stays, open_known, open_below}

-- what is known of a post stays known
pub post_below : (C : Setup) (H : History) (s h : ℕ) (x : Sent) → Lawful C H → IsAcceptedPost C H s h x → x.order < length H
post_below C H s h x l p = (known C H x.order p.opened.order l p.opened.is).below

pub posted_stays : (event : Event) (r : Reply) (H : History) (k h : ℕ) → is_posted H k h ≡ true → is_posted (turn_of event r ∷ H) k h ≡ true
posted_stays (Post s t to) r H k h p = or_right (is_ok r && (eqb to h && is_order (open_order H s t) k)) (is_posted H k h) p
posted_stays _ r H k h p = p

opened_stays : (C : Setup) (turn : Turn) (H : History) (s t k : ℕ) → k < length H → IsOpenedBy C H s t k → IsOpenedBy C (turn ∷ H) s t k
opened_stays C turn H s t k l o = record { order = o.order; is = order_stays C turn H k l ∙ o.is; sender = o.sender; ticket = o.ticket }

pub post_stays : (C : Setup) (event : Event) (r : Reply) (H : History) (s h : ℕ) → Lawful C H → (x : Sent) → IsAcceptedPost C H s h x → IsAcceptedPost C (turn_of event r ∷ H) s h x
post_stays C event r H s h l x p =
    let b = post_below C H s h x l p in
    let same = order_stays C (turn_of event r) H x.order b in
    record {
      sender = p.sender;
      apart = p.apart;
      opened = opened_stays C (turn_of event r) H s x.request.ticket x.order b p.opened;
      what = p.what ∙ ap what_asked (sym same);
      named = ap (λ o. names o h) same ∙ p.named;
      posted = posted_stays event r H x.order h p.posted;
    }

pub sent_each : (C : Setup) (H : History) (P : Sent → Type 0) (s t : ℕ) (o : Option ℕ) → ((k : ℕ) → o ≡ Some k → P (sent_as C H s t k)) → All P (sent_of C H s t o)
sent_each C H P s t None each = All-nil P
sent_each C H P s t (Some k) each = All-cons P (sent_as C H s t k) [] (each k refl) (All-nil P)

-- the new post
new_post : (C : Setup) (H : History) (s t h : ℕ) (r : Reply) → Lawful C (turn_of (Post s t h) r ∷ H) → is_ok r ≡ true
    → All (IsAcceptedPost C (turn_of (Post s t h) r ∷ H) s h) (sent_of C H s t (open_order H s t))
new_post C H s t h r l z =
    sent_each C H (IsAcceptedPost C (turn_of (Post s t h) r ∷ H) s h) s t (open_order H s t)
    (λ k o. let f = post_found C H s t h r l.1 z in
    let same : f.order ≡ k = cc (f.is, o) in
    let b = open_below C H s t k l.0 o in
    record {
      sender = refl;
      apart = f.apart;
      opened = opened_stays C (turn_of (Post s t h) r) H s t k b (open_known C H s t k l.0 o);
      what = ap what_asked (sym (order_stays C (turn_of (Post s t h) r) H k b));
      named = rw (← same) f.named;
      posted = or_left (is_ok r && (eqb h h && is_order (open_order H s t) k)) (is_posted H k h) (rw (z, eq-eqb h h refl, o) (eq-eqb k k refl));
    })

posts_stay : (C : Setup) (event : Event) (r : Reply) (H : History) (s h : ℕ) → Lawful C H → All (IsAcceptedPost C H s h) (posts C H s h)
    → All (IsAcceptedPost C (turn_of event r ∷ H) s h) (posts C H s h)
posts_stay C event r H s h l all = All-weaker (IsAcceptedPost C H s h) (IsAcceptedPost C (turn_of event r ∷ H) s h) (post_stays C event r H s h l) (posts C H s h) all

posts_step : (C : Setup) (event : Event) (r : Reply) (H : History) (s h : ℕ) → Lawful C (turn_of event r ∷ H) → All (IsAcceptedPost C H s h) (posts C H s h)
    → All (IsAcceptedPost C (turn_of event r ∷ H) s h) (posts_after C event r H s h (posts C H s h))
posts_step C (Post a t b) r H s h l all =
    let P = IsAcceptedPost C (turn_of (Post a t b) r ∷ H) s h in
    by_test (λ v. All P (cond v (posts C H s h ++ sent_of C H a t (open_order H a t)) (posts C H s h))) (is_ok r && are_same a b s h)
    (λ z. let y = and3 (is_ok r) (eqb a s) (eqb b h) z in
    let as' : a ≡ s = eqb-true a s y.1 in
    let bh : b ≡ h = eqb-true b h y.2 in
    All-append P (posts C H s h) (sent_of C H a t (open_order H a t)) (posts_stay C (Post a t b) r H s h l.0 all)
    (rw (← as', ← bh) (new_post C H a t b r l y.0)))
    (λ _. posts_stay C (Post a t b) r H s h l.0 all)
posts_step C event r H s h l all = posts_stay C event r H s h l.0 all

pub posts_known : (C : Setup) (H : History) (s h : ℕ) → Lawful C H → All (IsAcceptedPost C H s h) (posts C H s h)
posts_known C [] s h l = All-nil (IsAcceptedPost C [] s h)
posts_known C (turn ∷ H) s h l = posts_step C turn.event turn.reply H s h l (posts_known C H s h l.0)

-- what is served was posted
served_step : (C : Setup) (event : Event) (r : Reply) (H : History) (h : ℕ) (x : Sent) → Lawful C H → (served C H h ≡ Some x → IsAcceptedPost C H x.sender h x)
    → served_after C event r H h (served C H h) ≡ Some x → IsAcceptedPost C H x.sender h x
served_step C (Take b a) r H h x l old e =
    by_test (λ v. cond v (slice_get (posts C H a b) (length (taken H a b))) (served C H h) ≡ Some x → IsAcceptedPost C H x.sender h x) (is_taken r && eqb b h)
    (λ z q. let bh : b ≡ h = eqb-true b h (and_parts (is_taken r) (eqb b h) z).1 in
    let p : IsAcceptedPost C H a b x = All-slice_get (IsAcceptedPost C H a b) (posts C H a b) (length (taken H a b)) x (posts_known C H a b l) q in
    let from : IsAcceptedPost C H x.sender b x = subst (λ (z : ℕ). IsAcceptedPost C H z b x) (sym p.sender) p in
    subst (λ (z : ℕ). IsAcceptedPost C H x.sender z x) bh from)
    (λ _ q. old q) e
served_step C (Ack b) r H h x l old e =
    by_test (λ v. cond v None (served C H h) ≡ Some x → IsAcceptedPost C H x.sender h x) (is_ok r && eqb b h) (λ _ q. absurd cc) (λ _ q. old q) e
served_step C _ r H h x l old e = old e

pub served_post : (C : Setup) (H : History) (h : ℕ) (x : Sent) → Lawful C H → served C H h ≡ Some x → IsAcceptedPost C H x.sender h x
served_post C [] h x l e = absurd cc
served_post C (turn ∷ H) h x l e =
    post_stays C turn.event turn.reply H x.sender h l.0 x (served_step C turn.event turn.reply H h x l.0 (served_post C H h x l.0) e)

-- no two posts of a pair are of one order
abbrev pub Distinct : List Sent → Type 0
Distinct [] = Unit {0}
Distinct (x ∷ xs) = All (IsOfOther x.order) xs × Distinct xs

distinct_push : (xs : List Sent) (x : Sent) → Distinct xs → All (IsOfOther x.order) xs → Distinct (xs ++ x ∷ [])
distinct_push [] x d e = (All-nil (IsOfOther x.order), tt)
distinct_push (y ∷ ys) x d e =
    let first = All-head (IsOfOther x.order) y ys e in (
      All-append (IsOfOther y.order) ys (x ∷ []) d.0 (All-cons (IsOfOther y.order) x [] (λ q. first (sym q)) (All-nil (IsOfOther y.order))),
      distinct_push ys x d.1 (All-tail (IsOfOther x.order) y ys e),
    )

pub distinct_drop : (n : ℕ) (xs : List Sent) → Distinct xs → Distinct (drop n xs)
distinct_drop zero xs d = d
distinct_drop (suc n) [] d = tt
distinct_drop (suc n) (x ∷ xs) d = distinct_drop n xs d.1

distinct_pairs : (xs : List Sent) → Distinct xs → AllPairs AreOfDifferent xs
distinct_pairs [] d = λ i j d l k. absurd (omega arith)
distinct_pairs (x ∷ xs) d = AllPairs-cons AreOfDifferent x xs d.0 (distinct_pairs xs d.1)

-- an order that was not posted to h is of no post to h
pub fresh_is_other : (C : Setup) (H : History) (s h k : ℕ) → is_posted H k h ≡ false → (xs : List Sent) → All (IsAcceptedPost C H s h) xs → All (IsOfOther k) xs
fresh_is_other C H s h k f xs all = All-weaker (IsAcceptedPost C H s h) (IsOfOther k) (λ x p e. false≢true (sym f ∙ rw e p.posted)) xs all

new_distinct : (C : Setup) (H : History) (s t h : ℕ) (r : Reply) → Lawful C (turn_of (Post s t h) r ∷ H) → is_ok r ≡ true → Distinct (posts C H s h)
    → (o : Option ℕ) → o ≡ open_order H s t → Distinct (posts C H s h ++ sent_of C H s t o)
new_distinct C H s t h r l z d None q = rw append-nil d
new_distinct C H s t h r l z d (Some k) q =
    let f = post_found C H s t h r l.1 z in
    let same : f.order ≡ k = cc (f.is, q) in
    distinct_push (posts C H s h) (sent_as C H s t k) d
    (fresh_is_other C H s h k (rw (← same) f.fresh) (posts C H s h) (posts_known C H s h l.0))

distinct_step : (C : Setup) (event : Event) (r : Reply) (H : History) (s h : ℕ) → Lawful C (turn_of event r ∷ H) → Distinct (posts C H s h)
    → Distinct (posts_after C event r H s h (posts C H s h))
distinct_step C (Post a t b) r H s h l d =
    by_test (λ v. Distinct (cond v (posts C H s h ++ sent_of C H a t (open_order H a t)) (posts C H s h))) (is_ok r && are_same a b s h)
    (λ z. let y = and3 (is_ok r) (eqb a s) (eqb b h) z in
    let as' : a ≡ s = eqb-true a s y.1 in
    let bh : b ≡ h = eqb-true b h y.2 in
    rw (← as', ← bh) (new_distinct C H a t b r l y.0 (rw (as', bh) d) (open_order H a t) refl)) (λ _. d)
distinct_step C _ r H s h l d = d

pub distinct : (C : Setup) (H : History) (s h : ℕ) → Lawful C H → Distinct (posts C H s h)
distinct C [] s h l = tt
distinct C (turn ∷ H) s h l = distinct_step C turn.event turn.reply H s h l (distinct C H s h l.0)

pub posts_differ : (C : Setup) (H : History) (s h : ℕ) → Lawful C H → AllPairs AreOfDifferent (posts C H s h)
posts_differ C H s h l = distinct_pairs (posts C H s h) (distinct C H s h l)

-- no more is taken than was accepted
posts_grow : (C : Setup) (event : Event) (r : Reply) (H : History) (s h : ℕ) → length (posts C H s h) ≤ length (posts_after C event r H s h (posts C H s h))
posts_grow C (Post a t b) r H s h =
    by_test (λ v. length (posts C H s h) ≤ length (cond v (posts C H s h ++ sent_of C H a t (open_order H a t)) (posts C H s h))) (is_ok r && are_same a b s h)
    (λ _. omega (arith, length-append (posts C H s h) (sent_of C H a t (open_order H a t)))) (λ _. omega arith)
posts_grow C _ r H s h = omega arith

waits_more : (xs : List Sent) (n : ℕ) (first : Request) (rest : List Request) → drop n (map (λ (x : Sent). x.request) xs) ≡ first ∷ rest → n < length xs
waits_more xs n first rest e =
    let l = ap length e in
    omega (arith, l, length-drop n (map (λ (x : Sent). x.request) xs), length-map xs (λ (x : Sent). x.request))

taken_one : (r : Reply) (ts : List Request) (n : ℕ) → length ts ≤ n → (is_taken r ≡ true → length ts < n) → length (ts ++ taken_request r) ≤ n
taken_one (reply.Taken request) ts n l f = let m = f refl in omega (arith, length-append ts (request ∷ []))
taken_one _ ts n l f = rw append-nil l

taken_step : (C : Setup) (event : Event) (r : Reply) (H : History) (s h : ℕ) → r ≡ due C H event → length (taken H s h) ≤ length (posts C H s h)
    → length (taken (turn_of event r ∷ H) s h) ≤ length (posts C H s h)
taken_step C (Take b a) r H s h d l =
    by_test (λ v. length (cond v (taken H s h ++ taken_request r) (taken H s h)) ≤ length (posts C H s h)) (are_same a b s h)
    (λ z. let y = and_parts (eqb a s) (eqb b h) z in
    let as' : a ≡ s = eqb-true a s y.0 in
    let bh : b ≡ h = eqb-true b h y.1 in
    taken_one r (taken H s h) (length (posts C H s h)) l
    (λ t. let f = take_found C H b a r d t in rw (← as', ← bh) (waits_more (posts C H a b) (length (taken H a b)) f.first f.rest f.waits)))
    (λ _. l)
taken_step C _ r H s h d l = l

pub taken_within : (C : Setup) (H : History) (s h : ℕ) → Lawful C H → length (taken H s h) ≤ length (posts C H s h)
taken_within C [] s h l = omega arith
taken_within C (turn ∷ H) s h l =
    let g = posts_grow C turn.event turn.reply H s h in
    let t = taken_step C turn.event turn.reply H s h l.1 (taken_within C H s h l.0) in omega arith

-- what waits once a turn was made
pub waiting_known : (C : Setup) (H : History) (s h : ℕ) → Lawful C H → All (IsAcceptedPost C H s h) (waiting_posts C H s h)
waiting_known C H s h l = All-drop (IsAcceptedPost C H s h) (length (taken H s h)) (posts C H s h) (posts_known C H s h l)
