-- What waits or is served is of an order that is open, and that its receiver has not acknowledged.
use Rattle.std.proofs.Common.{◌≡◌, ℕ, zero, suc, true, false, cond, ◌&&◌, List, [], ◌∷◌, ◌++◌, length, drop, Option, Some, None, slice_get, refl, sym, ◌∙◌, subst, eqb, inl, inr}
use Rattle.std.specs.Prelude.{All}
use Rattle.std.specs.List.{slice_index_or}
use Rattle.std.proofs.lemmas.Bool.{and_parts, and_from, eqb-true, ne_eqb, eq-eqb, false≢true, false_from_ne_true}
use Rattle.std.proofs.lemmas.List.{append-nil, drop-append-le}
use Rattle.std.proofs.lemmas.List.Elements.{All-nil, All-head, All-tail, All-append}
use Rattle.shoot.specs.Request.{Request}
use Rattle.shoot.specs.HartSet.{contains}
use Rattle.history.specs.Setup.{Setup}
use Rattle.history.specs.declared.event.Event.{Event}
use Rattle.history.specs.declared.event.Event.TheVariants.{Post, Take, Ack, AckSelf, Finish}
use Rattle.history.specs.declared.reply.Reply.{Reply}
use Rattle.history.specs.declared.reply.Reply.TheVariants as reply
use Rattle.history.specs.Turns.{Turn, History, is_ok, is_taken, is_progress, taken_request, are_same}
use Rattle.history.specs.Orders.{order_at, open_order, is_order}
use Rattle.history.specs.Mailboxes.{Sent, sent_of, posts, taken}
use Rattle.history.specs.Service.{served_after, served, is_served}
use Rattle.history.specs.Acknowledgements.{is_posted, is_acked, is_collected}
use Rattle.history.specs.Due.{due, Lawful, names}
use Rattle.laws.specs.Orders.{Finishes}
use Rattle.laws.specs.Posts.{IsAcceptedPost, IsLive, waiting_posts}
use Rattle.laws.proofs.Tools.{by_test, and3, or3, drop_slice_get, All-slice_get}
use Rattle.laws.proofs.Accepted.{turn_of, post_found, finish_found}
use Rattle.laws.proofs.Orders.{known, open_known, one_sender, open_stays}
use Rattle.laws.proofs.Posts.{order_is, sent_each, posts_known, served_post, taken_within, waiting_known}
use Rattle.laws.proofs.Waiting.{served_is_other, taken_length}
use Rattle.laws.proofs.Acknowledged.{collected_acked, acked_posted}

-- a ticket that is finished: each hart that its order names is collected
pub finished_collected : (C : Setup) (turn : Turn) (H : History) (s t k h : ℕ) → Lawful C (turn ∷ H) → Finishes turn s t → open_order H s t ≡ Some k
    → names (order_at C H k) h ≡ true → is_collected C H k h ≡ true
finished_collected C turn H s t k h l f o named =
    let own = open_known C H s t k l.0 o in
    let e : turn.event ≡ Finish s t = f.event in
    let due' : turn.reply ≡ due C H (Finish s t) = rw e at l.1 in
    let member : contains own.order.named h ≡ true = rw own.is at named in
    finish_found C H s t k h turn.reply due' f.accepted o named ((known C H k own.order l.0 own.is).names_harts h member)

-- the ticket of a live post stays open
stays_open : (C : Setup) (event : Event) (r : Reply) (H : History) (s h : ℕ) (x : Sent) → Lawful C (turn_of event r ∷ H) → IsAcceptedPost C H s h x → IsLive C H h x
    → open_order (turn_of event r ∷ H) x.sender x.request.ticket ≡ Some x.order
stays_open C event r H s h x l p v =
    elim (open_stays C event r H x.sender x.request.ticket x.order l.1 v.is_open) [
      | inl o ↦ o
      | inr f ↦ absurd (false≢true (sym v.unacked ∙ collected_acked C H x.order h (finished_collected C (turn_of event r) H x.sender x.request.ticket x.order h l f v.is_open p.named)))
    ]

-- it stays unacknowledged, unless its receiver serves and acknowledges it
abbrev Unserved : Setup → Event → Reply → History → ℕ → Sent → Type 0
Unserved C event r H h x = (b : ℕ) → event ≡ Ack b → is_ok r ≡ true → b ≡ h → is_served (served C H b) x.order ≡ false

stays_unacked : (C : Setup) (event : Event) (r : Reply) (H : History) (s h : ℕ) (x : Sent) → Lawful C H → IsAcceptedPost C H s h x → IsLive C H h x → Unserved C event r H h x
    → is_acked C (turn_of event r ∷ H) x.order h ≡ false
stays_unacked C (Ack b) r H s h x l p v f =
    false_from_ne_true _ (λ z. elim (or3 (is_ok r) (eqb b h) (is_served (served C H b) x.order) (is_acked C H x.order h) z) [
      | inl n ↦ false≢true (sym (f b refl n.0 (eqb-true b h n.1)) ∙ n.2)
      | inr y ↦ false≢true (sym v.unacked ∙ y)
    ])
stays_unacked C (AckSelf b t) r H s h x l p v f =
    false_from_ne_true _ (λ z. elim (or3 (is_progress r) (eqb b h) (is_order (open_order H b t) x.order) (is_acked C H x.order h) z) [
      | inl n ↦ let own = open_known C H b t x.order l (order_is (open_order H b t) x.order n.2) in
          p.apart (sym p.opened.sender ∙ (one_sender C H x.order p.opened.order own.order p.opened.is own.is ∙ (own.sender ∙ eqb-true b h n.1)))
      | inr y ↦ false≢true (sym v.unacked ∙ y)
    ])
stays_unacked C _ r H s h x l p v f = v.unacked

stays_live : (C : Setup) (event : Event) (r : Reply) (H : History) (s h : ℕ) (x : Sent) → Lawful C (turn_of event r ∷ H) → IsAcceptedPost C H s h x → IsLive C H h x
    → Unserved C event r H h x → IsLive C (turn_of event r ∷ H) h x
stays_live C event r H s h x l p v f = record {
  is_open = stays_open C event r H s h x l p v;
  unacked = stays_unacked C event r H s h x l.0 p v f;
}

-- what is of another order than all that is served is not served
other_unserved : (o : Option Sent) (k : ℕ) → ((x : Sent) → o ≡ Some x → x.order ≡ k → ⊥) → is_served o k ≡ false
other_unserved None k f = refl
other_unserved (Some x) k f = ne_eqb x.order k (λ e. f x refl e)

-- what waits stays live
waits_stay : (C : Setup) (event : Event) (r : Reply) (H : History) (s h : ℕ) → Lawful C (turn_of event r ∷ H) → All (IsLive C H h) (waiting_posts C H s h)
    → All (IsLive C (turn_of event r ∷ H) h) (waiting_posts C H s h)
waits_stay C event r H s h l all = λ k d within.
    let x = slice_index_or (waiting_posts C H s h) k d in
    stays_live C event r H s h x l (waiting_known C H s h l.0 k d within) (all k d within)
    (λ b _ _ same. other_unserved (served C H b) x.order (λ y e q. served_is_other C H s h y l.0 (rw same at e) k d within q))

-- a new post is live
pub fresh_unacked : (C : Setup) (H : History) (s t k h : ℕ) → Lawful C H → open_order H s t ≡ Some k → is_posted H k h ≡ false → (s ≡ h → ⊥) → is_acked C H k h ≡ false
fresh_unacked C H s t k h l o fresh apart =
    let own = open_known C H s t k l o in
    false_from_ne_true (is_acked C H k h) (λ y. elim (acked_posted C H k h l y) [
      | inl p ↦ false≢true (sym fresh ∙ p)
      | inr i ↦ apart (sym own.sender ∙ (one_sender C H k own.order i.order own.is i.is ∙ i.sender))
    ])

new_live : (C : Setup) (H : History) (s t h : ℕ) (r : Reply) → Lawful C (turn_of (Post s t h) r ∷ H) → is_ok r ≡ true
    → All (IsLive C (turn_of (Post s t h) r ∷ H) h) (sent_of C H s t (open_order H s t))
new_live C H s t h r l z =
    sent_each C H (IsLive C (turn_of (Post s t h) r ∷ H) h) s t (open_order H s t)
    (λ k o. let f = post_found C H s t h r l.1 z in
    let same : f.order ≡ k = cc (f.is, o) in
    record { is_open = o; unacked = fresh_unacked C H s t k h l.0 o (rw (← same) f.fresh) f.apart })

All-drop_more : {A : Type 0} (P : A → Type 0) (n : ℕ) (xs : List A) → All P (drop n xs) → All P (drop (suc n) xs)
All-drop_more P zero [] h = h
All-drop_more P zero (x ∷ xs) h = All-tail P x xs h
All-drop_more P (suc n) [] h = h
All-drop_more P (suc n) (x ∷ xs) h = All-drop_more P n xs h

took : (P : Sent → Type 0) (ts : List Request) (r : Reply) (xs : List Sent) → All P (drop (length ts) xs) → All P (drop (length (ts ++ taken_request r)) xs)
took P ts (reply.Taken request) xs w = rw (taken_length (reply.Taken request) ts refl) (All-drop_more P (length ts) xs w)
took P ts _ xs w = rw append-nil w

waits_step : (C : Setup) (event : Event) (r : Reply) (H : History) (s h : ℕ) → Lawful C (turn_of event r ∷ H) → All (IsLive C H h) (waiting_posts C H s h)
    → All (IsLive C (turn_of event r ∷ H) h) (waiting_posts C (turn_of event r ∷ H) s h)
waits_step C (Post a t b) r H s h l all =
    let P = IsLive C (turn_of (Post a t b) r ∷ H) h in
    by_test (λ v. All P (drop (length (taken H s h)) (cond v (posts C H s h ++ sent_of C H a t (open_order H a t)) (posts C H s h)))) (is_ok r && are_same a b s h)
    (λ z. let y = and3 (is_ok r) (eqb a s) (eqb b h) z in
    let bh : b ≡ h = eqb-true b h y.2 in
    rw (drop-append-le (length (taken H s h)) (posts C H s h) (sent_of C H a t (open_order H a t)) (taken_within C H s h l.0))
    (All-append P (waiting_posts C H s h) (sent_of C H a t (open_order H a t)) (waits_stay C (Post a t b) r H s h l all)
    (subst (λ (i : ℕ). All (IsLive C (turn_of (Post a t b) r ∷ H) i) (sent_of C H a t (open_order H a t))) bh (new_live C H a t b r l y.0))))
    (λ _. waits_stay C (Post a t b) r H s h l all)
waits_step C (Take b a) r H s h l all =
    let P = IsLive C (turn_of (Take b a) r ∷ H) h in
    by_test (λ v. All P (drop (length (cond v (taken H s h ++ taken_request r) (taken H s h))) (posts C H s h))) (are_same a b s h)
    (λ _. took P (taken H s h) r (posts C H s h) (waits_stay C (Take b a) r H s h l all)) (λ _. waits_stay C (Take b a) r H s h l all)
waits_step C event r H s h l all = waits_stay C event r H s h l all

pub waiting_live : (C : Setup) (H : History) (s h : ℕ) → Lawful C H → All (IsLive C H h) (waiting_posts C H s h)
waiting_live C [] s h l = All-nil (IsLive C [] h)
waiting_live C (turn ∷ H) s h l = waits_step C turn.event turn.reply H s h l (waiting_live C H s h l.0)

-- what is served is live
first_live : (C : Setup) (H : History) (h s : ℕ) (x : Sent) → Lawful C H → slice_get (posts C H s h) (length (taken H s h)) ≡ Some x → IsLive C H h x
first_live C H h s x l e =
    let n = length (taken H s h) in
    All-head (IsLive C H h) x (drop (suc n) (posts C H s h)) (subst (All (IsLive C H h)) (drop_slice_get n (posts C H s h) x e) (waiting_live C H s h l))

serving_stays : (C : Setup) (event : Event) (r : Reply) (H : History) (h : ℕ) (x : Sent) → Lawful C (turn_of event r ∷ H) → served C H h ≡ Some x → IsLive C H h x
    → ((b : ℕ) → event ≡ Ack b → is_ok r ≡ true → b ≡ h → ⊥) → IsLive C (turn_of event r ∷ H) h x
serving_stays C event r H h x l q v f = stays_live C event r H x.sender h x l (served_post C H h x l.0 q) v (λ b is z same. absurd (f b is z same))

serves_step : (C : Setup) (event : Event) (r : Reply) (H : History) (h : ℕ) (x : Sent) → Lawful C (turn_of event r ∷ H) → (served C H h ≡ Some x → IsLive C H h x)
    → served_after C event r H h (served C H h) ≡ Some x → IsLive C (turn_of event r ∷ H) h x
serves_step C (Take b a) r H h x l old e =
    by_test (λ v. cond v (slice_get (posts C H a b) (length (taken H a b))) (served C H h) ≡ Some x → IsLive C (turn_of (Take b a) r ∷ H) h x) (is_taken r && eqb b h)
    (λ z q. let bh : b ≡ h = eqb-true b h (and_parts (is_taken r) (eqb b h) z).1 in
    let p = All-slice_get (IsAcceptedPost C H a b) (posts C H a b) (length (taken H a b)) x (posts_known C H a b l.0) q in
    subst (λ (i : ℕ). IsLive C (turn_of (Take b a) r ∷ H) i x) bh
    (stays_live C (Take b a) r H a b x l p (first_live C H b a x l.0 q) (λ c is _ _. absurd (cc (is)))))
    (λ _ q. serving_stays C (Take b a) r H h x l q (old q) (λ c is _ _. cc (is))) e
serves_step C (Ack b) r H h x l old e =
    by_test (λ v. cond v None (served C H h) ≡ Some x → IsLive C (turn_of (Ack b) r ∷ H) h x) (is_ok r && eqb b h)
    (λ _ q. absurd cc)
    (λ z q. serving_stays C (Ack b) r H h x l q (old q) (λ c is t same.
    let bc : b ≡ c = cc in
    false≢true (sym z ∙ and_from (is_ok r) (eqb b h) t (eq-eqb b h (bc ∙ same))))) e
serves_step C event r H h x l old e = serving_stays C event r H h x l e (old e) (λ c is _ _. cc (is))

pub served_live : (C : Setup) (H : History) (h : ℕ) (x : Sent) → Lawful C H → served C H h ≡ Some x → IsLive C H h x
served_live C [] h x l e = absurd cc
served_live C (turn ∷ H) h x l e = serves_step C turn.event turn.reply H h x l (served_live C H h x l.0) e
