-- The counter of a mailbox: what each event adds or takes away, that it stays within the capacity,
-- and that it counts what waits.
use Rattle.std.proofs.Common.{◌≡◌, ℕ, suc, ◌+◌, ◌-◌, ◌<◌, ◌≤◌, Bool, true, false, cond, ◌&&◌, ◌||◌, not, [], ◌∷◌, ◌++◌, length, map, Option, Some, None, refl, ap, sym, ◌∙◌, subst, arith, eqb, inl, inr}
use Rattle.std.specs.Prelude.{All}
use Rattle.std.specs.List.{slice_index_or}
use Rattle.std.proofs.lemmas.Bool.{and_parts, eqb-true, eq-eqb, false≢true, not-true, not_from_false, false_from_ne_true, true_from_ne_false}
use Rattle.std.proofs.lemmas.List.{length-map, length-drop}
use Rattle.std.proofs.lemmas.List.Elements.{All-weaker}
use Rattle.history.specs.Setup.{Setup}
use Rattle.history.specs.declared.event.Event.{Event}
use Rattle.history.specs.declared.event.Event.TheVariants.{Post, AckSelf, Collect}
use Rattle.history.specs.declared.reply.Reply.{Reply}
use Rattle.history.specs.Turns.{Turn, History, is_ok, is_progress, are_same}
use Rattle.history.specs.Orders.{order_at, open_order, is_order}
use Rattle.history.specs.Mailboxes.{Sent, sent_of, posts, taken, waiting}
use Rattle.history.specs.Acknowledgements.{is_acked, is_collected, count_where, outstanding}
use Rattle.history.specs.Due.{due, Lawful}
use Rattle.laws.specs.Posts.{IsAcceptedPost, IsLive, IsOfOther, waiting_posts}
use Rattle.laws.specs.Outstanding.{is_collectable, outstanding_after}
use Rattle.laws.proofs.Tools.{by_test, and3}
use Rattle.laws.proofs.Accepted.{turn_of, post_found, collect_found}
use Rattle.laws.proofs.Orders.{open_known, one_sender}
use Rattle.laws.proofs.Posts.{order_is, posts_known, distinct}
use Rattle.laws.proofs.Waiting.{posted_stands}
use Rattle.laws.proofs.Acknowledged.{collected_acked, acked_posted}
use Rattle.laws.proofs.Live.{fresh_unacked, waiting_live}
use Rattle.laws.proofs.Counting.{Stands, stands, count_agree, count_append, count_less, rest_counts, rest_counts_less}

-- the post is not collected
abbrev uncollected : Setup → History → ℕ → Sent → Bool
uncollected C H h x = not (is_collected C H x.order h)

unacked_uncollected : (C : Setup) (H : History) (k h : ℕ) → is_acked C H k h ≡ false → not (is_collected C H k h) ≡ true
unacked_uncollected C H k h a = not_from_false _ (false_from_ne_true _ (λ y. false≢true (sym a ∙ collected_acked C H k h y)))

-- a new post adds one
new_counts : (C : Setup) (H : History) (s t h : ℕ) (r : Reply) → Lawful C H → r ≡ due C H (Post s t h) → is_ok r ≡ true → (o : Option ℕ) → o ≡ open_order H s t
    → count_where (uncollected C H h) (sent_of C H s t o) ≡ 1
new_counts C H s t h r l d z None q = let f = post_found C H s t h r d z in absurd (cc (f.is, q))
new_counts C H s t h r l d z (Some k) q =
    let f = post_found C H s t h r d z in
    let same : f.order ≡ k = cc (f.is, q) in
    rw (unacked_uncollected C H k h (fresh_unacked C H s t k h l (sym q) (rw (← same) f.fresh) f.apart)) refl

-- a post of s is of no order that another hart opened
of_sender : (C : Setup) (H : History) (a t s h k : ℕ) (x : Sent) → Lawful C H → open_order H a t ≡ Some k → IsAcceptedPost C H s h x → x.order ≡ k → a ≡ s
of_sender C H a t s h k x l o p e =
    let own = open_known C H a t k l o in
    sym own.sender ∙ (one_sender C H k own.order p.opened.order own.is (ap (order_at C H) (sym e) ∙ p.opened.is) ∙ p.opened.sender)

or_same : (b old : Bool) → (b ≡ true → old ≡ true) → (b || old) ≡ old
or_same true old f = sym (f refl)
or_same false old f = refl

-- an own acknowledgement is of no post
self_agrees : (C : Setup) (H : History) (b t s h : ℕ) (r : Reply) (x : Sent) → Lawful C H → IsAcceptedPost C H s h x
    → uncollected C (turn_of (AckSelf b t) r ∷ H) h x ≡ uncollected C H h x
self_agrees C H b t s h r x l p =
    ap not (or_same (is_progress r && (eqb b h && is_order (open_order H b t) x.order)) (is_collected C H x.order h) (λ z.
    let y = and3 (is_progress r) (eqb b h) (is_order (open_order H b t) x.order) z in
    absurd (p.apart (sym (of_sender C H b t s h x.order x l (order_is (open_order H b t) x.order y.2) p refl) ∙ eqb-true b h y.1))))

-- a Collect that collects nothing of the pair
collectable_at : (C : Setup) (H : History) (o : Option ℕ) (k h : ℕ) → o ≡ Some k → is_acked C H k h ≡ true → is_collected C H k h ≡ false → is_collectable C H o h ≡ true
collectable_at C H o k h e a n = rw (e, a, n) refl

collect_same : (C : Setup) (H : History) (a t b h : ℕ) (r : Reply) (x : Sent)
    → (is_progress r ≡ true → b ≡ h → open_order H a t ≡ Some x.order → is_acked C H x.order h ≡ true → is_collected C H x.order h ≡ true)
    → uncollected C (turn_of (Collect a t b) r ∷ H) h x ≡ uncollected C H h x
collect_same C H a t b h r x f =
    ap not (or_same (is_progress r && (eqb b h && (is_order (open_order H a t) x.order && is_acked C H x.order h))) (is_collected C H x.order h) (λ z.
    let y = and3 (is_progress r) (eqb b h) (is_order (open_order H a t) x.order && is_acked C H x.order h) z in
    let w = and_parts (is_order (open_order H a t) x.order) (is_acked C H x.order h) y.2 in
    f y.0 (eqb-true b h y.1) (order_is (open_order H a t) x.order w.0) w.1))

collect_agrees : (C : Setup) (H : History) (a t b s h : ℕ) (r : Reply) (x : Sent) → Lawful C H → IsAcceptedPost C H s h x
    → (is_progress r && (are_same a b s h && is_collectable C H (open_order H a t) b)) ≡ false
    → uncollected C (turn_of (Collect a t b) r ∷ H) h x ≡ uncollected C H h x
collect_agrees C H a t b s h r x l p none =
    collect_same C H a t b h r x (λ z bh o acked.
    true_from_ne_false (is_collected C H x.order h) (λ n.
    let c : is_collectable C H (open_order H a t) b ≡ true = rw bh (collectable_at C H (open_order H a t) x.order h o acked n) in
    false≢true (sym none ∙ rw (z, eq-eqb a s (of_sender C H a t s h x.order x l o p refl), eq-eqb b h bh, c) refl)))

-- a Collect that collects
pub record Collects (C : Setup) (H : History) (s t h : ℕ) : Type 0 where
  pub order : ℕ
  pub is : open_order H s t ≡ Some order
  pub acked : is_acked C H order h ≡ true
  pub uncollected : is_collected C H order h ≡ false
  pub apart : s ≡ h → ⊥

collects_with : (C : Setup) (H : History) (s t h : ℕ) (o : Option ℕ) → o ≡ open_order H s t → (s ≡ h → ⊥) → is_collectable C H o h ≡ true → Collects C H s t h
collects_with C H s t h None q apart c = absurd (false≢true c)
collects_with C H s t h (Some k) q apart c =
    let p = and_parts (is_acked C H k h) (not (is_collected C H k h)) c in
    record { order = k; is = sym q; acked = p.0; uncollected = not-true (is_collected C H k h) p.1; apart = apart }

collects : (C : Setup) (H : History) (s t h : ℕ) (r : Reply) → r ≡ due C H (Collect s t h) → is_progress r ≡ true → is_collectable C H (open_order H s t) h ≡ true → Collects C H s t h
collects C H s t h r d z c = collects_with C H s t h (open_order H s t) refl (collect_found C H s t h r d z).apart c

-- what is collected stands among the posts
collected_stands : (C : Setup) (H : History) (s t h : ℕ) → Lawful C H → (c : Collects C H s t h) → Stands c.order (posts C H s h)
collected_stands C H s t h l c =
    let own = open_known C H s t c.order l c.is in
    elim (acked_posted C H c.order h l c.acked) [
      | inl p ↦ subst (λ (i : ℕ). Stands c.order (posts C H i h)) own.sender (stands (posts C H own.order.sender h) c.order (posted_stands C H c.order h own.order l own.is p))
      | inr i ↦ absurd (c.apart (sym own.sender ∙ (one_sender C H c.order own.order i.order own.is i.is ∙ i.sender)))
    ]

collect_less : (C : Setup) (H : History) (s t h : ℕ) (r : Reply) → Lawful C H → is_progress r ≡ true → (c : Collects C H s t h)
    → outstanding C H s h ≡ suc (outstanding C (turn_of (Collect s t h) r ∷ H) s h)
collect_less C H s t h r l z c =
    let G = turn_of (Collect s t h) r ∷ H in
    count_less (uncollected C H h) (uncollected C G h) c.order
    (λ x e. (rw (e, c.uncollected) refl, rw (e, z, eq-eqb h h refl, c.is, eq-eqb c.order c.order refl, c.acked) refl))
    (posts C H s h)
    (λ i x within n. sym (collect_same C H s t h h r (slice_index_or (posts C H s h) i x) (λ _ _ o _. absurd (n (cc (o, c.is))))))
    (distinct C H s h l) (collected_stands C H s t h l c)

-- what each event makes of the counter
counts_step : (C : Setup) (event : Event) (r : Reply) (H : History) (s h : ℕ) → Lawful C (turn_of event r ∷ H)
    → outstanding C (turn_of event r ∷ H) s h ≡ outstanding_after C event r H s h (outstanding C H s h)
counts_step C (Post a t b) r H s h l =
    by_test (λ v. count_where (uncollected C H h) (cond v (posts C H s h ++ sent_of C H a t (open_order H a t)) (posts C H s h)) ≡ cond v (outstanding C H s h + 1) (outstanding C H s h)) (is_ok r && are_same a b s h)
    (λ z. let y = and3 (is_ok r) (eqb a s) (eqb b h) z in
    let bh : b ≡ h = eqb-true b h y.2 in
    let one : count_where (uncollected C H h) (sent_of C H a t (open_order H a t)) ≡ 1 =
    subst (λ (i : ℕ). count_where (uncollected C H i) (sent_of C H a t (open_order H a t)) ≡ 1) bh (new_counts C H a t b r l.0 l.1 y.0 (open_order H a t) refl) in
    let all = count_append (uncollected C H h) (posts C H s h) (sent_of C H a t (open_order H a t)) in
    omega (arith, one, all))
    (λ _. refl)
counts_step C (AckSelf b t) r H s h l =
    count_agree (uncollected C (turn_of (AckSelf b t) r ∷ H) h) (uncollected C H h) (posts C H s h)
    (All-weaker (IsAcceptedPost C H s h) (λ x. uncollected C (turn_of (AckSelf b t) r ∷ H) h x ≡ uncollected C H h x) (λ x p. self_agrees C H b t s h r x l.0 p) (posts C H s h) (posts_known C H s h l.0))
counts_step C (Collect a t b) r H s h l =
    let G = turn_of (Collect a t b) r ∷ H in
    by_test (λ v. outstanding C G s h ≡ cond v (outstanding C H s h - 1) (outstanding C H s h)) (is_progress r && (are_same a b s h && is_collectable C H (open_order H a t) b))
    (λ z. let y = and3 (is_progress r) (are_same a b s h) (is_collectable C H (open_order H a t) b) z in
    let w = and_parts (eqb a s) (eqb b h) y.1 in
    let as' : a ≡ s = eqb-true a s w.0 in
    let bh : b ≡ h = eqb-true b h w.1 in
    let less : outstanding C H a b ≡ suc (outstanding C G a b) = collect_less C H a t b r l.0 y.0 (collects C H a t b r l.1 y.0 y.2) in
    rw (← as', ← bh) (omega (arith, less)))
    (λ none. count_agree (uncollected C G h) (uncollected C H h) (posts C H s h)
    (All-weaker (IsAcceptedPost C H s h) (λ x. uncollected C G h x ≡ uncollected C H h x) (λ x p. collect_agrees C H a t b s h r x l.0 p none) (posts C H s h) (posts_known C H s h l.0)))
counts_step C _ r H s h l = refl

pub counts : (C : Setup) (turn : Turn) (H : History) (s h : ℕ) → Lawful C (turn ∷ H) → outstanding C (turn ∷ H) s h ≡ outstanding_after C turn.event turn.reply H s h (outstanding C H s h)
counts C turn H s h l = counts_step C turn.event turn.reply H s h l

-- it stays within the capacity
bounded_step : (C : Setup) (event : Event) (r : Reply) (H : History) (s h : ℕ) → r ≡ due C H event → outstanding C H s h ≤ C.capacity
    → outstanding_after C event r H s h (outstanding C H s h) ≤ C.capacity
bounded_step C (Post a t b) r H s h d old =
    by_test (λ v. cond v (outstanding C H s h + 1) (outstanding C H s h) ≤ C.capacity) (is_ok r && are_same a b s h)
    (λ z. let y = and3 (is_ok r) (eqb a s) (eqb b h) z in
    let room : outstanding C H s h < C.capacity = rw (← eqb-true a s y.1, ← eqb-true b h y.2) (post_found C H a t b r d y.0).room in
    omega arith)
    (λ _. old)
bounded_step C (Collect a t b) r H s h d old =
    by_test (λ v. cond v (outstanding C H s h - 1) (outstanding C H s h) ≤ C.capacity) (is_progress r && (are_same a b s h && is_collectable C H (open_order H a t) b))
    (λ _. omega arith) (λ _. old)
bounded_step C _ r H s h d old = old

pub bounded : (C : Setup) (H : History) (s h : ℕ) → Lawful C H → outstanding C H s h ≤ C.capacity
bounded C [] s h l = omega arith
bounded C (turn ∷ H) s h l = rw (counts C turn H s h l) (bounded_step C turn.event turn.reply H s h l.1 (bounded C H s h l.0))

-- it counts what waits, and more where an acknowledgement can be collected
length-waiting : (C : Setup) (H : History) (s h : ℕ) → length (waiting C H s h) ≡ length (waiting_posts C H s h)
length-waiting C H s h =
    let n = length (taken H s h) in
    omega (arith, length-drop n (map (λ (x : Sent). x.request) (posts C H s h)), length-map (posts C H s h) (λ (x : Sent). x.request), length-drop n (posts C H s h))

waiting_uncollected : (C : Setup) (H : History) (s h : ℕ) → Lawful C H → All (λ x. uncollected C H h x ≡ true) (waiting_posts C H s h)
waiting_uncollected C H s h l =
    All-weaker (IsLive C H h) (λ x. uncollected C H h x ≡ true) (λ x v. unacked_uncollected C H x.order h v.unacked) (waiting_posts C H s h) (waiting_live C H s h l)

pub waiting_counted : (C : Setup) (H : History) (s h : ℕ) → Lawful C H → length (waiting C H s h) ≤ outstanding C H s h
waiting_counted C H s h l =
    let r = rest_counts (uncollected C H h) (length (taken H s h)) (posts C H s h) (waiting_uncollected C H s h l) in
    omega (arith, r, length-waiting C H s h)

collecting_counted : (C : Setup) (H : History) (s t h : ℕ) → Lawful C H → (c : Collects C H s t h) → length (waiting C H s h) < outstanding C H s h
collecting_counted C H s t h l c =
    let r = rest_counts_less (uncollected C H h) c.order (length (taken H s h)) (posts C H s h) (waiting_uncollected C H s h l)
    (All-weaker (IsLive C H h) (IsOfOther c.order) (λ x v e. false≢true (sym v.unacked ∙ rw (← e) c.acked)) (waiting_posts C H s h) (waiting_live C H s h l))
    (λ x e. rw (e, c.uncollected) refl) (collected_stands C H s t h l c) in
    omega (arith, r, length-waiting C H s h)

pub can_release : (C : Setup) (H : History) (s t h : ℕ) (r : Reply) → Lawful C (turn_of (Collect s t h) r ∷ H) → is_progress r ≡ true
    → is_collectable C H (open_order H s t) h ≡ true → length (waiting C H s h) < outstanding C H s h
can_release C H s t h r l z c = collecting_counted C H s t h l.0 (collects C H s t h r l.1 z c)
