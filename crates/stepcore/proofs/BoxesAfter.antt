-- The mailboxes after an event are those that the longer history leaves.
use Rattle.std.proofs.Common.{◌≡◌, ℕ, zero, suc, ◌+◌, ◌*◌, ◌-◌, ◌<◌, ◌≤◌, Bool, true, false, cond, ◌&&◌, ◌||◌, not, List, [], ◌∷◌, ◌++◌, length, drop, map, Option, Some, None, slice_get, refl, ap, sym, ◌∙◌, subst, arith, eqb, leb, length-append, add-one}
use Rattle.std.specs.Prelude.{slice_set, unwrap_or}
use Rattle.std.proofs.lemmas.Bool.{and_parts, and_from, eqb-true, eq-eqb, false≢true, lt-ltb}
use Rattle.std.proofs.lemmas.Bool.Decides.{nat_tests}
use Rattle.std.proofs.lemmas.List.{append-nil, length-map, drop-append-le}
use Rattle.pte.specs.declared.address.What.{What}
use Rattle.spaces.proofs.Lists.{slice_get-set_same, slice_get-set_other}
use Rattle.shoot.specs.Request.{Request}
use Rattle.shoot.specs.Mailbox.{MailboxState, empty_mailbox, after_post, after_take, after_release, after_close, can_release, with_request}
use Rattle.shoot.specs.Tickets.{TicketTable, tells}
use Rattle.pte.specs.declared.TheConstants.{MAX_HARTS}
use Rattle.shoot.specs.declared.tickets.Ticket.{Ticket}
use Rattle.shoot.proofs.HartSets.{contains_where}
use Rattle.history.specs.Setup.{Setup}
use Rattle.history.specs.declared.event.Event.{Event}
use Rattle.history.specs.declared.event.Event.TheVariants.{Post, Take, AckSelf, Collect, Close}
use Rattle.history.specs.declared.refusal.Refusal.TheVariants.{NoHart}
use Rattle.history.specs.declared.reply.Reply.{Reply}
use Rattle.history.specs.declared.reply.Reply.TheVariants as reply
use Rattle.history.specs.Turns.{History, is_progress, are_same}
use Rattle.history.specs.Orders.{Order, order_at, open_order, what_of}
use Rattle.history.specs.Mailboxes.{Sent, sent_of, posts, accepted, taken, waiting, is_closed}
use Rattle.history.specs.Acknowledgements.{is_acked, is_collected, outstanding}
use Rattle.history.specs.Due.{due}
use Rattle.history.specs.Runs.{with_turn}
use Rattle.history.proofs.Mailboxes.{map_append}
use Rattle.laws.specs.Outstanding.{is_collectable}
use Rattle.laws.proofs.Tools.{by_test}
use Rattle.laws.proofs.Accepted.{passed, progress_accepted, post_found}
use Rattle.laws.proofs.Posts.{taken_within}
use Rattle.laws.proofs.Outstanding.{counts, can_release as releases}
use Rattle.stepcore.specs.State.{State, IsMachine, mailbox_index, tickets_at, mailbox_at}
use Rattle.stepcore.specs.Changes.{what_in, is_collectable as is_collectable_in, mailboxes_after}
use Rattle.stepcore.specs.Stands.{Stands, ticket_held, mailbox_of}
use Rattle.stepcore.proofs.TicketsHeld.{ticket_told, what_told}
use Rattle.stepcore.proofs.Tools.{pair_parts}
use Rattle.stepcore.proofs.BoxReplies.{hart_below, order_of}
use Rattle.stepcore.proofs.Places.{place_below, same_place}

abbrev mailbox_with : List Request → ℕ → Bool → ℕ → MailboxState
mailbox_with waiting outstanding closed capacity = record { waiting = waiting; outstanding = outstanding; closed = closed; capacity = capacity }

abbrev request_of : Sent → Request
request_of sent = sent.request

-- the mailbox of a pair in a list of mailboxes
abbrev pub mailbox_in : List MailboxState → ℕ → ℕ → MailboxState
mailbox_in mailboxes s h = unwrap_or (slice_get mailboxes (mailbox_index s h)) (empty_mailbox 0)

pub mailbox_put : (n : ℕ) (xs : List MailboxState) (a b s h : ℕ) (v : MailboxState) → length xs ≡ n * n → a < n → b < n
    → mailbox_in (slice_set xs (mailbox_index a b) v) s h ≡ cond (are_same a b s h) v (mailbox_in xs s h)
mailbox_put n xs a b s h v count la lb =
    by_test (λ t. mailbox_in (slice_set xs (mailbox_index a b) v) s h ≡ cond t v (mailbox_in xs s h)) (are_same a b s h)
    (λ e. let p = and_parts (eqb a s) (eqb b h) e in
    let below : mailbox_index a b < length xs = rw count (place_below n a b la lb) in
    subst (λ (i : ℕ). mailbox_in (slice_set xs (mailbox_index a b) v) i h ≡ v) (eqb-true a s p.0)
    (subst (λ (i : ℕ). mailbox_in (slice_set xs (mailbox_index a b) v) a i ≡ v) (eqb-true b h p.1)
    (ap (λ (o : Option MailboxState). unwrap_or o (empty_mailbox 0)) (slice_get-set_same xs (mailbox_index a b) v below))))
    (λ e. ap (λ (o : Option MailboxState). unwrap_or o (empty_mailbox 0)) (slice_get-set_other xs (mailbox_index a b) (mailbox_index s h) v (λ i.
    let q = same_place a b s h i in
    false≢true (sym e ∙ and_from (eqb a s) (eqb b h) (eq-eqb a s q.0) (eq-eqb b h q.1)))))

-- the requests that wait, once one is accepted and once one is taken
waits_more : (C : Setup) (H : History) (s t k n : ℕ) (xs : List Sent) (o : Option ℕ) → o ≡ Some k → n ≤ length xs
    → drop n (map request_of xs) ++ record { ticket = t; what = what_of C H o } ∷ [] ≡ drop n (map request_of (xs ++ sent_of C H s t o))
waits_more C H s t k n xs None e l = absurd cc
waits_more C H s t k n xs (Some j) e l =
    let new = record { ticket = t; what = what_of C H (Some j) } ∷ [] in
    let within : n ≤ length (map request_of xs) = rw (length-map xs request_of) l in
    sym (ap (drop n) (map_append request_of xs (sent_of C H s t (Some j))) ∙ drop-append-le n (map request_of xs) new within)

drop_one : {A : Type 0} (n : ℕ) (xs : List A) → drop 1 (drop n xs) ≡ drop (suc n) xs
drop_one zero xs = refl
drop_one (suc n) [] = refl
drop_one (suc n) (x ∷ xs) = drop_one n xs

waits_less : (ts : List Request) (x : Request) (xs : List Request) → drop 1 (drop (length ts) xs) ≡ drop (length (ts ++ x ∷ [])) xs
waits_less ts x xs = drop_one (length ts) xs ∙ rw (length-append ts (x ∷ []), add-one) refl

module _ (C : Setup) (m : State) (H : History) (st : Stands C m H) (is : IsMachine m) where
  hart_there : (h : ℕ) → h < C.harts → h < length m.harts
  hart_there h l = let n = ap (λ (S : Setup). S.harts) st.setup in omega (arith, l)

  -- the mailbox of a pair of harts is replaced
  put_stands : (a b s h : ℕ) (v new : MailboxState) → a < C.harts → b < C.harts → s < C.harts → h < C.harts → (a ≡ s → b ≡ h → v ≡ new)
      → mailbox_in (slice_set m.mailboxes (mailbox_index a b) v) s h ≡ cond (are_same a b s h) new (mailbox_of C H s h)
  put_stands a b s h v new la lb ls lh f =
      mailbox_put (length m.harts) m.mailboxes a b s h v is.mailboxes (hart_there a la) (hart_there b lb)
      ∙ by_test (λ t. t ≡ are_same a b s h → cond t v (mailbox_at m s h) ≡ cond t new (mailbox_of C H s h)) (are_same a b s h)
      (λ e _. let p = and_parts (eqb a s) (eqb b h) e in f (eqb-true a s p.0) (eqb-true b h p.1))
      (λ _ _. st.mailboxes s h ls lh) refl

  what_asks : (s t : ℕ) → s < C.harts → what_in (tickets_at m s) t ≡ what_of C H (open_order H s t)
  what_asks s t ls =
      ap (λ (table : TicketTable). what_in table t) (st.tickets s ls)
      ∙ what_told C H s t st.lawful

  close_mailboxes : (a b : ℕ) (r : Reply) → r ≡ due C H (Close a b) → (s h : ℕ) → s < C.harts → h < C.harts
      → mailbox_in (mailboxes_after m (Close a b) r) s h ≡ mailbox_of C (with_turn (Close a b) r H) s h
  close_mailboxes a b reply.Ok d s h ls lh =
      let p = pair_parts C a b (passed _ NoHart _ reply.Ok (sym d) refl).0 in
      put_stands a b s h (after_close (mailbox_at m a b)) (after_close (mailbox_of C H s h)) p.first p.second ls lh
      (λ ea eb. rw (ea, eb) (ap after_close (st.mailboxes s h ls lh)))
      ∙ by_test (λ v. cond v (after_close (mailbox_of C H s h)) (mailbox_of C H s h) ≡ mailbox_with (waiting C H s h) (outstanding C H s h) (v || is_closed H s h) C.capacity) (are_same a b s h)
      (λ _. refl) (λ _. refl)
  close_mailboxes a b _ d s h ls lh = st.mailboxes s h ls lh

  take_mailboxes : (b a : ℕ) (r : Reply) → r ≡ due C H (Take b a) → (s h : ℕ) → s < C.harts → h < C.harts
      → mailbox_in (mailboxes_after m (Take b a) r) s h ≡ mailbox_of C (with_turn (Take b a) r H) s h
  take_mailboxes b a (reply.Taken x) d s h ls lh =
      let p = pair_parts C b a (passed _ NoHart _ (reply.Taken x) (sym d) refl).0 in
      put_stands a b s h (after_take (mailbox_at m a b)) (after_take (mailbox_of C H s h)) p.second p.first ls lh
      (λ ea eb. rw (ea, eb) (ap after_take (st.mailboxes s h ls lh)))
      ∙ by_test (λ v. cond v (after_take (mailbox_of C H s h)) (mailbox_of C H s h)
      ≡ mailbox_with (drop (length (cond v (taken H s h ++ x ∷ []) (taken H s h))) (accepted C H s h)) (outstanding C H s h) (is_closed H s h) C.capacity) (are_same a b s h)
      (λ _. ap (λ (ws : List Request). mailbox_with ws (outstanding C H s h) (is_closed H s h) C.capacity) (waits_less (taken H s h) x (accepted C H s h)))
      (λ _. refl)
  take_mailboxes b a _ d s h ls lh =
      st.mailboxes s h ls lh
      ∙ by_test (λ v. mailbox_of C H s h ≡ mailbox_with (drop (length (cond v (taken H s h ++ []) (taken H s h))) (accepted C H s h)) (outstanding C H s h) (is_closed H s h) C.capacity) (are_same a b s h)
      (λ _. rw append-nil refl) (λ _. refl)

  -- a post that is accepted finds room
  posted : (a t b : ℕ) → reply.Ok ≡ due C H (Post a t b) → (x : Request) → after_post (mailbox_of C H a b) x ≡ with_request (mailbox_of C H a b) x
  posted a t b d x =
      let f = post_found C H a t b reply.Ok d refl in
      rw (f.unclosed, not_full C.capacity (outstanding C H a b) f.room) refl
    where
      not_full : (capacity n : ℕ) → n < capacity → leb capacity n ≡ false
      not_full capacity n l = grind (arith, nat_tests)

  post_mailboxes : (a t b : ℕ) (r : Reply) → r ≡ due C H (Post a t b) → (s h : ℕ) → s < C.harts → h < C.harts
      → mailbox_in (mailboxes_after m (Post a t b) r) s h ≡ mailbox_of C (with_turn (Post a t b) r H) s h
  post_mailboxes a t b reply.Ok d s h ls lh =
      let p = pair_parts C a b (passed _ NoHart _ reply.Ok (sym d) refl).0 in
      let f = post_found C H a t b reply.Ok d refl in
      let x : Request = record { ticket = t; what = what_of C H (open_order H a t) } in
      let new = sent_of C H a t (open_order H a t) in
      put_stands a b s h (after_post (mailbox_at m a b) (record { ticket = t; what = what_in (tickets_at m a) t })) (with_request (mailbox_of C H s h) x) p.first p.second ls lh
      (λ ea eb.
      ap (λ (w : What). after_post (mailbox_at m a b) (record { ticket = t; what = w })) (what_asks a t p.first)
      ∙ ap (λ (mailbox : MailboxState). after_post mailbox x) (st.mailboxes a b p.first p.second)
      ∙ posted a t b d x
      ∙ rw (ea, eb) refl)
      ∙ by_test (λ v. cond v (with_request (mailbox_of C H s h) x) (mailbox_of C H s h)
      ≡ mailbox_with (drop (length (taken H s h)) (map request_of (cond v (posts C H s h ++ new) (posts C H s h)))) (cond v (outstanding C H s h + 1) (outstanding C H s h)) (is_closed H s h) C.capacity) (are_same a b s h)
      (λ _. ap (λ (ws : List Request). mailbox_with ws (outstanding C H s h + 1) (is_closed H s h) C.capacity)
      (waits_more C H a t f.order (length (taken H s h)) (posts C H s h) (open_order H a t) f.is (taken_within C H s h st.lawful)))
      (λ _. refl)
      ∙ ap (λ (n : ℕ). mailbox_with (waiting C (with_turn (Post a t b) reply.Ok H) s h) n (is_closed H s h) C.capacity)
      (sym (counts C (record { event = Post a t b; reply = reply.Ok }) H s h (st.lawful, d)))
  post_mailboxes a t b _ d s h ls lh = st.mailboxes s h ls lh

  ack_self_mailboxes : (b t : ℕ) (r : Reply) → r ≡ due C H (AckSelf b t) → (s h : ℕ) → s < C.harts → h < C.harts
      → mailbox_at m s h ≡ mailbox_of C (with_turn (AckSelf b t) r H) s h
  ack_self_mailboxes b t r d s h ls lh =
      st.mailboxes s h ls lh
      ∙ ap (λ (n : ℕ). mailbox_with (waiting C H s h) n (is_closed H s h) C.capacity) (sym (counts C (record { event = AckSelf b t; reply = r }) H s h (st.lawful, d)))

  -- a ticket says whether an acknowledgement can be collected
  collectable_with : (o : Option ℕ) (h : ℕ) → h < MAX_HARTS → ((k : ℕ) → o ≡ Some k → (order : Order) × (order_at C H k ≡ Some order))
      → (tells (λ (x : Ticket). x.acked) (ticket_held C H o) h && not (tells (λ (x : Ticket). x.collected) (ticket_held C H o) h)) ≡ is_collectable C H o h
  collectable_with None h l f = refl
  collectable_with (Some k) h l f = rw ((f k refl).1, contains_where (is_acked C H k) h l, contains_where (is_collected C H k) h l) refl

  collectable_is : (s t h : ℕ) → s < C.harts → h < C.harts → is_collectable_in (tickets_at m s) t h ≡ is_collectable C H (open_order H s t) h
  collectable_is s t h ls lh =
      ap (λ (table : TicketTable). is_collectable_in table t h) (st.tickets s ls)
      ∙ ap (λ (x : Option Ticket). tells (λ (y : Ticket). y.acked) x h && not (tells (λ (y : Ticket). y.collected) x h)) (ticket_told C H s t st.lawful)
      ∙ collectable_with (open_order H s t) h (hart_below C m H st is h lh) (λ k e. order_of C m H st is s t k e)

  -- the mailbox of the history once this many are outstanding
  abbrev counted : ℕ → ℕ → ℕ → MailboxState
  counted s h n = mailbox_with (waiting C H s h) n (is_closed H s h) C.capacity

  -- an acknowledgement is collected exactly where there is one to collect
  collect_put : (a t b : ℕ) (r : Reply) → r ≡ due C H (Collect a t b) → is_progress r ≡ true → (s h : ℕ) → s < C.harts → h < C.harts
      → mailbox_in (cond (is_collectable_in (tickets_at m a) t b && can_release (mailbox_at m a b)) (slice_set m.mailboxes (mailbox_index a b) (after_release (mailbox_at m a b))) m.mailboxes) s h
      ≡ counted s h (cond (are_same a b s h && is_collectable C H (open_order H a t) b) (outstanding C H s h - 1) (outstanding C H s h))
  collect_put a t b r d z s h ls lh =
      let p = pair_parts C a b (passed _ NoHart _ r (sym d) (progress_accepted r z)).0 in
      let collectable = is_collectable C H (open_order H a t) b in
      let released = slice_set m.mailboxes (mailbox_index a b) (after_release (mailbox_at m a b)) in
      ap (λ (v : Bool). mailbox_in (cond (v && can_release (mailbox_at m a b)) released m.mailboxes) s h) (collectable_is a t b p.first p.second)
      ∙ by_test (λ v. mailbox_in (cond (v && can_release (mailbox_at m a b)) released m.mailboxes) s h ≡ counted s h (cond (are_same a b s h && v) (outstanding C H s h - 1) (outstanding C H s h))) collectable
      (λ e.
      let less = releases C H a t b r (st.lawful, d) z e in
      let can : can_release (mailbox_at m a b) ≡ true = ap can_release (st.mailboxes a b p.first p.second) ∙ lt-ltb _ _ less in
      ap (λ (v : Bool). mailbox_in (cond v released m.mailboxes) s h) can
      ∙ put_stands a b s h (after_release (mailbox_at m a b)) (after_release (mailbox_of C H s h)) p.first p.second ls lh
      (λ ea eb. rw (ea, eb) (ap after_release (st.mailboxes s h ls lh)))
      ∙ by_test (λ v. cond v (after_release (mailbox_of C H s h)) (mailbox_of C H s h) ≡ counted s h (cond (v && true) (outstanding C H s h - 1) (outstanding C H s h))) (are_same a b s h)
      (λ _. refl) (λ _. refl))
      (λ _. st.mailboxes s h ls lh
      ∙ by_test (λ v. mailbox_of C H s h ≡ counted s h (cond (v && false) (outstanding C H s h - 1) (outstanding C H s h))) (are_same a b s h) (λ _. refl) (λ _. refl))

  collect_mailboxes : (a t b : ℕ) (r : Reply) → r ≡ due C H (Collect a t b) → (s h : ℕ) → s < C.harts → h < C.harts
      → mailbox_in (mailboxes_after m (Collect a t b) r) s h ≡ mailbox_of C (with_turn (Collect a t b) r H) s h
  collect_mailboxes a t b r d s h ls lh =
      let collectable = is_collectable C H (open_order H a t) b in
      let released = slice_set m.mailboxes (mailbox_index a b) (after_release (mailbox_at m a b)) in
      by_test (λ v. v ≡ is_progress r → mailbox_in (cond (v && (is_collectable_in (tickets_at m a) t b && can_release (mailbox_at m a b))) released m.mailboxes) s h
      ≡ counted s h (cond (v && (are_same a b s h && collectable)) (outstanding C H s h - 1) (outstanding C H s h))) (is_progress r)
      (λ z _. collect_put a t b r d z s h ls lh)
      (λ _ _. st.mailboxes s h ls lh) refl
      ∙ ap (counted s h) (sym (counts C (record { event = Collect a t b; reply = r }) H s h (st.lawful, d)))

  pub mailboxes_stand : (event : Event) (r : Reply) → r ≡ due C H event → (s h : ℕ) → s < C.harts → h < C.harts
      → unwrap_or (slice_get (mailboxes_after m event r) (mailbox_index s h)) (empty_mailbox 0) ≡ mailbox_of C (with_turn event r H) s h
  mailboxes_stand (Post a t b) r d s h ls lh = post_mailboxes a t b r d s h ls lh
  mailboxes_stand (Take b a) r d s h ls lh = take_mailboxes b a r d s h ls lh
  mailboxes_stand (AckSelf b t) r d s h ls lh = ack_self_mailboxes b t r d s h ls lh
  mailboxes_stand (Collect a t b) r d s h ls lh = collect_mailboxes a t b r d s h ls lh
  mailboxes_stand (Close a b) r d s h ls lh = close_mailboxes a b r d s h ls lh
  mailboxes_stand _ r d s h ls lh = st.mailboxes s h ls lh
