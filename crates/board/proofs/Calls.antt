-- The ticket of an unmapping stays open for it through every call but those that finish it or map a
-- leaf over its page.
use Rattle.std.proofs.Common.{◌≡◌, ◌≢◌, ◌∙◌, sym, ap, refl, subst, ℕ, ◌+◌, ◌==◌, ◌||◌, Bool, true, false, cond, List, [], ◌∷◌, length, Option, Some, None, Result, Ok, Err, is_some, inl, inr}
use Rattle.std.specs.Prelude.{◌&&◌, is_none, map, not, slice_set}
use Rattle.std.specs.Option.{option_map}
use Rattle.std.proofs.lemmas.Bool.{and_parts, cases_eq, eqb-true, false≢true}
use Rattle.spaces.proofs.Lists.{slice_get-set_other}
use Rattle.pte.specs.Address.{Overlap, Span, overlaps}
use Rattle.pte.specs.declared.address.What.{What}
use Rattle.pte.specs.declared.entry.Kind.{Kind}
use Rattle.pte.specs.declared.entry.Kind.TheVariants as kinds
use Rattle.pte.specs.declared.flags.PteFlags.{PteFlags}
use Rattle.pte.specs.Entry.{kind_of}
use Rattle.tlb.proofs.Overlapping.{overlaps-Overlap}
use Rattle.walk.specs.Pointers.{pointed, pointed_kind}
use Rattle.shoot.proofs.HartSets.{by_test}
use Rattle.shoot.specs.declared.tickets.Ticket.{Ticket}
use Rattle.shoot.specs.declared.tickets.TicketFault.{TicketFault}
use Rattle.shoot.specs.Tickets.{TicketTable, acked_by, after_acked, after_finish, after_open, changed, if_open, is_done_at, is_open, names, new_ticket, open_answer, tells, ticket_at, what_at, with_acked, with_collected, with_opened, with_posted, with_ticket}
use Rattle.spaces.specs.declared.faults.MapFault.{MapFault}
use Rattle.spaces.specs.declared.places.Place.{Place}
use Rattle.spaces.specs.declared.places.Place.TheVariants.{Space, Kernel}
use Rattle.spaces.specs.declared.wishes.Wish.{Wish}
use Rattle.spaces.specs.declared.wishes.Wish.TheVariants as wish
use Rattle.spaces.specs.Edits.{Store, place_of}
use Rattle.spaces.specs.Holders.{is_same_place}
use Rattle.history.specs.Due.{are_pair, is_number}
use Rattle.history.specs.declared.event.Scope.{Scope}
use Rattle.history.specs.declared.refusal.Refusal.{Refusal}
use Rattle.history.specs.Orders.{scope_request}
use Rattle.history.specs.declared.refusal.Refusal.TheVariants.{NoSpace}
use Rattle.history.specs.Refusal.{opening_refusal}
use Rattle.views.specs.declared.view.Cause.{Cause}
use Rattle.views.specs.declared.view.Cause.TheVariants.{Unmapped, Other}
use Rattle.views.specs.declared.view.Order.{Order}
use Rattle.views.specs.Orders.{IsLive, dropping, lies_over}
use Rattle.views.specs.OrderTurns.{armed, collected, fresh, marked, order_of_ticket, orders_after, self_acked, with_armed}
use Rattle.board.specs.declared.mapped.Mapped.TheVariants as mapped
use Rattle.board.specs.Ends.{after_close}
use Rattle.board.specs.Ports.{PortState, outbox_to}
use Rattle.board.specs.Answers.{after_ack_self, after_close_to, after_finish_of, after_flush, after_no_post, after_ordered, after_post, answer_or, asked_or_all, collected_by, flush_answer, flush_refusal, is_closed_to, opened, post_refusal, refused_if, tlb_served, with_tickets}
use Rattle.board.specs.Calls.{EachCallKeepsUnmapping, LeadsTo, Post, AckSelf, Collect, Finish, Flush, Unmap, Protect, MapStep, Serve, CloseTo, Translate, Fence, Switch}
use Rattle.board.specs.Collects.{IsCollected, after_look, after_looks, awaited_word, is_awaiting, look_at}
use Rattle.board.specs.Promises.{IsUnmapping}
use Rattle.board.specs.Tables.{after_edit, after_map, after_opened, after_store, after_switch, due_store, edit_answer, has_place, map_answer, mapped_by, mapped_of, named_refusal, page_request}
use Rattle.board.proofs.Ties.{later-order, mapped-order, none-open, opened-free, other-order}
use Rattle.board.proofs.Unmapping.{accepted, kept, kept-ack, kept-looks, kept-post}

-- ---- tickets

other-set : (T : TicketTable) (n m : ℕ) (x : Option Ticket) → n ≢ m → ticket_at (with_ticket T n x) m ≡ ticket_at T m
other-set T n m x apart = ap if_open (slice_get-set_other T.tickets n m x apart)

other-acked : (T : TicketTable) (n m hart : ℕ) → n ≢ m → ticket_at (acked_by T n hart) m ≡ ticket_at T m
other-acked T n m hart apart =
    by_test (λ b. ticket_at (cond b (after_acked T n hart) T) m ≡ ticket_at T m) (names T n hart)
    (λ _. other-set T n m (changed (with_acked T.hart hart) (ticket_at T n)) apart) (λ _. refl)

other-collected : (T : TicketTable) (n m from : ℕ) → n ≢ m → ticket_at (collected_by T n from) m ≡ ticket_at T m
other-collected T n m from apart =
    other-set (after_acked T n from) n m (changed (with_collected from) (ticket_at (after_acked T n from) n)) apart
    ∙ other-set T n m (changed (with_acked T.hart from) (ticket_at T n)) apart

-- a ticket that is opened is none that is open
opens-another : (T : TicketTable) (named n m : ℕ) → open_answer T named ≡ Ok n → is_open T m ≡ true → n ≢ m
opens-another T named n m is there same =
    let free : ticket_at T m ≡ None = subst (λ k. ticket_at T k ≡ None) same (none-open T n (opened-free T named n is)) in
    false≢true (sym (ap is_some free) ∙ there)

other-opened : (T : TicketTable) (what : What) (named n m : ℕ) → open_answer T named ≡ Ok n → n ≢ m → ticket_at (after_open T what named) m ≡ ticket_at T m
other-opened T what named n m is apart =
    ap (λ r. ticket_at (with_opened T r (new_ticket what named)) m) is ∙ other-set T n m (Some (new_ticket what named)) apart

flush-opens : (refusal : Option Refusal) (o : Result ℕ TicketFault) (n : ℕ) → answer_or refusal (opened o) ≡ Ok n → o ≡ Ok n
flush-opens (Some why) o n e = absurd (let bad : Err why ≡ Ok n = e in cc)
flush-opens None (Err fault) n e = absurd (let bad : Err (opening_refusal fault) ≡ Ok n = e in cc)
flush-opens None (Ok m) n e = ap (λ k. Ok k) (ok-is m n e)
  where
    ok-is : (a b : ℕ) → opened (Ok a) ≡ Ok b → a ≡ b
    ok-is a b e = cc

-- ---- marks

same-place : (p q : Place) → is_same_place p q ≡ true → q ≡ p
same-place (Space s) (Space t) is = ap Space (sym (eqb-true s t is))
same-place (Space s) Kernel is = absurd (false≢true is)
same-place Kernel (Space t) is = absurd (false≢true is)
same-place Kernel Kernel is = refl

-- a live order is marked only by a leaf over its page
marks-not : (order : Order) (place other : Place) (page over : Span) → IsLive order place page → ((other ≡ place) × Overlap page over → ⊥) → IsLive (marked other over order) place page
marks-not order place other page over live away = (
  live.0,
  ap (λ (b : Bool). b || order.anew) (ap (λ (c : Cause). lies_over c other over) live.0 ∙ apart) ∙ live.1,
)
  where
    apart : lies_over (Unmapped place page) other over ≡ false
    apart = by_test (λ b. b ≡ false) (lies_over (Unmapped place page) other over) (λ is.
        let both = and_parts (is_same_place place other) (overlaps page over) is in
        absurd (away (same-place place other both.0, (overlaps-Overlap page over).0 both.1))) (λ _. refl)

-- what is stored is a leaf where it is no pointer
stores-leaf : (kind : Kind) → is_some (pointed_kind kind) ≡ false → mapped_by kind ≡ mapped.Leaf
stores-leaf kinds.Invalid none = refl
stores-leaf kinds.Reserved none = refl
stores-leaf (kinds.Table ppn global) none = absurd (false≢true (sym none))
stores-leaf (kinds.Leaf ppn flags) none = refl

-- ---- calls

module _ (ticket : ℕ) (place : Place) (page : Span) (named : ℕ) where
  -- a port whose ticket and whose order of it are as they were
  quiet : (port after : PortState) → order_of_ticket ticket after.view.orders ≡ order_of_ticket ticket port.view.orders → ticket_at after.tickets ticket ≡ ticket_at port.tickets ticket
      → IsUnmapping port ticket place page named → IsUnmapping after ticket place page named
  quiet port after orders tickets was = record {
    is_open = ap is_some tickets ∙ was.is_open;
    order = was.order;
    is = orders ∙ was.is;
    live = was.live;
    names_are = λ h. ap (λ x. tells (λ t. t.named) x h) tickets ∙ was.names_are h;
  }

  posted : (port : PortState) (n to room : ℕ) → IsUnmapping port ticket place page named → IsUnmapping (after_post port n to room) ticket place page named
  posted port n to room was = elim (cases_eq n ticket) [
    | inl same ↦ subst (λ m. IsUnmapping (after_post port m to room) ticket place page named) (sym same) (kept-post ticket place page named port to room was)
    | inr apart ↦ quiet port (after_post port n to room) (other-order n (armed to) (λ k. refl) ticket (λ e. apart (sym e)) port.view.orders)
        (other-set port.tickets n ticket (changed (with_posted to) (ticket_at port.tickets n)) apart) was
  ]

  only-armed : (port : PortState) (n to : ℕ) → IsUnmapping port ticket place page named → IsUnmapping (record port { view = with_armed n to port.view }) ticket place page named
  only-armed port n to was = elim (cases_eq n ticket) [
    | inl same ↦ subst (λ m. IsUnmapping (record port { view = with_armed m to port.view }) ticket place page named) (sym same)
        (kept ticket place page named port (record port { view = with_armed ticket to port.view }) (armed to) (λ k. refl) (λ k live. (live.0, live.1)) refl (was.is_open, λ h. refl) was)
    | inr apart ↦ quiet port (record port { view = with_armed n to port.view }) (other-order n (armed to) (λ k. refl) ticket (λ e. apart (sym e)) port.view.orders) refl was
  ]

  not-posted : (port : PortState) (n to : ℕ) → IsUnmapping port ticket place page named → IsUnmapping (after_no_post port n to) ticket place page named
  not-posted port n to was =
      by_test (λ b. IsUnmapping (cond b (record port { view = with_armed n to port.view }) port) ticket place page named) (is_none (post_refusal port n to))
      (λ _. only-armed port n to was) (λ _. was)

  abbrev self-acked : PortState → ℕ → PortState
  self-acked port n = record port {
    view = self_acked n (asked_or_all (what_at port.tickets n)) port.view;
    tickets = acked_by port.tickets n port.hart;
    tlb = tlb_served port.tlb (asked_or_all (what_at port.tickets n));
  }

  acked : (port : PortState) (n : ℕ) → IsUnmapping port ticket place page named → IsUnmapping (after_ack_self port n) ticket place page named
  acked port n was = elim (cases_eq n ticket) [
    | inl same ↦ subst (λ m. IsUnmapping (after_ack_self port m) ticket place page named) (sym same) (kept-ack ticket place page named port was)
    | inr apart ↦ by_test (λ b. IsUnmapping (cond b (self-acked port n) port) ticket place page named) (is_open port.tickets n)
        (λ _. quiet port (self-acked port n) (other-order n (collected port.view.hart) (λ k. refl) ticket (λ e. apart (sym e)) port.view.orders) (other-acked port.tickets n ticket port.hart apart) was)
        (λ _. was)
  ]

  looked-other : (port : PortState) (n from word : ℕ) → n ≢ ticket → IsUnmapping port ticket place page named → IsUnmapping (look_at port n from word) ticket place page named
  looked-other port n from word apart was =
      by_test (λ b. IsUnmapping (cond b (after_look port n from (word == awaited_word port n) word) port) ticket place page named) (is_awaiting port n from)
      (λ _. by_test (λ b. IsUnmapping (after_look port n from b word) ticket place page named) (word == awaited_word port n)
      (λ _. quiet port (after_look port n from true word) (other-order n (collected from) (λ k. refl) ticket (λ e. apart (sym e)) port.view.orders) (other-collected port.tickets n ticket from apart) was)
      (λ _. quiet port (after_look port n from false word) refl refl was))
      (λ _. was)

  looks-other : (port : PortState) (n : ℕ) (words : List ℕ) → n ≢ ticket → IsUnmapping port ticket place page named → IsUnmapping (after_looks port n words) ticket place page named
  looks-other port n [] apart was = was
  looks-other port n (word ∷ words) apart was = looked-other (after_looks port n words) n (length words) word apart (looks-other port n words apart was)

  looked : (port : PortState) (n : ℕ) (words : List ℕ) → IsUnmapping port ticket place page named → IsUnmapping (after_looks port n words) ticket place page named
  looked port n words was = elim (cases_eq n ticket) [
    | inl same ↦ subst (λ m. IsUnmapping (after_looks port m words) ticket place page named) (sym same) (kept-looks ticket place page named port words was)
    | inr apart ↦ looks-other port n words apart was
  ]

  found : (port after : PortState) (n : ℕ) → (is_open port.tickets n ≡ false → after ≡ port) → (is_open port.tickets n ≡ true → IsCollected port n port.setup.harts after)
      → IsUnmapping port ticket place page named → IsUnmapping after ticket place page named
  found port after n none some was = by_test (λ b. (is_open port.tickets n ≡ b) → IsUnmapping after ticket place page named) (is_open port.tickets n)
      (λ _ there. let c = some there in subst (λ p. IsUnmapping p ticket place page named) (sym c.is) (looked port n c.words was))
      (λ _ there. subst (λ p. IsUnmapping p ticket place page named) (sym (none there)) was) refl

  finished : (port : PortState) (n : ℕ) → ((n ≡ ticket) × (is_done_at port.tickets n ≡ true) → ⊥) → IsUnmapping port ticket place page named → IsUnmapping (after_finish_of port n) ticket place page named
  finished port n spared was =
      by_test (λ b. IsUnmapping (cond b (with_tickets port (after_finish port.tickets n)) port) ticket place page named) (is_open port.tickets n)
      (λ _. by_test (λ b. IsUnmapping (with_tickets port (cond b (with_ticket port.tickets n None) port.tickets)) ticket place page named) (is_done_at port.tickets n)
      (λ done. quiet port (with_tickets port (with_ticket port.tickets n None)) refl (other-set port.tickets n ticket None (λ same. spared (same, done))) was)
      (λ _. was))
      (λ _. was)

  closed : (port : PortState) (to : ℕ) → IsUnmapping port ticket place page named → IsUnmapping (after_close_to port to) ticket place page named
  closed port to was =
      by_test (λ b. IsUnmapping (cond b (record port { outboxes = slice_set port.outboxes to (option_map after_close (outbox_to port to)) }) port) ticket place page named)
      (are_pair port.setup port.hart to && not (is_closed_to (outbox_to port to))) (λ _. quiet port _ refl refl was) (λ _. was)

  switched : (port : PortState) (space : ℕ) → IsUnmapping port ticket place page named → IsUnmapping (after_switch port space) ticket place page named
  switched port space was =
      by_test (λ b. IsUnmapping (cond b (record port { space = space }) port) ticket place page named) (is_number port.setup space) (λ _. quiet port _ refl refl was) (λ _. was)

  flushed : (port : PortState) (scope : Scope) (harts : ℕ) → IsUnmapping port ticket place page named → IsUnmapping (after_flush port scope harts) ticket place page named
  flushed port scope harts was = by (flush_answer port scope harts) refl
    where
      what : What
      what = scope_request port.setup [] scope

      by : (r : Result ℕ Refusal) → flush_answer port scope harts ≡ r → IsUnmapping (after_ordered port what harts r) ticket place page named
      by (Err why) e = was
      by (Ok n) e =
          let opens = flush-opens (flush_refusal port scope harts) (open_answer port.tickets harts) n e in
          let apart = opens-another port.tickets harts n ticket opens was.is_open in
          quiet port (after_ordered port what harts (Ok n)) (later-order port.view.config port.view.orders port.tickets n (Other what) port.view.stores ticket (λ s. apart (sym s)))
          (other-opened port.tickets what harts n ticket opens apart) was

  edited-other : (port : PortState) (w : Wish) (harts : ℕ) (cause : Cause)
      → ((n : ℕ) (store : Store) → orders_after port.view.config w n store (port.view.stores + 1) port.view.orders ≡ fresh n cause (port.view.stores + 1) ∷ port.view.orders)
      → IsUnmapping port ticket place page named → IsUnmapping (after_edit port w harts) ticket place page named
  edited-other port w harts cause begins was = by (edit_answer port w harts) refl
    where
      what : What
      what = page_request port.setup w

      by : (r : Result ℕ Refusal) → edit_answer port w harts ≡ r → IsUnmapping (after_opened port w harts r) ticket place page named
      by (Err why) e = was
      by (Ok n) e =
          let a = accepted (named_refusal port (place_of w) harts) (due_store port w) (open_answer port.tickets harts) n e in
          let apart = opens-another port.tickets harts n ticket a.2 was.is_open in
          subst (λ (d : Result Store MapFault). IsUnmapping (with_tickets (after_store port w n d) (after_open port.tickets what harts)) ticket place page named) (sym a.1)
          (quiet port (with_tickets (after_store port w n (Ok a.0)) (after_open port.tickets what harts))
          (ap (order_of_ticket ticket) (begins n a.0) ∙ later-order port.view.config port.view.orders port.tickets n cause (port.view.stores + 1) ticket (λ s. apart (sym s)))
          (other-opened port.tickets what harts n ticket a.2 apart) was)

  module _ (port : PortState) (other : Place) (over : Span) (ppn : ℕ) (flags : PteFlags)
      (spared : (map_answer port (wish.Map other over ppn flags) ≡ Ok mapped.Leaf) × (other ≡ place) × Overlap page over → ⊥)
      (was : IsUnmapping port ticket place page named) where
    abbrev w : Wish
    w = wish.Map other over ppn flags

    -- the store of a map marks no order of the page
    map-stored : has_place port.setup other ≡ true → (store : Store) → due_store port w ≡ Ok store → IsUnmapping (after_store port w 0 (Ok store)) ticket place page named
    map-stored there store due = by (is_some (pointed (Some store.word))) refl
      where
        answer : mapped_by (kind_of store.word) ≡ mapped.Leaf → map_answer port w ≡ Ok mapped.Leaf
        answer leaf =
            ap (λ b. answer_or (refused_if (not b) NoSpace None) (mapped_of (due_store port w))) there ∙ (ap mapped_of due ∙ ap (λ m. Ok m) leaf)

        by : (t : Bool) → is_some (pointed (Some store.word)) ≡ t → IsUnmapping (record (after_store port w 0 (Ok store)) {
          view = record (after_store port w 0 (Ok store)).view { orders = cond t port.view.orders (map (marked other over) port.view.orders) };
        }) ticket place page named
        by true is = quiet port _ refl refl was
        by false is = record {
          is_open = was.is_open;
          order = marked other over was.order;
          is = mapped-order (marked other over) (λ k. refl) ticket port.view.orders ∙ ap (option_map (marked other over)) was.is;
          live = marks-not was.order place other page over was.live (λ near. spared (answer (stores-leaf (kind_of store.word) is), near.0, near.1));
          names_are = was.names_are;
        }

    map-due : has_place port.setup other ≡ true → (d : Result Store MapFault) → due_store port w ≡ d → IsUnmapping (after_store port w 0 d) ticket place page named
    map-due there (Err fault) due = was
    map-due there (Ok store) due = map-stored there store due

    mapped-elsewhere : IsUnmapping (after_map port w) ticket place page named
    mapped-elsewhere = by_test (λ b. IsUnmapping (cond b (after_store port w 0 (due_store port w)) port) ticket place page named) (has_place port.setup other)
        (λ there. map-due there (due_store port w) refl) (λ _. was)

pub each_call_keeps_unmapping : EachCallKeepsUnmapping
unfolding LeadsTo
each_call_keeps_unmapping (Post n to (Ok done)) port after ticket place page named left spared was =
    subst (λ p. IsUnmapping p ticket place page named) (sym left) (posted ticket place page named port n to _ was)
each_call_keeps_unmapping (Post n to (Err refusal)) port after ticket place page named left spared was =
    subst (λ p. IsUnmapping p ticket place page named) (sym left) (not-posted ticket place page named port n to was)
each_call_keeps_unmapping (AckSelf n) port after ticket place page named left spared was =
    subst (λ p. IsUnmapping p ticket place page named) (sym left) (acked ticket place page named port n was)
each_call_keeps_unmapping (Collect n) port after ticket place page named left spared was =
    found ticket place page named port after n left.0 left.1 was
each_call_keeps_unmapping (Finish n) port after ticket place page named left spared was =
    subst (λ p. IsUnmapping p ticket place page named) (sym left) (finished ticket place page named port n (λ e. spared (e.0, subst (λ k. is_done_at port.tickets k ≡ true) e.0 e.1)) was)
each_call_keeps_unmapping (Flush scope harts) port after ticket place page named left spared was =
    subst (λ p. IsUnmapping p ticket place page named) (sym left) (flushed ticket place page named port scope harts was)
each_call_keeps_unmapping (Unmap other over harts) port after ticket place page named left spared was =
    subst (λ p. IsUnmapping p ticket place page named) (sym left)
    (edited-other ticket place page named port (wish.Unmap other over) harts (Unmapped other over) (λ n store. refl) was)
each_call_keeps_unmapping (Protect other over flags harts) port after ticket place page named left spared was =
    subst (λ p. IsUnmapping p ticket place page named) (sym left)
    (edited-other ticket place page named port (wish.Protect other over flags) harts (Other (dropping port.view.config other over)) (λ n store. refl) was)
each_call_keeps_unmapping (MapStep other over ppn flags) port after ticket place page named left spared was =
    subst (λ p. IsUnmapping p ticket place page named) (sym left) (mapped-elsewhere ticket place page named port other over ppn flags spared was)
each_call_keeps_unmapping (Serve from (Ok request)) port after ticket place page named left spared was =
    subst (λ p. IsUnmapping p ticket place page named) (sym left) (quiet ticket place page named port _ refl refl was)
each_call_keeps_unmapping (Serve from (Err refusal)) port after ticket place page named left spared was =
    subst (λ p. IsUnmapping p ticket place page named) (sym left) was
each_call_keeps_unmapping (CloseTo to) port after ticket place page named left spared was =
    subst (λ p. IsUnmapping p ticket place page named) (sym left) (closed ticket place page named port to was)
each_call_keeps_unmapping (Translate va access ctx answer) port after ticket place page named (inl same) spared was =
    subst (λ p. IsUnmapping p ticket place page named) (sym same) was
each_call_keeps_unmapping (Translate va access ctx answer) port after ticket place page named (inr missed) spared was =
    quiet ticket place page named port after (ap (order_of_ticket ticket) missed.loads.home.orders) (ap (λ p. ticket_at p.tickets ticket) missed.after_is) was
each_call_keeps_unmapping (Fence rs1 rs2) port after ticket place page named left spared was =
    subst (λ p. IsUnmapping p ticket place page named) (sym left) (quiet ticket place page named port _ refl refl was)
each_call_keeps_unmapping (Switch space) port after ticket place page named left spared was =
    subst (λ p. IsUnmapping p ticket place page named) (sym left) (switched ticket place page named port space was)
