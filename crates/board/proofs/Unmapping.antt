-- A ticket of an unmapping stays open for it through the calls of its shootdown.
use Rattle.std.proofs.Common.{◌≡◌, ◌∙◌, sym, ap, refl, subst, ℕ, ◌==◌, true, cond, List, [], ◌∷◌, length, Option, Some, None, Result, Ok, Err, is_some}
use Rattle.std.specs.Option.{option_map}
use Rattle.std.proofs.lemmas.List.Quantifiers.{position-Some}
use Rattle.std.specs.Prelude.{is_none}
use Rattle.spaces.proofs.Lists.{slice_get-set_same}
use Rattle.pte.specs.Address.{Span}
use Rattle.pte.specs.declared.address.What.{What}
use Rattle.shoot.proofs.HartSets.{by_test}
use Rattle.shoot.specs.HartSet.{contains}
use Rattle.shoot.specs.declared.tickets.Ticket.{Ticket}
use Rattle.shoot.specs.declared.tickets.TicketFault.{TicketFault}
use Rattle.shoot.specs.Tickets.{TicketTable, acked_by, after_acked, after_open, changed, if_open, is_open, names, new_ticket, open_answer, tells, ticket_at, with_acked, with_change, with_collected, with_posted}
use Rattle.spaces.specs.declared.faults.MapFault.{MapFault}
use Rattle.spaces.specs.declared.places.Place.{Place}
use Rattle.spaces.specs.declared.wishes.Wish.TheVariants.{Unmap}
use Rattle.spaces.specs.Edits.{Store}
use Rattle.history.specs.declared.refusal.Refusal.{Refusal}
use Rattle.history.specs.Refusal.{opening_refusal, refusal_of}
use Rattle.views.specs.declared.view.Order.{Order}
use Rattle.views.specs.Orders.{IsLive}
use Rattle.views.specs.OrderTurns.{armed, collected, for_ticket, order_of_ticket}
use Rattle.views.proofs.Lasting.{begins_live}
use Rattle.board.specs.Ports.{PortState}
use Rattle.board.specs.Answers.{after_ack_self, after_post, answer_or, collected_by, opened}
use Rattle.board.specs.Collects.{after_look, after_looks, awaited_word, is_awaiting, look_at}
use Rattle.board.specs.Tables.{after_opened, after_store, due_store, named_refusal, opened_if, page_request}
use Rattle.board.specs.Promises.{CallsKeepUnmapping, DoneUnmappingIsGone, IsUnmapping, UnmappingOpens}
use Rattle.board.proofs.Ties.{opened-free, own-order, put}

-- a change of the ticket that leaves whom it names
named-on : (T : TicketTable) (n : ℕ) (f : Ticket → Ticket) → ((t : Ticket) → (f t).named ≡ t.named) → is_open T n ≡ true
    → (is_open (with_change T n f) n ≡ true) × ((h : ℕ) → names (with_change T n f) n h ≡ names T n h)
named-on T n f keeps there =
    let stands : ticket_at (with_change T n f) n ≡ changed f (ticket_at T n) = put T.tickets n (changed f (ticket_at T n)) there in
    (ap is_some stands ∙ (still (ticket_at T n) ∙ there), λ h. ap (λ x. tells (λ t. t.named) x h) stands ∙ same (ticket_at T n) h)
  where
    still : (x : Option Ticket) → is_some (changed f x) ≡ is_some x
    still None = refl
    still (Some t) = refl

    same : (x : Option Ticket) (h : ℕ) → tells (λ t. t.named) (changed f x) h ≡ tells (λ t. t.named) x h
    same None h = refl
    same (Some t) h = ap (λ s. contains s h) (keeps t)

own-acked : (T : TicketTable) (n hart : ℕ) → is_open T n ≡ true → (is_open (acked_by T n hart) n ≡ true) × ((h : ℕ) → names (acked_by T n hart) n h ≡ names T n h)
own-acked T n hart there =
    by_test (λ b. (is_open (cond b (after_acked T n hart) T) n ≡ true) × ((h : ℕ) → names (cond b (after_acked T n hart) T) n h ≡ names T n h)) (names T n hart)
    (λ _. named-on T n (with_acked T.hart hart) (λ t. refl) there) (λ _. (there, λ h. refl))

found-acked : (T : TicketTable) (n from : ℕ) → is_open T n ≡ true → (is_open (collected_by T n from) n ≡ true) × ((h : ℕ) → names (collected_by T n from) n h ≡ names T n h)
found-acked T n from there =
    let one = named-on T n (with_acked T.hart from) (λ t. refl) there in
    let two = named-on (after_acked T n from) n (with_collected from) (λ t. refl) one.0 in
    (two.0, λ h. two.1 h ∙ one.1 h)

module _ (ticket : ℕ) (place : Place) (page : Span) (named : ℕ) where
  -- a port whose order of the ticket changed, and whose ticket still names the same harts
  pub kept : (port after : PortState) (g : Order → Order) → ((k : Order) → (g k).ticket ≡ k.ticket) → ((k : Order) → IsLive k place page → IsLive (g k) place page)
      → after.view.orders ≡ for_ticket ticket g port.view.orders → (is_open after.tickets ticket ≡ true) × ((h : ℕ) → names after.tickets ticket h ≡ names port.tickets ticket h)
      → IsUnmapping port ticket place page named → IsUnmapping after ticket place page named
  kept port after g keeps lives orders tickets was = record {
    is_open = tickets.0;
    order = g was.order;
    is = ap (order_of_ticket ticket) orders ∙ (own-order ticket g keeps port.view.orders ∙ ap (option_map g) was.is);
    live = lives was.order was.live;
    names_are = λ h. tickets.1 h ∙ was.names_are h;
  }

  pub kept-post : (port : PortState) (to room : ℕ) → IsUnmapping port ticket place page named → IsUnmapping (after_post port ticket to room) ticket place page named
  kept-post port to room was =
      kept port (after_post port ticket to room) (armed to) (λ k. refl) (λ k live. (live.0, live.1)) refl (named-on port.tickets ticket (with_posted to) (λ t. refl) was.is_open) was

  pub kept-ack : (port : PortState) → IsUnmapping port ticket place page named → IsUnmapping (after_ack_self port ticket) ticket place page named
  kept-ack port was =
      rw was.is_open (
      kept port _ (collected port.view.hart) (λ k. refl) (λ k live. (live.0, live.1)) refl (own-acked port.tickets ticket port.hart was.is_open) was)

  kept-look : (port : PortState) (from word : ℕ) → IsUnmapping port ticket place page named → IsUnmapping (look_at port ticket from word) ticket place page named
  kept-look port from word was =
      by_test (λ b. IsUnmapping (cond b (after_look port ticket from (word == awaited_word port ticket) word) port) ticket place page named) (is_awaiting port ticket from)
      (λ _. by_test (λ b. IsUnmapping (after_look port ticket from b word) ticket place page named) (word == awaited_word port ticket)
      (λ _. kept port (after_look port ticket from true word) (collected from) (λ k. refl) (λ k live. (live.0, live.1)) refl (found-acked port.tickets ticket from was.is_open) was)
      (λ _. record { is_open = was.is_open; order = was.order; is = was.is; live = was.live; names_are = was.names_are }))
      (λ _. was)

  pub kept-looks : (port : PortState) (words : List ℕ) → IsUnmapping port ticket place page named → IsUnmapping (after_looks port ticket words) ticket place page named
  kept-looks port [] was = was
  kept-looks port (word ∷ words) was = kept-look (after_looks port ticket words) (length words) word (kept-looks port words was)

pub calls_keep_unmapping : CallsKeepUnmapping
calls_keep_unmapping port after ticket to room place page named was = (
  kept-post ticket place page named port to room was,
  kept-ack ticket place page named port was,
  λ looked. subst (λ p. IsUnmapping p ticket place page named) (sym looked.is) (kept-looks ticket place page named port looked.words was),
)

-- a ticket that was opened
pub opened-ticket : (T : TicketTable) (what : What) (named n : ℕ) → open_answer T named ≡ Ok n → ticket_at (after_open T what named) n ≡ Some (new_ticket what named)
opened-ticket T what named n is =
    let below = position-Some is_none T.tickets n None (opened-free T named n is) in
    rw is (ap if_open (slice_get-set_same T.tickets n (Some (new_ticket what named)) below.0))

-- what an accepted edit needs: a store that is due, and a free ticket
pub accepted : (refusal : Option Refusal) (d : Result Store MapFault) (o : Result ℕ TicketFault) (n : ℕ) → answer_or refusal (opened_if d o) ≡ Ok n → (store : Store) × (d ≡ Ok store) × (o ≡ Ok n)
accepted (Some why) d o n e = absurd (let bad : Err why ≡ Ok n = e in cc)
accepted None (Err fault) o n e = absurd (let bad : Err (refusal_of fault) ≡ Ok n = e in cc)
accepted None (Ok store) (Err fault) n e = absurd (let bad : Err (opening_refusal fault) ≡ Ok n = e in cc)
accepted None (Ok store) (Ok m) n e = (store, refl, ap (λ k. Ok k) (ok-is m n e))
  where
    ok-is : (a b : ℕ) → opened (Ok a) ≡ Ok b → a ≡ b
    ok-is a b e = cc

pub unmapping_opens : UnmappingOpens
unmapping_opens port place page named ticket e =
    let a = accepted (named_refusal port place named) (due_store port (Unmap place page)) (open_answer port.tickets named) ticket e in
    let b = begins_live port.view.config place page ticket port.view a.0 in
    let t = opened-ticket port.tickets (page_request port.setup (Unmap place page)) named ticket a.2 in
    subst (λ (r : Result ℕ Refusal). IsUnmapping (after_opened port (Unmap place page) named r) ticket place page named) (sym e)
    (subst (λ (d : Result Store MapFault). IsUnmapping (record (after_store port (Unmap place page) ticket d) { tickets = after_open port.tickets (page_request port.setup (Unmap place page)) named }) ticket place page named) (sym a.1)
    record {
      is_open = ap is_some t;
      order = b.0;
      is = b.1;
      live = b.2;
      names_are = λ h. ap (λ x. tells (λ u. u.named) x h) t;
    })

pub done_unmapping_is_gone : DoneUnmappingIsGone
done_unmapping_is_gone port ticket place page named unmapping done = record {
  now = done.now;
  has_view = done.has_view;
  gone = λ state has.
      let gone = done.named state has unmapping.order unmapping.is place page unmapping.live in
      record { unmapped = gone.unmapped; dropped = λ h in-names. gone.dropped h (unmapping.names_are h ∙ in-names) };
}
