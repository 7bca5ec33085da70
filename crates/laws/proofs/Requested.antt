-- Each order asks for a page of the scheme, or for no page; so what a service leaves is what stays
-- under all its fences.
use Rattle.std.proofs.Common.{◌≡◌, ℕ, List, [], ◌∷◌, Bool, length, Option, Some, subst, inl, inr}
use Rattle.pte.specs.declared.address.What.{What}
use Rattle.pte.specs.declared.address.What.TheVariants.{PageOf, SpaceOf}
use Rattle.shoot.specs.HartSet.{harts_in, harts_where}
use Rattle.spaces.specs.declared.wishes.Wish.TheVariants as wish
use Rattle.spaces.proofs.Accepting.{fit-page}
use Rattle.tlb.specs.Service.{IsRequest, Served}
use Rattle.history.specs.Setup.{Setup, is_hart}
use Rattle.history.specs.declared.event.Event.{Event}
use Rattle.history.specs.declared.event.Event.TheVariants.{AckSelf, Flush, Protect, Retire, ServeFence, Unmap}
use Rattle.history.specs.declared.event.Scope.{Scope}
use Rattle.history.specs.declared.event.Scope.TheVariants as scope
use Rattle.history.specs.declared.reply.Reply.{Reply}
use Rattle.history.specs.declared.reply.Reply.TheVariants as reply
use Rattle.history.specs.Turns.{History, opened_ticket}
use Rattle.history.specs.Runs.{with_turn}
use Rattle.history.specs.Spaces.{asid_in, asid_of}
use Rattle.history.specs.Orders.{Cause, Flushed, open_order, opened_order, Order, order_at, order_with, Protected, scope_request, Unmapped, what_asked}
use Rattle.history.specs.Mailboxes.{Sent}
use Rattle.history.specs.Service.{served}
use Rattle.history.specs.Harts.{entries_of}
use Rattle.history.specs.Occurrences.{IsProgress}
use Rattle.history.specs.Due.{due, Lawful}
use Rattle.history.proofs.OpenOrders.{order_cases}
use Rattle.history.proofs.Leaving.{own_leaves, service_leaves}
use Rattle.laws.specs.Kept.{HasPage, HavePages}
use Rattle.laws.proofs.Accepted.{protect_edit, unmap_edit}
use Rattle.laws.proofs.Causes.{halved}
use Rattle.laws.proofs.Orders.{order_made}
use Rattle.laws.proofs.Posts.{served_post}

module _ (C : Setup) where
  request_with : (hart : ℕ) (named : List Bool) (what : What) (cause : Cause) (t : Option ℕ) (order : Order)
      → ((ticket : ℕ) → t ≡ Some ticket → IsRequest C.layout.scheme what) → order_with hart named what cause t ≡ Some order → IsRequest C.layout.scheme order.what
  request_with hart named what cause t order f e =
      let made = order_made hart named what cause t order e in
      subst (λ (o : Order). IsRequest C.layout.scheme o.what) made.2 (f made.0 made.1)

  scope_is_request : (H : History) (s : Scope) → IsRequest C.layout.scheme (scope_request C H s)
  scope_is_request H (scope.Space space) = tt
  scope_is_request H scope.All = tt

  request_step : (event : Event) (r : Reply) (H : History) (order : Order) → r ≡ due C H event → HasPage event → opened_order C event r H ≡ Some order
      → IsRequest C.layout.scheme order.what
  request_step (Unmap hart place page named) r H order d has e =
      request_with hart (harts_in named) (PageOf page (asid_in C H place)) (Unmapped (asid_in C H place) page) (opened_ticket r) order
      (λ t q. let f = unmap_edit C H hart place page named t r d q in fit-page C.layout place page (halved C H hart (wish.Unmap place page) f.store f.is) has) e
  request_step (Protect hart place page flags named) r H order d has e =
      request_with hart (harts_in named) (PageOf page (asid_in C H place)) (Protected (asid_in C H place) page) (opened_ticket r) order
      (λ t q. let f = protect_edit C H hart place page flags named t r d q in
      fit-page C.layout place page (halved C H hart (wish.Protect place page flags) f.store f.is) has) e
  request_step (Flush hart scope named) r H order d has e =
      request_with hart (harts_in named) (scope_request C H scope) Flushed (opened_ticket r) order (λ t q. scope_is_request H scope) e
  request_step (Retire hart space) r H order d has e =
      request_with hart (harts_where (is_hart C)) (SpaceOf (asid_of C H space)) Flushed (opened_ticket r) order (λ t q. tt) e
  request_step _ r H order d has e = absurd (cc (e))

  pub asks_request : (H : History) (k : ℕ) (order : Order) → Lawful C H → HavePages H → order_at C H k ≡ Some order → IsRequest C.layout.scheme order.what
  asks_request [] k order l has e = absurd cc
  asks_request (turn ∷ H) k order l has e =
      elim (order_cases (opened_order C turn.event turn.reply H) (length H) k (order_at C H k) order e) [
        | inl new ↦ request_step turn.event turn.reply H order l.1 has.1 new.1
        | inr old ↦ asks_request H k order l.0 has.0 old
      ]

  -- of the request that a hart serves, and of a hart's own order
  served_asks : (H : History) (h : ℕ) (post : Sent) → Lawful C H → HavePages H → served C H h ≡ Some post → IsRequest C.layout.scheme post.request.what
  served_asks H h post l has s =
      let p = served_post C H h post l s in
      let asked : IsRequest C.layout.scheme (what_asked (order_at C H post.order)) = rw p.opened.is (asks_request H post.order p.opened.order l has p.opened.is) in
      rw p.what asked

  pub service_stays : (H : History) (h : ℕ) (post : Sent) → Lawful C H → HavePages H → served C H h ≡ Some post
      → Served C.layout.scheme (entries_of C H h) post.request.what (entries_of C (with_turn (ServeFence h) reply.Ok H) h)
  service_stays H h post l has s = service_leaves C H h post s (served_asks H h post l has s)

  pub own_stays : (H : History) (h ticket k : ℕ) (order : Order) (answer : Reply) → Lawful C H → HavePages H → open_order H h ticket ≡ Some k → order_at C H k ≡ Some order
      → IsProgress answer → Served C.layout.scheme (entries_of C H h) order.what (entries_of C (with_turn (AckSelf h ticket) answer H) h)
  own_stays H h ticket k order answer l has o is p = own_leaves C H h ticket k order answer o is (asks_request H k order l has is) p
