-- What an order followed: a page of a place that exists, in its half, and the request asks just
-- for it.
use Rattle.std.proofs.Common.{◌≡◌, ℕ, ◌<◌, Bool, true, false, cond, ◌&&◌, not, List, [], ◌∷◌, length, Option, Some, None, refl, sym, subst, eqb, inl, inr}
use Rattle.std.specs.Prelude.{Result, Ok}
use Rattle.std.proofs.lemmas.Bool.{not-false, and_parts}
use Rattle.pte.specs.Address.{Span, IsPage}
use Rattle.pte.specs.declared.address.What.{What}
use Rattle.pte.specs.declared.flags.PteFlags.{PteFlags}
use Rattle.spaces.specs.declared.places.Place.{Place}
use Rattle.spaces.specs.declared.faults.MapFault.{MapFault}
use Rattle.spaces.specs.declared.faults.MapFault.TheVariants.{NotHome, WrongHalf}
use Rattle.spaces.specs.declared.wishes.Wish.{Wish}
use Rattle.spaces.specs.declared.wishes.Wish.TheVariants as wish
use Rattle.spaces.specs.Edits.{Store, place_of, page_of, is_wrong_half, wish_fault, unless, edit_of}
use Rattle.history.specs.Setup.{Setup, is_hart}
use Rattle.history.specs.Spaces.{asid_of, asid_in}
use Rattle.pte.specs.declared.address.What.TheVariants.{PageOf, SpaceOf}
use Rattle.shoot.specs.HartSet.{harts_in, harts_where}
use Rattle.spaces.specs.declared.places.Place.TheVariants.{Space, Kernel}
use Rattle.spaces.specs.Layout.{HasPlace}
use Rattle.history.specs.declared.event.Event.{Event}
use Rattle.history.specs.declared.event.Event.TheVariants.{Unmap, Protect, Flush, Retire, Switch}
use Rattle.history.specs.declared.refusal.Refusal.TheVariants.{NoHart, NoSpace}
use Rattle.history.specs.declared.reply.Reply.{Reply}
use Rattle.history.specs.Turns.{History, is_ok, opened_ticket}
use Rattle.history.specs.Orders.{Order, Cause, Unmapped, Protected, Flushed, scope_request, order_with, opened_order, order_at}
use Rattle.history.specs.Harts.{space_of, space_after}
use Rattle.history.specs.Staleness.{IsChange}
use Rattle.history.specs.Due.{due, is_place, is_space, edit_at, Lawful}
use Rattle.laws.specs.Kept.{HasPage, HavePages, HasAsids}
use Rattle.laws.proofs.Tools.{by_test}
use Rattle.laws.proofs.Accepted.{passed, ok_accepted, space_is, unmap_edit, protect_edit}
use Rattle.laws.proofs.Orders.{order_made}
use Rattle.history.proofs.OpenOrders.{order_cases}

-- a page of a place, as an order follows and asks for it
pub record IsAsked (C : Setup) (place : Place) (page : Span) : Type 0 where
  pub there : HasPlace C.layout place
  pub right_half : is_wrong_half C.layout place page ≡ false
  pub is_page : IsPage page

-- the place of a page of an ASID: the kernel, or some space
abbrev pub IsAt : Option ℕ → Place → Type 0
IsAt of (Space s) = (asid : ℕ) × (of ≡ Some asid)
IsAt of Kernel = of ≡ None

pub record IsOfPlace (C : Setup) (of : Option ℕ) (page : Span) (what : What) : Type 0 where
  pub place : Place
  pub at : IsAt of place
  pub asked : IsAsked C place page
  pub asks : what ≡ PageOf page of

abbrev pub Follows : Setup → Cause → What → Type 0
Follows C (Unmapped of page) what = IsOfPlace C of page what
Follows C (Protected of page) what = IsOfPlace C of page what
Follows C Flushed what = Unit {0}

in_place : (C : Setup) (H : History) (place : Place) → IsAt (asid_in C H place) place
in_place C H (Space s) = (asid_of C H s, refl)
in_place C H Kernel = refl

-- the space of a place exists
pub has_place : (C : Setup) (H : History) → length C.asids ≡ length C.layout.homes → (place : Place) → is_place C H place ≡ true → HasPlace C.layout place
has_place C H same (Space s) e = subst (λ n. s < n) same (space_is C H s e).0
has_place C H same Kernel e = tt

-- an edit that is due is in the right half
unless_ok : (fault : Option MapFault) (answer : Result Store MapFault) (store : Store) → unless fault answer ≡ Ok store → fault ≡ None
unless_ok None answer store e = refl
unless_ok (Some fault) answer store e = absurd cc

second_of : (a b : Bool) (rest : Option MapFault) → cond a (Some NotHome) (cond b (Some WrongHalf) rest) ≡ None → b ≡ false
second_of true b rest e = absurd cc
second_of false true rest e = absurd cc
second_of false false rest e = refl

pub halved : (C : Setup) (H : History) (hart : ℕ) (w : Wish) (store : Store) → edit_at C H hart w ≡ Ok store → is_wrong_half C.layout (place_of w) (page_of w) ≡ false
unfolding edit_of wish_fault
halved C H hart w store e = second_of _ (is_wrong_half C.layout (place_of w) (page_of w)) _ (unless_ok (wish_fault C.layout hart w) _ store e)

unmap_right : (C : Setup) (H : History) (hart : ℕ) (place : Place) (page : Span) (named ticket : ℕ) (r : Reply) → r ≡ due C H (Unmap hart place page named) → opened_ticket r ≡ Some ticket
    → (is_place C H place ≡ true) × (is_wrong_half C.layout place page ≡ false)
unmap_right C H hart place page named ticket r d t =
    let e = unmap_edit C H hart place page named ticket r d t in
    (e.there, halved C H hart (wish.Unmap place page) e.store e.is)

protect_right : (C : Setup) (H : History) (hart : ℕ) (place : Place) (page : Span) (flags : PteFlags) (named ticket : ℕ) (r : Reply)
    → r ≡ due C H (Protect hart place page flags named) → opened_ticket r ≡ Some ticket → (is_place C H place ≡ true) × (is_wrong_half C.layout place page ≡ false)
protect_right C H hart place page flags named ticket r d t =
    let e = protect_edit C H hart place page flags named ticket r d t in
    (e.there, halved C H hart (wish.Protect place page flags) e.store e.is)

module _ (C : Setup) (same : length C.asids ≡ length C.layout.homes) where
  follows_with : (hart : ℕ) (named : List Bool) (what : What) (cause : Cause) (t : Option ℕ) (order : Order) → ((ticket : ℕ) → t ≡ Some ticket → Follows C cause what)
      → order_with hart named what cause t ≡ Some order → Follows C order.cause order.what
  follows_with hart named what cause t order f e =
      let made = order_made hart named what cause t order e in
      subst (λ (o : Order). Follows C o.cause o.what) made.2 (f made.0 made.1)

  of_place : (H : History) (place : Place) (page : Span) → is_place C H place ≡ true → is_wrong_half C.layout place page ≡ false → IsPage page
      → IsOfPlace C (asid_in C H place) page (PageOf page (asid_in C H place))
  of_place H place page there half is =
      record { place = place; at = in_place C H place; asked = record { there = has_place C H same place there; right_half = half; is_page = is }; asks = refl }

  follows_step : (event : Event) (r : Reply) (H : History) (order : Order) → r ≡ due C H event → HasPage event → opened_order C event r H ≡ Some order
      → Follows C order.cause order.what
  follows_step (Unmap hart place page named) r H order d has e =
      follows_with hart (harts_in named) (PageOf page (asid_in C H place)) (Unmapped (asid_in C H place) page) (opened_ticket r) order
      (λ t q. let f = unmap_right C H hart place page named t r d q in of_place H place page f.0 f.1 has) e
  follows_step (Protect hart place page flags named) r H order d has e =
      follows_with hart (harts_in named) (PageOf page (asid_in C H place)) (Protected (asid_in C H place) page) (opened_ticket r) order
      (λ t q. let f = protect_right C H hart place page flags named t r d q in of_place H place page f.0 f.1 has) e
  follows_step (Flush hart scope named) r H order d has e = follows_with hart (harts_in named) (scope_request C H scope) Flushed (opened_ticket r) order (λ t q. tt) e
  follows_step (Retire hart space) r H order d has e =
      follows_with hart (harts_where (is_hart C)) (SpaceOf (asid_of C H space)) Flushed (opened_ticket r) order (λ t q. tt) e
  follows_step _ r H order d has e = absurd (cc (e))

  pub follows : (H : History) (k : ℕ) (order : Order) → Lawful C H → HavePages H → order_at C H k ≡ Some order → Follows C order.cause order.what
  follows [] k order l has e = absurd cc
  follows (turn ∷ H) k order l has e =
      elim (order_cases (opened_order C turn.event turn.reply H) (length H) k (order_at C H k) order e) [
        | inl new ↦ follows_step turn.event turn.reply H order l.1 has.1 new.1
        | inr old ↦ follows H k order l.0 has.0 old
      ]

-- a hart is in a space that exists
space_step : (C : Setup) (event : Event) (r : Reply) (H : History) (h : ℕ) → r ≡ due C H event → space_of H h < length C.asids → space_after event r h (space_of H h) < length C.asids
space_step C (Switch b s) r H h d old =
    by_test (λ v. cond v s (space_of H h) < length C.asids) (is_ok r && eqb b h)
    (λ z. let a = ok_accepted r (and_parts (is_ok r) (eqb b h) z).0 in
    let p = passed _ NoHart _ r (sym d) a in
    (space_is C H s (not-false (is_space C H s) (passed (not (is_space C H s)) NoSpace _ r p.1 a).0)).0)
    (λ _. old)
space_step C _ r H h d old = old

pub space_there : (C : Setup) (H : History) (h : ℕ) → HasAsids C → Lawful C H → space_of H h < length C.asids
space_there C [] h has l = has.some_space
space_there C (turn ∷ H) h has l = space_step C turn.event turn.reply H h l.1 (space_there C H h has l.0)

-- an order that follows a change of a page asks for the page
pub follows_change : (C : Setup) (cause : Cause) (of : Option ℕ) (page : Span) (what : What) → IsChange cause of page → Follows C cause what → IsOfPlace C of page what
follows_change C cause of page what change f =
    elim change [
      | inl e ↦ subst (λ (c : Cause). Follows C c what) e f
      | inr e ↦ subst (λ (c : Cause). Follows C c what) e f
    ]
