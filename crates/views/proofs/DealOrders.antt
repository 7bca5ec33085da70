-- What the board says of orders at the opening, and with a seat that is dealt.
use Rattle.std.proofs.Common.{◌≡◌, ℕ, ◌<◌, List, [], ◌∷◌, ◌++◌, length, ap, ◌∙◌, subst, sym, refl, arith}
use Rattle.std.specs.Prelude.{All, Contains, slice_set}
use Rattle.std.proofs.lemmas.List.Elements.{All-nil}
use mathlib.Core.Option.{some, some-ne-none}
use lib.ListN.{get_elem?}
use Rattle.atomic_table.specs.Table.{State, opening as at_start}
use Rattle.pte.specs.Address.{Span}
use Rattle.spaces.specs.declared.configuration.Config.{Config}
use Rattle.spaces.specs.declared.places.Place.{Place}
use Rattle.spaces.specs.Layout.{layout_of}
use Rattle.tlb.specs.declared.store.Entry.{Entry}
use Rattle.views.specs.declared.view.Order.{Order}
use Rattle.views.specs.declared.view.View.{View}
use Rattle.views.specs.Rule.{board_words, dealer, dealt, first_view, Tabled}
use Rattle.views.specs.Orders.{Answered, HoldsSince, IsLive, Kept, IsGlobalInWindow, Ordered}
use Rattle.views.proofs.Deals.{Was, mine, other, new, lone, was}
use Rattle.views.proofs.OrderKeeps.{answered-same, kept-same, MappedSince}

-- nothing is ordered or held
no-order : {A : Type 0} (n : ℕ) (a : A) → get_elem? [] n ≡ some a → ⊥
no-order n a e = some-ne-none a (sym e)

none-in : {A : Type 0} (a : A) → Contains [] a → ⊥
none-in a is = absurd (omega (arith, is.1))

pub open-orders : (c : Config) → Ordered c (at_start (board_words (layout_of c)) [] (first_view c))
open-orders c = record {
  window = λ j v at. subst (λ (z : View). All (IsGlobalInWindow (layout_of c)) z.entries) (lone (first_view c) v j at).1 (All-nil (IsGlobalInWindow (layout_of c)));
  latest = λ j v at. subst (λ (z : View). get_elem? z.versions 0 ≡ some z.words) (lone (first_view c) v j at).1 refl;
  answered = λ j v at n k at-k. absurd (no-order n k (ap (λ (z : View). get_elem? z.orders n) (lone (first_view c) v j at).1 ∙ at-k));
  kept = λ j v at n k at-k place page live. absurd (no-order n k (ap (λ (z : View). get_elem? z.orders n) (lone (first_view c) v j at).1 ∙ at-k));
}

module _ (c : Config) (id : ℕ) (v : View) (some' : 0 < v.next) (room : v.next < length (layout_of c).spares) (s : State ℕ View) (b : Tabled c s) (at : get_elem? s.views id ≡ some v) (o : Ordered c s) where
  abbrev more : List View
  more = slice_set s.views id (dealer v) ++ dealt v ∷ []

  -- the dealer holds what it held, and the new one holds nothing
  holds-more : (h : ℕ) (u : View) (k : Order) → HoldsSince c s.views h u k → HoldsSince c more h u k
  holds-more h u k holds j x here is e in-x dropped from = by (was c id v some' room s b at j x here)
    where
      by : Was c id v some' room s b at j x → MappedSince c u k e
      by (mine q p) = holds id v at (ap (λ (z : View). z.hart) p ∙ is) e (subst (λ (z : View). Contains z.entries e) (sym p) in-x) dropped from
      by (other at' n) = holds j x at' is e in-x dropped from
      by (new p q) = absurd (none-in e (subst (λ (z : View). Contains z.entries e) (sym p) in-x))

  answered-more : (u : View) (k : Order) → Answered c s.words s.views u k → Answered c s.words more u k
  answered-more u k t = record {
    begun = t.begun;
    askable = t.askable;
    numbered = t.numbered;
    acked = λ h small armed now. holds-more h u k (t.acked h small armed now);
    gone = λ h small got. holds-more h u k (t.gone h small got);
  }

  window-more : (j : ℕ) (u : View) → Was c id v some' room s b at j u → All (IsGlobalInWindow (layout_of c)) u.entries
  window-more j u (mine e q) = subst (λ (z : View). All (IsGlobalInWindow (layout_of c)) z.entries) q (o.window id v at)
  window-more j u (other at' n) = o.window j u at'
  window-more j u (new q e) = subst (λ (z : View). All (IsGlobalInWindow (layout_of c)) z.entries) q (All-nil (IsGlobalInWindow (layout_of c)))

  latest-more : (j : ℕ) (u : View) → Was c id v some' room s b at j u → get_elem? u.versions 0 ≡ some u.words
  latest-more j u (mine e q) = subst (λ (z : View). get_elem? z.versions 0 ≡ some z.words) q (o.latest id v at)
  latest-more j u (other at' n) = o.latest j u at'
  latest-more j u (new q e) = subst (λ (z : View). get_elem? z.versions 0 ≡ some z.words) q refl

  orders-more : (j : ℕ) (u : View) → Was c id v some' room s b at j u → (n : ℕ) (k : Order) → get_elem? u.orders n ≡ some k → Answered c s.words more u k
  orders-more j u (mine e q) n k at-k =
      subst (λ (z : View). Answered c s.words more z k) q
      (answered-same c v (dealer v) refl refl refl k k refl refl s.words more refl refl refl (answered-more v k (o.answered id v at n k (ap (λ (z : View). get_elem? z.orders n) q ∙ at-k))))
  orders-more j u (other at' n') n k at-k = answered-more u k (o.answered j u at' n k at-k)
  orders-more j u (new q e) n k at-k = absurd (no-order n k (ap (λ (z : View). get_elem? z.orders n) q ∙ at-k))

  kept-more : (j : ℕ) (u : View) → Was c id v some' room s b at j u → (n : ℕ) (k : Order) → get_elem? u.orders n ≡ some k → (place : Place) (page : Span) → IsLive k place page → Kept c u k place page
  kept-more j u (mine e q) n k at-k place page live =
      subst (λ (z : View). Kept c z k place page) q
      (kept-same c v (dealer v) refl refl refl k k refl refl place page (o.kept id v at n k (ap (λ (z : View). get_elem? z.orders n) q ∙ at-k) place page live))
  kept-more j u (other at' n') n k at-k place page live = o.kept j u at' n k at-k place page live
  kept-more j u (new q e) n k at-k place page live = absurd (no-order n k (ap (λ (z : View). get_elem? z.orders n) q ∙ at-k))

  pub deal-orders : Ordered c record { words = s.words; homes = s.homes; views = more }
  deal-orders = record {
    window = λ j u here. window-more j u (was c id v some' room s b at j u here);
    latest = λ j u here. latest-more j u (was c id v some' room s b at j u here);
    answered = λ j u here. orders-more j u (was c id v some' room s b at j u here);
    kept = λ j u here. kept-more j u (was c id v some' room s b at j u here);
  }
