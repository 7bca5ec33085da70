-- What the rule says of the table words.
use Rattle.std.proofs.Common.{◌≡◌, ℕ, Some, refl, subst, sym, ap, ◌∙◌, inl, inr, arith}
use mathlib.Core.Option.{some}
use lib.ListN.{get_elem?}
use Rattle.atomic_table.specs.Table.{State}
use Rattle.walk.specs.Stage.{Stage}
use Rattle.spaces.specs.declared.configuration.Config.{Config}
use Rattle.spaces.specs.Layout.{layout_of}
use Rattle.spaces.specs.Tree.{IsAtHome}
use Rattle.views.specs.declared.view.View.{View}
use Rattle.views.specs.Rule.{tables_in, IsWalk, Sits, seated, waits, Tabled}
use Rattle.walk.specs.Pointers.{pointed}
use Rattle.views.specs.Board.{IsAsSaid, SeatsAreNumbered, StoresOverwriteNoPointer}
use Rattle.views.proofs.EditKeeps.{frame-home, no-pointer}
use Rattle.views.proofs.WalkKeeps.{own-walk}

pub as-said : (c : Config) (s : State ℕ View) → Tabled c s → (h f i : ℕ) → IsAtHome (layout_of c) h f → IsAsSaid c s h f i
as-said c s b h f i home = by (b.every h)
  where
    by : Sits s.views h → IsAsSaid c s h f i
    by (seated j v at is) = let t = b.each j v at in inl (j, v, at, is, t.own f i (subst (λ k. IsAtHome (layout_of c) k f) (sym is) home))
    by (waits j v at some' from) = inr (
      (λ k w at-w is. let less = (b.deals j k v w at at-w some').0 in omega (arith, less, from, is)),
      b.undealt j v at some' h f i from home,
    )

pub walk-leads : (c : Config) (s : State ℕ View) → Tabled c s → (j : ℕ) (v : View) (st : Stage) → get_elem? s.views j ≡ some v → v.walk ≡ Some st
    → IsWalk c.scheme (tables_in (layout_of c) s.words) v.root v.reads st
walk-leads c s b j v st at walking = own-walk c s b j v at v.root st walking refl

pub no_pointer_lost : StoresOverwriteNoPointer
no_pointer_lost c s b i v at wish store has is =
    let t = b.tables.each i v at in
    ap pointed (t.own store.ppn store.index (frame-home (layout_of c) v t.local wish has store is)) ∙ no-pointer (layout_of c) v t.local wish has store is

pub seats_are_numbered : SeatsAreNumbered
seats_are_numbered c s b i v at = b.tables.numbered i v at
