-- What a step leaves is the view of a seat of a board that keeps the rule.
use Rattle.std.proofs.Common.{◌≡◌, ℕ, zero, suc, ◌<◌, List, [], ◌∷◌, length, sym, subst, ◌∙◌, arith}
use Rattle.std.specs.Prelude.{slice_set}
use mathlib.Core.Option.{some, some-ne-none}
use lib.ListN.{get_elem?}
use Rattle.atomic_table.specs.Table.{State}
use Rattle.atomic_table.proofs.Lists.{set_here}
use Rattle.spaces.specs.declared.configuration.Config.{Config}
use Rattle.views.specs.declared.view.View.{View}
use Rattle.views.specs.Rule.{Tabled}
use Rattle.views.specs.Board.{Board}
use Rattle.views.specs.OnBoard.{IsOnBoard}

pub below : {A : Type 0} (l : List A) (i : ℕ) (a : A) → get_elem? l i ≡ some a → i < length l
below [] i a e = absurd (some-ne-none a (sym e))
below (x ∷ xs) zero a e = omega arith
below (x ∷ xs) (suc i) a e = let h = below xs i a e in omega arith

-- two views of one hart are of one seat
pub one-seat : (c : Config) (s : State ℕ View) → Tabled c s → (i j : ℕ) (v w : View) → get_elem? s.views i ≡ some v → get_elem? s.views j ≡ some w → v.hart ≡ w.hart → i ≡ j
one-seat c s b i j v w at-i at-j same = sym (b.numbered i v at-i) ∙ (same ∙ b.numbered j w at-j)

abbrev pub on-board : (c : Config) (words : List ℕ) (homes : _) (views : List View) (id : ℕ) (v w : View) → get_elem? views id ≡ some v
    → Board c record { words = words; homes = homes; views = slice_set views id w } → IsOnBoard w
on-board c words homes views id v w at b =
    let s : State ℕ View = record { words = words; homes = homes; views = slice_set views id w } in
    let here = set_here views id w (below views id v at) in
    record {
      state = s;
      stands = subst (λ k. Board k s) (sym (b.tables.each id w here).config) b;
      at = subst (λ n. get_elem? s.views n ≡ some w) (sym (b.tables.numbered id w here)) here;
    }
