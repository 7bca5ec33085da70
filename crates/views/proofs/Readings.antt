-- The words that a walk read.
use Rattle.std.proofs.Common.{◌≡◌, ℕ, true, List, [], ◌∷◌, ◌++◌, Option, Some, refl, ◌∙◌, is_some}
use Rattle.pte.specs.declared.entry.Kind.{Kind}
use Rattle.pte.specs.declared.entry.Kind.TheVariants as kinds
use Rattle.pte.specs.Entry.{kind_of}
use Rattle.walk.specs.Leads.{Tables, PointsTo}
use Rattle.walk.specs.Pointers.{pointed, pointed_kind}
use Rattle.walk.specs.Stores.{KeepsPointers}
use Rattle.views.specs.declared.view.Read.{Read}
use Rattle.views.specs.Rule.{Has, ArePointers}

pub has-snoc : (words : Tables) (rs : List Read) (r : Read) → Has words rs → words r.table r.index ≡ Some r.word → Has words (rs ++ r ∷ [])
has-snoc words [] r h e = (e, tt)
has-snoc words (x ∷ rs) r h e = (h.0, has-snoc words rs r h.1 e)

pub snoc-has : (words : Tables) (rs : List Read) (r : Read) → Has words (rs ++ r ∷ []) → Has words rs × (words r.table r.index ≡ Some r.word)
snoc-has words [] r h = (tt, h.0)
snoc-has words (x ∷ rs) r h = let rest = snoc-has words rs r h.1 in ((h.0, rest.0), rest.1)

pub pointers-snoc : (rs : List Read) (r : Read) → ArePointers rs → is_some (pointed (Some r.word)) ≡ true → ArePointers (rs ++ r ∷ [])
pointers-snoc [] r h e = (e, tt)
pointers-snoc (x ∷ rs) r h e = (h.0, pointers-snoc rs r h.1 e)

from-pointed : (w : ℕ) (o : Option ℕ) → o ≡ Some w → (k : Kind) → kind_of w ≡ k → is_some (pointed_kind k) ≡ true → (next : ℕ) × PointsTo o next
from-pointed w o e kinds.Invalid is some = absurd cc
from-pointed w o e kinds.Reserved is some = absurd cc
from-pointed w o e (kinds.Leaf q f) is some = absurd cc
from-pointed w o e (kinds.Table q g) is some = (q, record { entry = w; global = g; is = e; kind = is })

pub has-stays : (old new : Tables) → KeepsPointers old new → (rs : List Read) → ArePointers rs → Has old rs → Has new rs
has-stays old new keeps [] p h = tt
has-stays old new keeps (r ∷ rs) p h =
    let point = from-pointed r.word (old r.table r.index) h.0 (kind_of r.word) refl p.0 in
    (keeps.kept r.table r.index point.0 point.1 ∙ h.0, has-stays old new keeps rs p.1 h.1)
