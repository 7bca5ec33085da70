-- The leaf that an edit changes, as a machine finds it.
use Rattle.std.proofs.Common.{◌≡◌, ℕ, Option, Some, None, Ok, refl, sym, ◌∙◌, subst}
use Rattle.std.specs.Prelude.{Result}
use Rattle.pte.specs.Address.{Span}
use Rattle.pte.specs.declared.flags.PteFlags.{PteFlags}
use Rattle.spaces.specs.declared.places.Place.{Place}
use Rattle.spaces.specs.declared.faults.MapFault.{MapFault}
use Rattle.spaces.specs.Edits.{Store, place_of, page_of}
use Rattle.stepcore.specs.State.{State, words_in}
use Rattle.stepcore.specs.Answers.{edit_in}
use Rattle.stale.specs.declared.changes.Change.{Change}
use Rattle.stale.specs.Leaves.{wish_with, IsChangeOf, IsLeafUnder}

pub place_with : (place : Place) (page : Span) (flags : Option PteFlags) → place_of (wish_with place page flags) ≡ place
place_with place page None = refl
place_with place page (Some f) = refl

pub page_with : (place : Place) (page : Span) (flags : Option PteFlags) → page_of (wish_with place page flags) ≡ page
page_with place page None = refl
page_with place page (Some f) = refl

pub same_store : (a b : Store) (r : Result Store MapFault) → r ≡ Ok a → r ≡ Ok b → a ≡ b
same_store a b r is_a is_b = let both : Ok a ≡ Ok b = sym is_a ∙ is_b in cc

pub no_leaf : (m : State) (hart : ℕ) (place : Place) (page : Span) (flags : Option PteFlags) (edit : Store) (change : Change) → edit_in m hart (wish_with place page flags) ≡ Ok edit
    → ((ppn : ℕ) (f : PteFlags) → IsLeafUnder (words_in m) edit page ppn f → ⊥) → IsChangeOf m hart (wish_with place page flags) change → ⊥
no_leaf m hart place page flags edit change due none is =
    none change.ppn change.flags
    (subst (λ (p : Span). IsLeafUnder (words_in m) edit p change.ppn change.flags) (page_with place page flags)
    (subst (λ (s : Store). IsLeafUnder (words_in m) s (page_of (wish_with place page flags)) change.ppn change.flags)
    (same_store is.store edit (edit_in m hart (wish_with place page flags)) is.edit due) is.leaf))
