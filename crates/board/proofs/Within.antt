-- What a walk found is held by the view after it.
use Rattle.std.proofs.Common.{◌≡◌, ◌∙◌, sym, ap, refl, subst, ℕ, ◌++◌, [], ◌∷◌, Ok}
use Rattle.std.specs.Prelude.{Contains, slice_index, map}
use Rattle.std.proofs.lemmas.List.Elements.{Contains-push}
use Rattle.walk.specs.declared.found_or_trap.Found.{Found}
use Rattle.spaces.specs.declared.configuration.Config.{Config}
use Rattle.spaces.specs.Layout.{layout_of, root_ppn}
use Rattle.tlb.specs.Answer.{entry_of}
use Rattle.views.specs.declared.view.View.{View}
use Rattle.views.specs.Turns.{asid_at}
use Rattle.views.specs.Walks.{with_found}
use Rattle.views.proofs.Fills.{asid-at-root}

-- after a walk from the root of a space
pub holds_found : (c : Config) (space asid : ℕ) (v w : View) (found : Found) → v.config ≡ c → asid ≡ slice_index (map (λ s. s.asid) c.spaces.items) space
    → w.entries ≡ with_found (asid_at v.config (root_ppn (layout_of c) space)) v.entries (Ok found) → Contains w.entries (entry_of asid found)
holds_found c space asid v w found config own is =
    let same : asid_at v.config (root_ppn (layout_of c) space) ≡ asid =
    ap (λ k. asid_at k (root_ppn (layout_of c) space)) config ∙ (asid-at-root c space (root_ppn (layout_of c) space) refl ∙ sym own) in
    rw is (subst (λ a. Contains (v.entries ++ entry_of a found ∷ []) (entry_of asid found)) (sym same) (Contains-push v.entries (entry_of asid found)))
