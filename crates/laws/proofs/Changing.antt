-- What a turn of a lawful history does to the pages that the roots map.
use Rattle.std.proofs.Common.{◌≡◌, ℕ, ◌<◌, Bool, true, false, cond, ◌||◌, ◌∷◌, Some, None, refl, ap, sym, ◌∙◌, subst, arith, nat_le, ◌-◌}
use Rattle.std.specs.Prelude.{Result}
use Rattle.std.proofs.lemmas.Bool.{leb-true, false≢true}
use Rattle.pte.specs.declared.flags.PteFlags.{PteFlags}
use Rattle.pte.specs.declared.entry.Kind.TheVariants as kinds
use Rattle.pte.specs.Address.{Span, IsPage, vpn_of}
use Rattle.pte.specs.declared.address.TheConstants.{TABLE_LENGTH}
use Rattle.pte.specs.Entry.{kind_of, table_word}
use Rattle.walk.specs.Leads.{Tables}
use Rattle.walk.specs.Maps.{Maps}
use Rattle.walk.specs.Pointers.{pointed_kind}
use Rattle.spaces.specs.declared.places.Place.{Place}
use Rattle.spaces.specs.declared.wishes.Wish.{Wish}
use Rattle.spaces.specs.declared.wishes.Wish.TheVariants as wish
use Rattle.spaces.specs.declared.faults.MapFault.{MapFault}
use Rattle.spaces.specs.Layout.{Layout, is_root, window_ppn, first_window_slot}
use Rattle.spaces.specs.Held.{IsLayout}
use Rattle.spaces.specs.Opening.{opening, is_word, first_word, root_word}
use Rattle.spaces.specs.Edits.{Store, place_of, page_of}
use Rattle.spaces.specs.Effects.{SameMaps, AddsPage, RemovesPage, ChangesFlags, EmptiesSpace, HasEffect}
use Rattle.spaces.specs.Holders.{emptied}
use Rattle.spaces.proofs.Emptying.{empties-space}
use Rattle.spaces.proofs.EditLaws.{edit-effect}
use Rattle.spaces.proofs.EntryWords.{pointed-table}
use Rattle.spaces.proofs.Paths.{some-same, vpn-below}
use Rattle.spaces.proofs.Trees.{kind-zero}
use Rattle.history.specs.Setup.{Setup}
use Rattle.history.specs.declared.event.Event.{Event}
use Rattle.history.specs.declared.event.Event.TheVariants.{Map, Unmap, Protect, Reclaim}
use Rattle.history.specs.declared.reply.Reply.{Reply}
use Rattle.history.specs.Turns.{History, is_ok, is_table, is_leaf, is_opened}
use Rattle.history.specs.Spaces.{holder_of}
use Rattle.history.specs.Tables.{words_of}
use Rattle.laws.proofs.StoredWords.{with_store, edited_after, as_edited}
use Rattle.history.specs.Due.{is_place, retires, edit_at, due, Lawful}
use Rattle.laws.specs.Kept.{HasPage, HavePages, IsSetup}
use Rattle.laws.proofs.Tools.{by_test}
use Rattle.laws.proofs.Accepted.{turn_of, ReclaimFound, reclaim_found, EditFound, unmap_edit, protect_edit}
use Rattle.laws.proofs.Causes.{IsAsked, has_place, halved}
use Rattle.laws.proofs.TreeKept.{tree, is_edit, map_edit, opened_some}

-- an edit's place and page, as an order asks for them, of a place that exists and does not retire
abbrev pub IsEdited : Setup → History → Place → Span → Type 0
IsEdited C H place page = IsAsked C place page × (is_place C H place ≡ true) × (retires H place ≡ false)

-- what a turn does to what the roots map: nothing, or what its edit says
pub data Changes (C : Setup) (H : History) (r : Reply) (old new : Tables) : Event → Type 0 where
  keeps : (event : Event) → SameMaps C.layout old new → Changes C H r old new event
  adds : (hart : ℕ) (place : Place) (page : Span) (ppn : ℕ) (flags : PteFlags) → is_leaf r ≡ true → IsEdited C H place page → AddsPage C.layout place page ppn flags old new
      → Changes C H r old new (Map hart place page ppn flags)
  removes : (hart : ℕ) (place : Place) (page : Span) (named : ℕ) → is_opened r ≡ true → IsEdited C H place page → RemovesPage C.layout place page old new
      → Changes C H r old new (Unmap hart place page named)
  changes_flags : (hart : ℕ) (place : Place) (page : Span) (flags : PteFlags) (named : ℕ) → is_opened r ≡ true → IsEdited C H place page → ChangesFlags C.layout place page flags old new
      → Changes C H r old new (Protect hart place page flags named)
  empties : (hart space : ℕ) → is_ok r ≡ true → ReclaimFound C H space → EmptiesSpace C.layout space old new → Changes C H r old new (Reclaim hart space)

same_maps : (l : Layout) (words : Tables) → SameMaps l words words
same_maps l words = λ s number ppn flags global has. (λ m. m, λ m. m)

-- at the opening no root maps anything
module _ (l : Layout) (fits : IsLayout l) where
  zero_no_leaf : (q : ℕ) (flags : PteFlags) → kind_of 0 ≡ kinds.Leaf q flags → ⊥
  zero_no_leaf q flags k = let bad : kinds.Invalid ≡ kinds.Leaf q flags = sym kind-zero ∙ k in cc

  root_no_leaf : (i q : ℕ) (flags : PteFlags) → i < TABLE_LENGTH → kind_of (root_word l i) ≡ kinds.Leaf q flags → ⊥
  root_no_leaf i q flags less =
      by_test (λ v. kind_of (cond v (table_word (window_ppn l (i - first_window_slot l)) true) 0) ≡ kinds.Leaf q flags → ⊥) (nat_le (first_window_slot l) i)
      (λ t k. let from = leb-true (first_window_slot l) i t in
      let points = pointed-table (window_ppn l (i - first_window_slot l)) true (omega (arith, fits.ppns_fit, fits.window, from)) in
      let bad : Some (window_ppn l (i - first_window_slot l)) ≡ None = sym points ∙ ap pointed_kind k in cc)
      (λ _. zero_no_leaf q flags)

  no_leaf : (f i entry q : ℕ) (flags : PteFlags) → i < TABLE_LENGTH → Some entry ≡ opening l f i → kind_of entry ≡ kinds.Leaf q flags → ⊥
  no_leaf f i entry q flags less e kind =
      by_test (λ v. Some entry ≡ cond v (Some (first_word l f i)) None → ⊥) (is_word l f i)
      (λ _ is. first (ap kind_of (sym (some-same entry (first_word l f i) is)) ∙ kind))
      (λ _ is. let bad : Some entry ≡ None = is in cc) e
    where
      first : kind_of (first_word l f i) ≡ kinds.Leaf q flags → ⊥
      first = by_test (λ v. kind_of (cond v (root_word l i) 0) ≡ kinds.Leaf q flags → ⊥) (is_root l f) (λ _. root_no_leaf i q flags less) (λ _. zero_no_leaf q flags)

  pub opening_maps_nothing : (root n ppn : ℕ) (flags : PteFlags) (global : Bool) → Maps l.scheme (opening l) root n ppn flags global → ⊥
  opening_maps_nothing root n ppn flags global m =
      no_leaf m.table (vpn_of m.va m.level) m.entry m.leaf flags (vpn-below m.va m.level) m.leads.here m.kind

module _ (C : Setup) (setup : IsSetup C) (H : History) (l : Lawful C H) (pages : HavePages H) where
  -- an edit that is due, and what it does
  edited : (hart : ℕ) (w : Wish) → EditFound C H hart w → IsPage (page_of w) → IsEdited C H (place_of w) (page_of w)
  edited hart w e page = (record { there = has_place C H setup.homes (place_of w) e.there; right_half = halved C H hart w e.store e.is; is_page = page }, e.there, e.live)

  effect : (hart : ℕ) (w : Wish) (e : EditFound C H hart w) → IsPage (page_of w) → HasEffect C.layout w e.store (words_of C H) (with_store (words_of C H) (edit_at C H hart w))
  effect hart w e page =
      let store = e.store in
      subst (λ (answer : Result Store MapFault). HasEffect C.layout w store (words_of C H) (with_store (words_of C H) answer)) (sym e.is)
      (edit-effect C.layout (words_of C H) (holder_of H) hart w store
      (is_edit C H hart w store setup.layout setup.homes (tree C setup.layout setup.homes H l pages) e.there page e.is))

  pub map_changes : (hart : ℕ) (place : Place) (page : Span) (ppn : ℕ) (flags : PteFlags) (r : Reply) → r ≡ due C H (Map hart place page ppn flags) → IsPage page
      → (is_table r || is_leaf r) ≡ true → Changes C H r (words_of C H) (with_store (words_of C H) (edit_at C H hart (wish.Map place page ppn flags))) (Map hart place page ppn flags)
  map_changes hart place page ppn flags r d is_page z =
      let m = map_edit C H hart place page ppn flags r d z in
      let does = effect hart (wish.Map place page ppn flags) m.edit is_page in
      by_test (λ _. Changes C H r (words_of C H) (with_store (words_of C H) (edit_at C H hart (wish.Map place page ppn flags))) (Map hart place page ppn flags)) (is_table r)
      (λ t. keeps (Map hart place page ppn flags) (does.0 (sym m.table ∙ t)))
      (λ t. adds hart place page ppn flags (sym (ap (λ v. v || is_leaf r) t) ∙ z) (edited hart (wish.Map place page ppn flags) m.edit is_page) (does.1 (sym m.table ∙ t)))

  edited_removes : (hart : ℕ) (place : Place) (page : Span) (named : ℕ) (r : Reply) → r ≡ due C H (Unmap hart place page named) → IsPage page → is_opened r ≡ true
      → IsEdited C H place page × RemovesPage C.layout place page (words_of C H) (with_store (words_of C H) (edit_at C H hart (wish.Unmap place page)))
  edited_removes hart place page named r d is_page z =
      let t = opened_some r z in
      let e = unmap_edit C H hart place page named t.0 r d t.1 in
      (edited hart (wish.Unmap place page) e is_page, effect hart (wish.Unmap place page) e is_page)

  protect_changes : (hart : ℕ) (place : Place) (page : Span) (flags : PteFlags) (named : ℕ) (r : Reply) → r ≡ due C H (Protect hart place page flags named) → IsPage page
      → is_opened r ≡ true
      → IsEdited C H place page × ChangesFlags C.layout place page flags (words_of C H) (with_store (words_of C H) (edit_at C H hart (wish.Protect place page flags)))
  protect_changes hart place page flags named r d is_page z =
      let t = opened_some r z in
      let e = protect_edit C H hart place page flags named t.0 r d t.1 in
      (edited hart (wish.Protect place page flags) e is_page, effect hart (wish.Protect place page flags) e is_page)

  pub reclaim_empties : (hart space : ℕ) (r : Reply) → r ≡ due C H (Reclaim hart space) → is_ok r ≡ true
      → EmptiesSpace C.layout space (words_of C H) (words_of C (turn_of (Reclaim hart space) r ∷ H))
  reclaim_empties hart space r d z =
      let f = reclaim_found C H hart space r d z in
      by_test (λ v. is_ok r ≡ v → EmptiesSpace C.layout space (words_of C H) (cond v (emptied C.layout (holder_of H) space (words_of C H)) (words_of C H))) (is_ok r)
      (λ _ _. empties-space C.layout setup.layout (words_of C H) (holder_of H) (tree C setup.layout setup.homes H l pages) space (subst (λ n. space < n) setup.homes f.there))
      (λ _ no_. absurd (false≢true (sym no_ ∙ z))) refl

  edited_changes : (event : Event) (r : Reply) → r ≡ due C H event → HasPage event → Changes C H r (words_of C H) (edited_after C event r (words_of C H) (holder_of H)) event
  edited_changes (Map hart place page ppn flags) r d has =
      by_test (λ v. Changes C H r (words_of C H) (cond v (with_store (words_of C H) (edit_at C H hart (wish.Map place page ppn flags))) (words_of C H)) (Map hart place page ppn flags)) (is_table r || is_leaf r)
      (map_changes hart place page ppn flags r d has)
      (λ _. keeps (Map hart place page ppn flags) (same_maps C.layout (words_of C H)))
  edited_changes (Unmap hart place page named) r d has =
      by_test (λ v. Changes C H r (words_of C H) (cond v (with_store (words_of C H) (edit_at C H hart (wish.Unmap place page))) (words_of C H)) (Unmap hart place page named)) (is_opened r)
      (λ z. let u = edited_removes hart place page named r d has z in removes hart place page named z u.0 u.1)
      (λ _. keeps (Unmap hart place page named) (same_maps C.layout (words_of C H)))
  edited_changes (Protect hart place page flags named) r d has =
      by_test (λ v. Changes C H r (words_of C H) (cond v (with_store (words_of C H) (edit_at C H hart (wish.Protect place page flags))) (words_of C H)) (Protect hart place page flags named)) (is_opened r)
      (λ z. let u = protect_changes hart place page flags named r d has z in changes_flags hart place page flags named z u.0 u.1)
      (λ _. keeps (Protect hart place page flags named) (same_maps C.layout (words_of C H)))
  edited_changes (Reclaim hart space) r d has =
      by_test (λ v. Changes C H r (words_of C H) (cond v (emptied C.layout (holder_of H) space (words_of C H)) (words_of C H)) (Reclaim hart space)) (is_ok r)
      (λ z. let f = reclaim_found C H hart space r d z in
      empties hart space z f (empties-space C.layout setup.layout (words_of C H) (holder_of H) (tree C setup.layout setup.homes H l pages) space (subst (λ n. space < n) setup.homes f.there)))
      (λ _. keeps (Reclaim hart space) (same_maps C.layout (words_of C H)))
  edited_changes event r d has = keeps event (same_maps C.layout (words_of C H))

  pub changes : (event : Event) (r : Reply) → r ≡ due C H event → HasPage event → Changes C H r (words_of C H) (words_of C (turn_of event r ∷ H)) event
  changes event r d has =
      subst (λ (words : Tables). Changes C H r (words_of C H) words event)
      (sym (as_edited C setup.layout setup.homes H (tree C setup.layout setup.homes H l pages) event r d)) (edited_changes event r d has)

  -- the turn that unmaps a page takes it away
  pub unmap_removes : (hart : ℕ) (place : Place) (page : Span) (named : ℕ) (r : Reply) → r ≡ due C H (Unmap hart place page named) → IsPage page → is_opened r ≡ true
      → IsEdited C H place page × RemovesPage C.layout place page (words_of C H) (words_of C (turn_of (Unmap hart place page named) r ∷ H))
  unmap_removes hart place page named r d is_page z =
      let u = edited_removes hart place page named r d is_page z in
      let same : words_of C (turn_of (Unmap hart place page named) r ∷ H) ≡ with_store (words_of C H) (edit_at C H hart (wish.Unmap place page)) =
      as_edited C setup.layout setup.homes H (tree C setup.layout setup.homes H l pages) (Unmap hart place page named) r d
      ∙ ap (λ b. cond b (with_store (words_of C H) (edit_at C H hart (wish.Unmap place page))) (words_of C H)) z
      in (u.0, subst (λ (words : Tables). RemovesPage C.layout place page (words_of C H) words) (sym same) u.1)
