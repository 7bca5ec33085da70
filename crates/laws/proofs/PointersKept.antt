-- An edit that is due replaces a word that is no pointer: so each pointer stays until its space is
-- reclaimed.
use Rattle.std.proofs.Common.{◌≡◌, ℕ, ◌⊎◌, ◌∷◌, Bool, true, false, cond, ◌||◌, Some, None, refl, ap, sym, ◌∙◌, subst, inl, inr}
use Rattle.std.specs.Prelude.{Result}
use Rattle.walk.specs.Leads.{Tables, PointsTo}
use Rattle.walk.specs.Pointers.{pointed}
use Rattle.walk.specs.Stores.{KeepsPointers, stored}
use Rattle.walk.proofs.Stored.{pointers-kept, stored_agrees}
use Rattle.spaces.specs.declared.faults.MapFault.{MapFault}
use Rattle.spaces.specs.declared.wishes.Wish.{Wish}
use Rattle.spaces.specs.declared.wishes.Wish.TheVariants as wish
use Rattle.spaces.specs.Edits.{Store, place_of}
use Rattle.spaces.proofs.Accepting.{accepted}
use Rattle.spaces.proofs.Keeping.{leaf-or-pointer}
use Rattle.walk.proofs.Downward.{points-to}
use Rattle.spaces.proofs.Trees.{pointed-zero}
use Rattle.history.specs.Setup.{Setup}
use Rattle.history.specs.declared.event.Event.{Event}
use Rattle.history.specs.declared.event.Event.TheVariants.{Map, Unmap, Protect, Reclaim}
use Rattle.history.specs.declared.reply.Reply.{Reply}
use Rattle.history.specs.Tables.{words_of}
use Rattle.laws.proofs.StoredWords.{with_store, edited_after, as_edited}
use Rattle.history.specs.Spaces.{holder_of}
use Rattle.history.specs.Due.{edit_at, due, Lawful}
use Rattle.history.specs.Runs.{with_turn}
use Rattle.laws.specs.Kept.{HavePages, IsSetup}
use Rattle.laws.proofs.Tools.{by_test}
use Rattle.laws.proofs.Causes.{has_place}
use Rattle.laws.proofs.TreeKept.{tree, map_edit, opened_some}
use Rattle.history.specs.Occurrences.{Empties}
use Rattle.history.proofs.Occurred.{ok_is}
use Rattle.spaces.specs.Holders.{unused_spare, emptied, is_word_of, zero_word}
use Rattle.laws.proofs.Accepted.{EditFound, unmap_edit, protect_edit, turn_of}
use Rattle.history.specs.Turns.{Turn, History, is_ok, is_table, is_leaf, is_opened}

-- an event that stores 0 on the words of a space
abbrev pub is_reclaim : Event → Bool
is_reclaim (Reclaim hart space) = true
is_reclaim _ = false

pub pointers_stay : (words : Tables) → KeepsPointers words words
pointers_stay words = record { kept = λ t n next point. refl }

module _ (C : Setup) (within : IsSetup C) where
  -- the store that is due
  edit_keeps : (H : History) (hart : ℕ) (w : Wish) → EditFound C H hart w → Lawful C H → HavePages H → KeepsPointers (words_of C H) (with_store (words_of C H) (edit_at C H hart w))
  edit_keeps H hart w e l has =
      let words = words_of C H in
      let store = e.store in
      let acc = accepted C.layout within.layout words (holder_of H) (tree C within.layout within.homes H l has) (unused_spare C.layout (holder_of H) hart) hart w store
      (has_place C H within.homes (place_of w) e.there) e.is in
      let was : pointed (Some acc.old) ≡ None = elim (leaf-or-pointer C.layout within.layout hart (holder_of H) _ acc.old w store.word acc.writes) [
        | inl leaf ↦ leaf.was
        | inr pointer ↦ ap (λ word. pointed (Some word)) pointer.was ∙ pointed-zero
      ] in
      let none : (next : ℕ) → PointsTo (words store.ppn store.index) next → ⊥ = λ next point.
      let bad : None ≡ Some next = sym was ∙ ap pointed (sym acc.word) ∙ points-to (words store.ppn store.index) next point in cc in
      let keeps = pointers-kept words (stored words store.ppn store.index store.word) store.ppn store.index (stored_agrees words store.ppn store.index store.word) none in
      subst (λ (answer : Result Store MapFault). KeepsPointers words (with_store words answer)) (sym e.is)
      keeps

  -- and each event with its reply, but for a Reclaim
  edited_kept : (event : Event) (r : Reply) (H : History) → is_reclaim event ≡ false → Lawful C H → HavePages H → r ≡ due C H event
      → KeepsPointers (words_of C H) (edited_after C event r (words_of C H) (holder_of H))
  edited_kept (Map hart place page ppn flags) r H other l has d =
      by_test (λ v. KeepsPointers (words_of C H) (cond v (with_store (words_of C H) (edit_at C H hart (wish.Map place page ppn flags))) (words_of C H))) (is_table r || is_leaf r)
      (λ z. edit_keeps H hart (wish.Map place page ppn flags) (map_edit C H hart place page ppn flags r d z).edit l has)
      (λ _. pointers_stay (words_of C H))
  edited_kept (Unmap hart place page named) r H other l has d =
      by_test (λ v. KeepsPointers (words_of C H) (cond v (with_store (words_of C H) (edit_at C H hart (wish.Unmap place page))) (words_of C H))) (is_opened r)
      (λ z. let t = opened_some r z in edit_keeps H hart (wish.Unmap place page) (unmap_edit C H hart place page named t.0 r d t.1) l has)
      (λ _. pointers_stay (words_of C H))
  edited_kept (Protect hart place page flags named) r H other l has d =
      by_test (λ v. KeepsPointers (words_of C H) (cond v (with_store (words_of C H) (edit_at C H hart (wish.Protect place page flags))) (words_of C H))) (is_opened r)
      (λ z. let t = opened_some r z in edit_keeps H hart (wish.Protect place page flags) (protect_edit C H hart place page flags named t.0 r d t.1) l has)
      (λ _. pointers_stay (words_of C H))
  edited_kept (Reclaim hart space) r H other l has d = absurd (cc (other))
  edited_kept event r H other l has d = pointers_stay (words_of C H)

  pub pointers_kept : (event : Event) (r : Reply) (H : History) → is_reclaim event ≡ false → Lawful C H → HavePages H → r ≡ due C H event
      → KeepsPointers (words_of C H) (words_of C (with_turn event r H))
  pointers_kept event r H other l has d =
      subst (λ (words : Tables). KeepsPointers (words_of C H) words)
      (sym (as_edited C within.layout within.homes H (tree C within.layout within.homes H l has) event r d)) (edited_kept event r H other l has d)

-- a pointer stays, or its space is reclaimed
pointer_step : (C : Setup) → IsSetup C → (event : Event) (r : Reply) (H : History) → Lawful C (turn_of event r ∷ H) → HavePages H → (ppn i next : ℕ) → PointsTo (words_of C H ppn i) next
    → (words_of C (turn_of event r ∷ H) ppn i ≡ words_of C H ppn i) ⊎ Empties C ppn i (turn_of event r) H
pointer_step C within (Reclaim hart space) r H l has ppn i next point =
    by_test (λ v. (cond v (emptied C.layout (holder_of H) space (words_of C H)) (words_of C H) ppn i ≡ words_of C H ppn i) ⊎ Empties C ppn i (turn_of (Reclaim hart space) r) H) (is_ok r)
    (λ ok. by_test (λ v. (cond v (zero_word (words_of C H ppn i)) (words_of C H ppn i) ≡ words_of C H ppn i) ⊎ Empties C ppn i (turn_of (Reclaim hart space) r) H)
    (is_word_of C.layout (holder_of H) space ppn i)
    (λ own. inr (record { hart = hart; space = space; event = refl; accepted = ok_is r ok; own = own }))
    (λ _. inl refl))
    (λ _. inl refl)
pointer_step C within event r H l has ppn i next point = inl ((pointers_kept C within event r H refl l.0 has l.1).kept ppn i next point)

pub pointer_stays : (C : Setup) → IsSetup C → (turn : Turn) (H : History) → Lawful C (turn ∷ H) → HavePages H → (ppn i next : ℕ) → PointsTo (words_of C H ppn i) next
    → (words_of C (turn ∷ H) ppn i ≡ words_of C H ppn i) ⊎ Empties C ppn i turn H
pointer_stays C within turn H l has ppn i next point = pointer_step C within turn.event turn.reply H l has ppn i next point
