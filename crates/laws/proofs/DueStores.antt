-- An accepted edit makes the store that was due to it.
use Rattle.std.proofs.Common.{◌≡◌, ℕ, true, cond, ◌||◌, ◌⊎◌, ◌∷◌, ap, sym, ◌∙◌, inl, inr}
use Rattle.spaces.specs.declared.wishes.Wish.{Wish}
use Rattle.spaces.specs.declared.wishes.Wish.TheVariants as wish
use Rattle.history.specs.Setup.{Setup}
use Rattle.history.specs.declared.event.Event.{Event}
use Rattle.history.specs.declared.event.Event.TheVariants.{Map, Unmap, Protect}
use Rattle.history.specs.declared.reply.Reply.{Reply}
use Rattle.history.specs.declared.reply.Reply.TheVariants as reply
use Rattle.history.specs.Turns.{Turn, History, is_table, is_leaf, is_opened, opened_ticket}
use Rattle.history.specs.Tables.{words_of}
use Rattle.history.specs.Spaces.{holder_of}
use Rattle.history.specs.Due.{edit_at, due, Lawful}
use Rattle.history.specs.Occurrences.{IsEdit}
use Rattle.laws.specs.Kept.{HavePages, IsSetup, MakesDueStore}
use Rattle.laws.proofs.Accepted.{EditFound, turn_of, unmap_edit, protect_edit}
use Rattle.laws.proofs.StoredWords.{with_store, edited_after, as_edited}
use Rattle.laws.proofs.TreeKept.{tree, map_edit}

made : (C : Setup) (H : History) (event : Event) (r : Reply) (hart by : ℕ) (w v : Wish) → by ≡ hart → w ≡ v → (found : EditFound C H by v)
    → words_of C (turn_of event r ∷ H) ≡ with_store (words_of C H) (edit_at C H by v) → MakesDueStore C hart w (turn_of event r) H
made C H event r hart by w v same is found words = record {
  store = found.store;
  due = ap (λ x. edit_at C H x w) (sym same) ∙ ap (edit_at C H by) is ∙ found.is;
  words = words ∙ ap (with_store (words_of C H)) found.is;
}

mapped : (r : Reply) → (r ≡ reply.Leaf) ⊎ ((table : ℕ) × (r ≡ reply.Table table)) → (is_table r || is_leaf r) ≡ true
mapped r m = elim m [ inl l ↦ ap (λ r. is_table r || is_leaf r) l | inr t ↦ ap (λ r. is_table r || is_leaf r) t.1 ]

module _ (C : Setup) (within : IsSetup C) (H : History) (l : Lawful C H) (has : HavePages H) where
  edited : (event : Event) (r : Reply) → r ≡ due C H event → words_of C (turn_of event r ∷ H) ≡ edited_after C event r (words_of C H) (holder_of H)
  edited event r d = as_edited C within.layout within.homes H (tree C within.layout within.homes H l has) event r d

  makes : (event : Event) (r : Reply) (hart : ℕ) (w : Wish) → r ≡ due C H event → IsEdit hart w event r → MakesDueStore C hart w (turn_of event r) H
  makes (Map by place page ppn flags) r hart w d e =
      let z = mapped r e.2 in
      let m = map_edit C H by place page ppn flags r d z in
      made C H (Map by place page ppn flags) r hart by w (wish.Map place page ppn flags) e.0 e.1 m.edit
      (edited (Map by place page ppn flags) r d ∙ ap (λ b. cond b (with_store (words_of C H) (edit_at C H by (wish.Map place page ppn flags))) (words_of C H)) z)
  makes (Unmap by place page named) r hart w d e =
      let found = unmap_edit C H by place page named e.2.0 r d (ap opened_ticket e.2.1) in
      made C H (Unmap by place page named) r hart by w (wish.Unmap place page) e.0 e.1 found
      (edited (Unmap by place page named) r d ∙ ap (λ b. cond b (with_store (words_of C H) (edit_at C H by (wish.Unmap place page))) (words_of C H)) (ap is_opened e.2.1))
  makes (Protect by place page flags named) r hart w d e =
      let found = protect_edit C H by place page flags named e.2.0 r d (ap opened_ticket e.2.1) in
      made C H (Protect by place page flags named) r hart by w (wish.Protect place page flags) e.0 e.1 found
      (edited (Protect by place page flags named) r d ∙ ap (λ b. cond b (with_store (words_of C H) (edit_at C H by (wish.Protect place page flags))) (words_of C H)) (ap is_opened e.2.1))
  makes _ r hart w d e = absurd e

pub due_store_made : (C : Setup) (turn : Turn) (H : History) (hart : ℕ) (wanted : Wish) → IsSetup C → Lawful C (turn ∷ H) → HavePages H → IsEdit hart wanted turn.event turn.reply
    → MakesDueStore C hart wanted turn H
due_store_made C turn H hart wanted within l has e = makes C within H l.0 has turn.event turn.reply hart wanted l.1 e
