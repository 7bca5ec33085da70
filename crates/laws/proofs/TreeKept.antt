-- The tables of a lawful history are a tree, for its edits keep it.
use Rattle.std.proofs.Common.{◌≡◌, ℕ, ◌<◌, true, false, cond, ◌||◌, not, [], ◌∷◌, length, Option, Some, refl, ap, sym, ◌∙◌, subst}
use Rattle.std.specs.Prelude.{Result, Ok, Err, is_some}
use Rattle.std.proofs.lemmas.Bool.{false≢true, not-false, or_parts}
use Rattle.pte.specs.Address.{IsPage}
use Rattle.spaces.specs.declared.places.Place.{Place}
use Rattle.spaces.specs.declared.wishes.Wish.{Wish}
use Rattle.spaces.specs.Held.{IsLayout}
use Rattle.spaces.specs.Holders.{Holders, unused_spare, emptied, given_back}
use Rattle.spaces.proofs.Emptying.{tree-emptied}
use Rattle.std.proofs.Math.Path.{fun_ext}
use Rattle.spaces.specs.Edits.{Store, place_of, page_of}
use Rattle.walk.specs.Leads.{Tables}
use Rattle.walk.specs.Pointers.{pointed, pointed_kind}
use Rattle.walk.proofs.FoundMembers.{leaf-ppn}
use Rattle.spaces.specs.Tree.{IsTree}
use Rattle.spaces.specs.Applied.{points_at, holders_after}
use Rattle.spaces.specs.Effects.{IsEdit}
use Rattle.spaces.proofs.EditLaws.{edit-tree, edit-accepted}
use Rattle.spaces.specs.Accepted.{Accepted, Writes, removes_leaf, changes_leaf}
use Rattle.spaces.specs.declared.wishes.Wish.TheVariants as wish
use Rattle.spaces.specs.declared.faults.MapFault.{MapFault}
use Rattle.spaces.proofs.EntryWords.{kind-stored}
use Rattle.pte.specs.Address.{Span}
use Rattle.pte.specs.Entry.{kind_of}
use Rattle.pte.specs.declared.entry.Kind.{Kind}
use Rattle.pte.specs.declared.entry.Kind.TheVariants as kinds
use Rattle.pte.specs.declared.flags.PteFlags.{PteFlags}
use Rattle.history.specs.declared.reply.Reply.{Reply}
use Rattle.history.specs.Setup.{Setup}
use Rattle.history.specs.declared.event.Event.{Event}
use Rattle.history.specs.declared.event.Event.TheVariants.{Map, Unmap, Protect, Reclaim}
use Rattle.history.specs.declared.reply.Reply.TheVariants as reply
use Rattle.history.specs.declared.refusal.Refusal.TheVariants.{NoHart, NoSpace, Retiring}
use Rattle.spaces.proofs.OpeningTree.{opening-tree}
use Rattle.laws.specs.Kept.{HasPage, HavePages}
use Rattle.laws.proofs.Tools.{by_test, none_since}
use Rattle.laws.proofs.Causes.{has_place}
use Rattle.history.specs.Turns.{History, is_ok, is_table, is_table_at, is_leaf, is_opened, opened_ticket}
use Rattle.history.specs.Spaces.{holder_of}
use Rattle.history.specs.Tables.{words_of}
use Rattle.laws.proofs.StoredWords.{with_store, edited_after, as_edited}
use Rattle.history.specs.Due.{is_place, retires, edit_at, map_reply, stored_reply, due, Lawful}
use Rattle.laws.proofs.Accepted.{is_accepted, turn_of, passed, reclaim_found, EditFound, unmap_edit, protect_edit}

-- an edit that is due is one of a tree, if the tables were
pub is_edit : (C : Setup) (H : History) (hart : ℕ) (w : Wish) (store : Store) → IsLayout C.layout → length C.asids ≡ length C.layout.homes
    → IsTree C.layout (words_of C H) (holder_of H) → is_place C H (place_of w) ≡ true → IsPage (page_of w) → edit_at C H hart w ≡ Ok store
    → IsEdit C.layout (words_of C H) (holder_of H) hart w store
is_edit C H hart w store layout same tree there page is =
    record { layout = layout; tree = tree; has = has_place C H same (place_of w) there; page = page; is = is }

-- the reply of a store says whether its word is a pointer
pub stored-table : (k : Kind) → is_table (stored_reply k) ≡ is_some (pointed_kind k)
stored-table (kinds.Table ppn global) = refl
stored-table kinds.Invalid = refl
stored-table kinds.Reserved = refl
stored-table (kinds.Leaf ppn flags) = refl

pub stored-at : (k : Kind) (frame : ℕ) → is_table_at (stored_reply k) frame ≡ points_at (pointed_kind k) frame
stored-at (kinds.Table ppn global) frame = refl
stored-at kinds.Invalid frame = refl
stored-at kinds.Reserved frame = refl
stored-at (kinds.Leaf ppn flags) frame = refl

-- a Map that is accepted has a store, and its reply says whether that is a pointer, and to which
-- frame
pub record MapMade (answer : Result Store MapFault) (r : Reply) : Type 0 where
  pub store : Store
  pub is : answer ≡ Ok store
  pub table : is_table r ≡ is_some (pointed (Some store.word))
  pub at : (frame : ℕ) → is_table_at r frame ≡ points_at (pointed (Some store.word)) frame

map_with : (answer : Result Store MapFault) (r : Reply) → map_reply answer ≡ r → is_accepted r ≡ true → MapMade answer r
map_with (Ok store) r e a = record {
  store = store;
  is = refl;
  table = ap is_table (sym e) ∙ stored-table (kind_of store.word);
  at = λ frame. ap (λ x. is_table_at x frame) (sym e) ∙ stored-at (kind_of store.word) frame;
}
map_with (Err fault) r e a = absurd (false≢true (ap is_accepted e ∙ a))

pub removed_unpointed : (spare : Option ℕ) (level old word : ℕ) (place : Place) (page : Span) → Writes spare level old (wish.Unmap place page) word → is_some (pointed (Some word)) ≡ false
unfolding kind_of
removed_unpointed spare level old word place page (removes_leaf _ _ q f l k) = refl

pub changed_unpointed : (spare : Option ℕ) (level old : ℕ) (place : Place) (page : Span) (flags : PteFlags) (word : ℕ) → Writes spare level old (wish.Protect place page flags) word → is_some (pointed (Some word)) ≡ false
changed_unpointed spare level old place page flags word (changes_leaf _ _ _ q f l k given) =
    rw (kind-stored q flags (leaf-ppn old q f k) given.byte given.leaf) refl

stored_accepted : (r : Reply) → (is_table r || is_leaf r) ≡ true → is_accepted r ≡ true
stored_accepted (reply.Table ppn) e = refl
stored_accepted reply.Leaf e = refl
stored_accepted _ e = absurd (false≢true e)

pub opened_some : (r : Reply) → is_opened r ≡ true → (t : ℕ) × (opened_ticket r ≡ Some t)
opened_some (reply.Opened t) e = (t, refl)
opened_some _ e = absurd (false≢true e)

pub record MapFound (C : Setup) (H : History) (hart : ℕ) (w : Wish) (r : Reply) : Type 0 where
  pub edit : EditFound C H hart w
  pub table : is_table r ≡ is_some (pointed (Some edit.store.word))
  pub at : (frame : ℕ) → is_table_at r frame ≡ points_at (pointed (Some edit.store.word)) frame

pub map_edit : (C : Setup) (H : History) (hart : ℕ) (place : Place) (page : Span) (ppn : ℕ) (flags : PteFlags) (r : Reply) → r ≡ due C H (Map hart place page ppn flags)
    → (is_table r || is_leaf r) ≡ true → MapFound C H hart (wish.Map place page ppn flags) r
map_edit C H hart place page ppn flags r d z =
    let a = stored_accepted r z in
    let p = passed _ NoHart _ r (sym d) a in
    let q = passed (not (is_place C H place)) NoSpace _ r p.1 a in
    let v = passed (retires H place) Retiring _ r q.1 a in
    let m = map_with (edit_at C H hart (wish.Map place page ppn flags)) r v.1 a in
    record { edit = record { there = not-false (is_place C H place) q.0; live = v.0; store = m.store; is = m.is }; table = m.table; at = m.at }

module _ (C : Setup) (layout : IsLayout C.layout) (same : length C.asids ≡ length C.layout.homes) where
  -- the words after a store that is due, with the spare frames in use as the reply says
  stored_tree : (H : History) (hart : ℕ) (w : Wish) (e : EditFound C H hart w) (held : Holders) → IsTree C.layout (words_of C H) (holder_of H) → IsPage (page_of w)
      → (Accepted C.layout (words_of C H) (unused_spare C.layout (holder_of H) hart) hart w e.store → (frame : ℕ) → held frame ≡ holders_after (holder_of H) (place_of w) e.store frame)
      → IsTree C.layout (with_store (words_of C H) (edit_at C H hart w)) held
  stored_tree H hart w e held tree page tells =
      let store = e.store in
      let edit = is_edit C H hart w store layout same tree e.there page e.is in
      let acc = edit-accepted C.layout (words_of C H) (holder_of H) hart w store edit in
      let new = edit-tree C.layout (words_of C H) (holder_of H) hart w store edit in
      subst (λ (answer : Result Store MapFault). IsTree C.layout (with_store (words_of C H) answer) held) (sym e.is)
      (subst (λ (x : Holders). IsTree C.layout (with_store (words_of C H) (Ok store)) x) (sym (fun_ext (λ frame. tells acc frame))) new)

  unpointed : (H : History) (place : Place) (store : Store) → is_some (pointed (Some store.word)) ≡ false → (frame : ℕ) → holder_of H frame ≡ holders_after (holder_of H) place store frame
  unpointed H place store none frame =
      ap (λ (o : Option ℕ). cond (points_at o frame) (Some place) (holder_of H frame)) (sym (none_since (pointed (Some store.word)) none))

  edited_step : (event : Event) (r : Reply) (H : History) → r ≡ due C H event → HasPage event → IsTree C.layout (words_of C H) (holder_of H)
      → IsTree C.layout (edited_after C event r (words_of C H) (holder_of H)) (holder_of (turn_of event r ∷ H))
  edited_step (Map hart place page ppn flags) r H d has tree =
      by_test (λ v. IsTree C.layout (cond v (with_store (words_of C H) (edit_at C H hart (wish.Map place page ppn flags))) (words_of C H)) (holder_of (turn_of (Map hart place page ppn flags) r ∷ H))) (is_table r || is_leaf r)
      (λ z. let m = map_edit C H hart place page ppn flags r d z in
      stored_tree H hart (wish.Map place page ppn flags) m.edit (holder_of (turn_of (Map hart place page ppn flags) r ∷ H)) tree has
      (λ _ frame. ap (λ t. cond t (Some place) (holder_of H frame)) (m.at frame)))
      (λ z. let none = (or_parts (is_table r) (is_leaf r) z).0 in
      subst (λ (x : Holders). IsTree C.layout (words_of C H) x) (fun_ext (λ frame. ap (λ t. cond t (Some place) (holder_of H frame)) (sym (no_table r frame none)))) tree)
    where
      no_table : (r : Reply) (frame : ℕ) → is_table r ≡ false → is_table_at r frame ≡ false
      no_table (reply.Table q) frame e = absurd (false≢true (sym e))
      no_table _ frame e = refl
  edited_step (Unmap hart place page named) r H d has tree =
      by_test (λ v. IsTree C.layout (cond v (with_store (words_of C H) (edit_at C H hart (wish.Unmap place page))) (words_of C H)) (holder_of H)) (is_opened r)
      (λ z. let t = opened_some r z in
      let e = unmap_edit C H hart place page named t.0 r d t.1 in
      stored_tree H hart (wish.Unmap place page) e (holder_of H) tree has (λ acc. unpointed H place e.store (removed_unpointed _ _ _ _ place page acc.writes)))
      (λ _. tree)
  edited_step (Protect hart place page flags named) r H d has tree =
      by_test (λ v. IsTree C.layout (cond v (with_store (words_of C H) (edit_at C H hart (wish.Protect place page flags))) (words_of C H)) (holder_of H)) (is_opened r)
      (λ z. let t = opened_some r z in
      let e = protect_edit C H hart place page flags named t.0 r d t.1 in
      stored_tree H hart (wish.Protect place page flags) e (holder_of H) tree has (λ acc. unpointed H place e.store (changed_unpointed _ _ _ place page flags _ acc.writes)))
      (λ _. tree)
  edited_step (Reclaim hart space) r H d has tree =
      by_test (λ v. IsTree C.layout (cond v (emptied C.layout (holder_of H) space (words_of C H)) (words_of C H)) (λ frame. cond v (given_back (holder_of H frame) space) (holder_of H frame))) (is_ok r)
      (λ z. let f = reclaim_found C H hart space r d z in
      tree-emptied C.layout layout (words_of C H) (holder_of H) tree space (subst (λ n. space < n) same f.there))
      (λ _. tree)
  edited_step _ r H d has tree = tree

  tree_step : (event : Event) (r : Reply) (H : History) → r ≡ due C H event → HasPage event → IsTree C.layout (words_of C H) (holder_of H)
      → IsTree C.layout (words_of C (turn_of event r ∷ H)) (holder_of (turn_of event r ∷ H))
  tree_step event r H d has tree =
      subst (λ (words : Tables). IsTree C.layout words (holder_of (turn_of event r ∷ H))) (sym (as_edited C layout same H tree event r d)) (edited_step event r H d has tree)

  pub tree : (H : History) → Lawful C H → HavePages H → IsTree C.layout (words_of C H) (holder_of H)
  tree [] l has = opening-tree C.layout layout
  tree (turn ∷ H) l has = tree_step turn.event turn.reply H l.1 has.1 (tree H l.0 has.0)
