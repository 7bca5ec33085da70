-- The word that an accepted edit stores is that of the store that is due.
use Rattle.std.proofs.Common.{◌≡◌, ℕ, true, false, cond, ◌||◌, not, Option, refl, ap, sym, ◌∙◌, ◌∷◌, subst, length, arith}
use Rattle.std.proofs.lemmas.Bool.{false≢true, not-false}
use Rattle.std.proofs.lemmas.Bool.Decides.{nat_tests}
use Rattle.std.specs.Prelude.{Result, Ok, Err, ◌==◌}
use Rattle.pte.specs.Address.{Span, level_of, vpn_of}
use Rattle.pte.specs.declared.entry.Kind.{Kind}
use Rattle.pte.specs.declared.entry.Kind.TheVariants as kinds
use Rattle.pte.specs.declared.flags.PteFlags.{PteFlags}
use Rattle.pte.specs.Entry.{kind_of, leaf_word, ppn_of}
use Rattle.pte.proofs.EntryKinds.{kind-table}
use Rattle.walk.specs.Leads.{Tables}
use Rattle.walk.specs.Stores.{stored}
use Rattle.spaces.specs.declared.places.Place.{Place}
use Rattle.spaces.specs.declared.faults.MapFault.{MapFault}
use Rattle.spaces.specs.declared.wishes.Wish.{Wish}
use Rattle.spaces.specs.declared.wishes.Wish.TheVariants as wish
use Rattle.spaces.specs.Accepted.{Writes, adds_table, adds_leaf}
use Rattle.spaces.specs.Edits.{Store, place_of, page_of, is_kernel, edit_of, path_of, wish_fault, wish_end, due_word, page_word, upper_word}
use Rattle.spaces.specs.Held.{IsLayout}
use Rattle.spaces.specs.Holders.{Holders, unused_spare, emptied}
use Rattle.spaces.specs.Tree.{IsTree}
use Rattle.spaces.proofs.Accepting.{accepted, unless-ok, store_at-ok}
use Rattle.spaces.proofs.EntryWords.{kind-stored}
use Rattle.spaces.proofs.Keeping.{fresh-of, fresh-range}
use Rattle.history.specs.Setup.{Setup}
use Rattle.history.specs.declared.event.Event.{Event}
use Rattle.history.specs.declared.event.Event.TheVariants.{Map, Unmap, Protect, Reclaim}
use Rattle.history.specs.declared.refusal.Refusal.TheVariants.{NoHart, NoSpace, Retiring}
use Rattle.history.specs.declared.reply.Reply.{Reply}
use Rattle.history.specs.declared.reply.Reply.TheVariants as reply
use Rattle.history.specs.Turns.{History, is_ok, is_table, is_leaf, is_opened}
use Rattle.history.specs.Tables.{words_of, written, with_written, edit_due}
use Rattle.history.specs.Spaces.{holder_of}
use Rattle.history.specs.Due.{is_place, retires, edit_at, map_reply, stored_reply, due}
use Rattle.laws.proofs.Tools.{by_test}
use Rattle.laws.proofs.Causes.{has_place}
use Rattle.laws.proofs.Accepted.{is_accepted, passed, turn_of, unmap_edit, protect_edit}

-- the words once a store was made
abbrev pub with_store : Tables → Result Store MapFault → Tables
with_store words (Ok store) = stored words store.ppn store.index store.word
with_store words (Err fault) = words

-- the words that an event leaves, by the store that is due
abbrev pub edited_after : Setup → Event → Reply → Tables → Holders → Tables
edited_after C (Map hart place page ppn flags) r words holders = cond (is_table r || is_leaf r) (with_store words (edit_due C words holders hart (wish.Map place page ppn flags))) words
edited_after C (Unmap hart place page named) r words holders = cond (is_opened r) (with_store words (edit_due C words holders hart (wish.Unmap place page))) words
edited_after C (Protect hart place page flags named) r words holders = cond (is_opened r) (with_store words (edit_due C words holders hart (wish.Protect place page flags))) words
edited_after C (Reclaim hart space) r words holders = cond (is_ok r) (emptied C.layout holders space words) words
edited_after C _ r words holders = words

-- the words once this one stands where the path of the page ends
abbrev with_word : Setup → Tables → Place → Span → ℕ → Tables
with_word C words place page word = stored words (path_of C.layout words place page).table (vpn_of page.base (path_of C.layout words place page).level) word

abbrev with_map : Setup → Tables → ℕ → Place → Span → ℕ → PteFlags → Reply → Tables
with_map C words hart place page ppn flags r = with_written C words (written C (Map hart place page ppn flags) r words)

-- what the word that is due is
leaf_is : (word q : ℕ) (f : PteFlags) → kind_of word ≡ kinds.Leaf q f → q ≡ ppn_of word
unfolding kind_of
leaf_is word q f kind = grind (arith, nat_tests)

unmap_page : (place : Place) (page : Span) (k : Kind) (new : ℕ) → page_word (wish.Unmap place page) k ≡ Ok new → 0 ≡ new
unmap_page place page kinds.Invalid new e = absurd cc
unmap_page place page kinds.Reserved new e = absurd cc
unmap_page place page (kinds.Table q g) new e = absurd cc
unmap_page place page (kinds.Leaf q f) new e = cc

unmap_upper : (place : Place) (page : Span) (spare : Option ℕ) (k : Kind) (new : ℕ) → upper_word (wish.Unmap place page) spare k ≡ Ok new → ⊥
unmap_upper place page spare kinds.Invalid new e = cc
unmap_upper place page spare kinds.Reserved new e = cc
unmap_upper place page spare (kinds.Table q g) new e = cc
unmap_upper place page spare (kinds.Leaf q f) new e = cc

protect_page : (place : Place) (page : Span) (flags : PteFlags) (word : ℕ) (k : Kind) (new : ℕ) → kind_of word ≡ k → page_word (wish.Protect place page flags) k ≡ Ok new → leaf_word (ppn_of word) flags ≡ new
protect_page place page flags word kinds.Invalid new is e = absurd cc
protect_page place page flags word kinds.Reserved new is e = absurd cc
protect_page place page flags word (kinds.Table q g) new is e = absurd cc
protect_page place page flags word (kinds.Leaf q f) new is e = let same : leaf_word q flags ≡ new = cc in ap (λ p. leaf_word p flags) (sym (leaf_is word q f is)) ∙ same

protect_upper : (place : Place) (page : Span) (flags : PteFlags) (spare : Option ℕ) (k : Kind) (new : ℕ) → upper_word (wish.Protect place page flags) spare k ≡ Ok new → ⊥
protect_upper place page flags spare kinds.Invalid new e = cc
protect_upper place page flags spare kinds.Reserved new e = cc
protect_upper place page flags spare (kinds.Table q g) new e = cc
protect_upper place page flags spare (kinds.Leaf q f) new e = cc

unmap_new : (place : Place) (page : Span) (spare : Option ℕ) (level entry new : ℕ)
    → cond (level == level_of page.size) (page_word (wish.Unmap place page) (kind_of entry)) (upper_word (wish.Unmap place page) spare (kind_of entry)) ≡ Ok new → 0 ≡ new
unmap_new place page spare level entry new e =
    by_test (λ v. cond v (page_word (wish.Unmap place page) (kind_of entry)) (upper_word (wish.Unmap place page) spare (kind_of entry)) ≡ Ok new → 0 ≡ new) (level == level_of page.size)
    (λ _ q. unmap_page place page (kind_of entry) new q) (λ _ q. absurd (unmap_upper place page spare (kind_of entry) new q)) e

protect_new : (place : Place) (page : Span) (flags : PteFlags) (spare : Option ℕ) (level entry new : ℕ)
    → cond (level == level_of page.size) (page_word (wish.Protect place page flags) (kind_of entry)) (upper_word (wish.Protect place page flags) spare (kind_of entry)) ≡ Ok new
    → leaf_word (ppn_of entry) flags ≡ new
protect_new place page flags spare level entry new e =
    by_test (λ v. cond v (page_word (wish.Protect place page flags) (kind_of entry)) (upper_word (wish.Protect place page flags) spare (kind_of entry)) ≡ Ok new → leaf_word (ppn_of entry) flags ≡ new) (level == level_of page.size)
    (λ _ q. protect_page place page flags entry (kind_of entry) new refl q) (λ _ q. absurd (protect_upper place page flags spare (kind_of entry) new q)) e

module _ (C : Setup) (words : Tables) (holders : Holders) (hart : ℕ) (store : Store) where
  -- the store stands where the path of its page ends
  pub record StandsAtEnd (w : Wish) : Type 0 where
    pub new : ℕ
    pub due : due_word w (unused_spare C.layout holders hart) (wish_end C.layout words w) ≡ Ok new
    pub word : store.word ≡ new
    pub same : with_word C words (place_of w) (page_of w) new ≡ stored words store.ppn store.index store.word

  at_end : (w : Wish) → edit_due C words holders hart w ≡ Ok store → StandsAtEnd w
  unfolding edit_of
  at_end w e =
      let parts = unless-ok (wish_fault C.layout hart w) _ store e in
      let s = store_at-ok (place_of w) (page_of w).base (wish_end C.layout words w) (due_word w (unused_spare C.layout holders hart) (wish_end C.layout words w)) store parts.1 in
      record { new = s.new; due = s.due; word = ap (λ (x : Store). x.word) s.is; same = sym (ap (λ (x : Store). stored words x.ppn x.index x.word) s.is) }

  pub unmap_stored : (place : Place) (page : Span) → edit_due C words holders hart (wish.Unmap place page) ≡ Ok store → with_word C words place page 0 ≡ stored words store.ppn store.index store.word
  unmap_stored place page e =
      let a = at_end (wish.Unmap place page) e in
      ap (with_word C words place page) (unmap_new place page (unused_spare C.layout holders hart) _ (path_of C.layout words place page).entry a.new a.due) ∙ a.same

  pub protect_stored : (place : Place) (page : Span) (flags : PteFlags) → edit_due C words holders hart (wish.Protect place page flags) ≡ Ok store
      → with_word C words place page (leaf_word (ppn_of (path_of C.layout words place page).entry) flags) ≡ stored words store.ppn store.index store.word
  protect_stored place page flags e =
      let a = at_end (wish.Protect place page flags) e in
      ap (with_word C words place page) (protect_new place page flags (unused_spare C.layout holders hart) _ (path_of C.layout words place page).entry a.new a.due) ∙ a.same

  map_new : (place : Place) (page : Span) (ppn : ℕ) (flags : PteFlags) (level old word : ℕ) → IsLayout C.layout → Writes (unused_spare C.layout holders hart) level old (wish.Map place page ppn flags) word
      → with_map C words hart place page ppn flags (stored_reply (kind_of word)) ≡ with_word C words place page word
  map_new place page ppn flags level old word fits (adds_table _ _ _ _ frame above zero spare) =
      rw (kind-table frame (is_kernel place) (fresh-range C.layout fits hart holders frame (fresh-of C.layout hart holders frame spare))) refl
  map_new place page ppn flags level old word fits (adds_leaf _ _ _ _ at zero ok below aligned) =
      rw (kind-stored ppn flags below ok.byte ok.leaf) refl

  pub map_stored : (place : Place) (page : Span) (ppn : ℕ) (flags : PteFlags) (level old : ℕ) → IsLayout C.layout → edit_due C words holders hart (wish.Map place page ppn flags) ≡ Ok store
      → Writes (unused_spare C.layout holders hart) level old (wish.Map place page ppn flags) store.word
      → with_map C words hart place page ppn flags (stored_reply (kind_of store.word)) ≡ stored words store.ppn store.index store.word
  map_stored place page ppn flags level old fits e writes =
      let a = at_end (wish.Map place page ppn flags) e in
      map_new place page ppn flags level old store.word fits writes ∙ (ap (with_word C words place page) a.word ∙ a.same)

-- a Map that is accepted has a store, and its reply is the one for the stored word
map_made : (answer : Result Store MapFault) (r : Reply) → map_reply answer ≡ r → is_accepted r ≡ true → (store : Store) × (answer ≡ Ok store) × (stored_reply (kind_of store.word) ≡ r)
map_made (Ok store) r e a = (store, refl, e)
map_made (Err fault) r e a = absurd (false≢true (ap is_accepted e ∙ a))

stored_accepted : (r : Reply) → (is_table r || is_leaf r) ≡ true → is_accepted r ≡ true
stored_accepted (reply.Table ppn) e = refl
stored_accepted reply.Leaf e = refl
stored_accepted _ e = absurd (false≢true e)

module _ (C : Setup) (layout : IsLayout C.layout) (same : length C.asids ≡ length C.layout.homes) (H : History) (tree : IsTree C.layout (words_of C H) (holder_of H)) where
  not_stored : (hart : ℕ) (place : Place) (page : Span) (ppn : ℕ) (flags : PteFlags) (r : Reply) → (is_table r || is_leaf r) ≡ false → with_map C (words_of C H) hart place page ppn flags r ≡ words_of C H
  not_stored hart place page ppn flags (reply.Table frame) e = absurd (false≢true (sym e))
  not_stored hart place page ppn flags reply.Leaf e = absurd (false≢true (sym e))
  not_stored hart place page ppn flags _ e = refl

  map_edited : (hart : ℕ) (place : Place) (page : Span) (ppn : ℕ) (flags : PteFlags) (r : Reply) → r ≡ due C H (Map hart place page ppn flags) → (is_table r || is_leaf r) ≡ true
      → with_map C (words_of C H) hart place page ppn flags r ≡ with_store (words_of C H) (edit_at C H hart (wish.Map place page ppn flags))
  map_edited hart place page ppn flags r d z =
      let a = stored_accepted r z in
      let p = passed _ NoHart _ r (sym d) a in
      let q = passed (not (is_place C H place)) NoSpace _ r p.1 a in
      let v = passed (retires H place) Retiring _ r q.1 a in
      let m = map_made (edit_at C H hart (wish.Map place page ppn flags)) r v.1 a in
      let acc = accepted C.layout layout (words_of C H) (holder_of H) tree (unused_spare C.layout (holder_of H) hart) hart (wish.Map place page ppn flags) m.0
      (has_place C H same place (not-false (is_place C H place) q.0)) m.1 in
      subst (λ (x : Reply). with_map C (words_of C H) hart place page ppn flags x ≡ with_store (words_of C H) (edit_at C H hart (wish.Map place page ppn flags))) m.2
      (map_stored C (words_of C H) (holder_of H) hart m.0 place page ppn flags _ _ layout m.1 acc.writes ∙ ap (with_store (words_of C H)) (sym m.1))

  unmap_edited : (hart : ℕ) (place : Place) (page : Span) (named : ℕ) (r : Reply) → r ≡ due C H (Unmap hart place page named)
      → with_written C (words_of C H) (written C (Unmap hart place page named) r (words_of C H)) ≡ cond (is_opened r) (with_store (words_of C H) (edit_at C H hart (wish.Unmap place page))) (words_of C H)
  unmap_edited hart place page named (reply.Opened ticket) d =
      let e = unmap_edit C H hart place page named ticket (reply.Opened ticket) d refl in
      unmap_stored C (words_of C H) (holder_of H) hart e.store place page e.is ∙ ap (with_store (words_of C H)) (sym e.is)
  unmap_edited hart place page named _ d = refl

  protect_edited : (hart : ℕ) (place : Place) (page : Span) (flags : PteFlags) (named : ℕ) (r : Reply) → r ≡ due C H (Protect hart place page flags named)
      → with_written C (words_of C H) (written C (Protect hart place page flags named) r (words_of C H)) ≡ cond (is_opened r) (with_store (words_of C H) (edit_at C H hart (wish.Protect place page flags))) (words_of C H)
  protect_edited hart place page flags named (reply.Opened ticket) d =
      let e = protect_edit C H hart place page flags named ticket (reply.Opened ticket) d refl in
      protect_stored C (words_of C H) (holder_of H) hart e.store place page flags e.is ∙ ap (with_store (words_of C H)) (sym e.is)
  protect_edited hart place page flags named _ d = refl

  -- the words that a turn leaves are those of the store that was due
  pub as_edited : (event : Event) (r : Reply) → r ≡ due C H event → words_of C (turn_of event r ∷ H) ≡ edited_after C event r (words_of C H) (holder_of H)
  as_edited (Map hart place page ppn flags) r d =
      by_test (λ v. (is_table r || is_leaf r) ≡ v → with_map C (words_of C H) hart place page ppn flags r ≡ cond v (with_store (words_of C H) (edit_at C H hart (wish.Map place page ppn flags))) (words_of C H)) (is_table r || is_leaf r)
      (λ _ z. map_edited hart place page ppn flags r d z) (λ _ z. not_stored hart place page ppn flags r z) refl
  as_edited (Unmap hart place page named) r d = unmap_edited hart place page named r d
  as_edited (Protect hart place page flags named) r d = protect_edited hart place page flags named r d
  as_edited (Reclaim hart space) r d = refl
  as_edited _ r d = refl
