-- What a machine finds of an edit shows what the edit makes stale.
use Rattle.std.proofs.Common.{◌≡◌, ℕ, ◌+◌, ◌%◌, true, false, cond, ◌∷◌, Option, Some, None, refl, ap, sym, ◌∙◌, subst}
use Rattle.std.specs.Prelude.{◌↔◌, IfSome, IfNone}
use Rattle.pte.specs.Address.{Span, IsPage, pages_of}
use Rattle.pte.specs.declared.flags.PteFlags.{PteFlags}
use Rattle.pte.specs.declared.address.What.TheVariants.{PageOf}
use Rattle.pte.specs.declared.entry.Kind.TheVariants as kinds
use Rattle.pte.specs.Entry.{kind_of}
use Rattle.walk.specs.Leads.{Tables}
use Rattle.spaces.specs.declared.places.Place.{Place}
use Rattle.spaces.specs.declared.wishes.Wish.{Wish}
use Rattle.spaces.specs.declared.wishes.Wish.TheVariants as wish
use Rattle.spaces.specs.Edits.{Store, page_of, place_of}
use Rattle.spaces.specs.Applied.{words_after_store}
use Rattle.spaces.specs.Effects.{RemovesPage, ChangesFlags}
use Rattle.spaces.proofs.EditLaws.{edit-effect}
use Rattle.walk.specs.Maps.{LiesIn}
use Rattle.tlb.specs.Mappings.{Mapping, IsMappedBy}
use Rattle.history.specs.Setup.{Setup}
use Rattle.history.specs.declared.event.Event.{Event}
use Rattle.history.specs.declared.event.Event.TheVariants.{Unmap, Protect}
use Rattle.history.specs.declared.reply.Reply.{Reply}
use Rattle.history.specs.declared.reply.Reply.TheVariants as reply
use Rattle.history.specs.Turns.{History, is_opened, opened_ticket}
use Rattle.history.specs.Tables.{words_of}
use Rattle.laws.proofs.StoredWords.{with_store, as_edited}
use Rattle.laws.proofs.TreeKept.{tree}
use Rattle.history.specs.Spaces.{asid_in, holder_of}
use Rattle.history.specs.Harts.{entries_of}
use Rattle.history.specs.Due.{due, edit_at, is_place}
use Rattle.history.specs.Staleness.{Reaches}
use Rattle.laws.specs.Kept.{HasPage}
use Rattle.laws.proofs.Accepted.{EditFound, protect_edit, unmap_edit}
use Rattle.stepcore.specs.State.{State}
use Rattle.stepcore.specs.Answers.{asid_of_place, edit_in}
use Rattle.stepcore.specs.Stands.{Stands}
use Rattle.stepcore.proofs.HartReplies.{edit_same, words_same}
use Rattle.stepcore.proofs.SpaceReplies.{page_asked, place_same}
use Rattle.stale.specs.declared.changes.Change.{Change}
use Rattle.stale.specs.Leaves.{IsChanged, IsChangeOf, IsOfLeaf}
use Rattle.stale.specs.Stale.{BecomesStale}
use Rattle.stale.specs.Told.{is_edit}
use Rattle.stale.specs.UseRuns.{due_turn}
use Rattle.stale.proofs.ByEdit.{acc, becomes_leaf, edit, leaf, leaf_becomes, EditDoes, IsOnLeaf, LeafOf, protect_does, unmap_does}
use Rattle.stale.proofs.Changed.{same_store}
use Rattle.stale.proofs.NoEdit.{nothing_becomes}

opened_is : (r : Reply) (t : ℕ) → opened_ticket r ≡ Some t → is_opened r ≡ true
opened_is (reply.Opened n) t e = refl
opened_is _ t e = absurd (cc (e))

module _ (C : Setup) (m : State) (H : History) (st : Stands C m H) where
  asid_is : (place : Place) (page : Span) → is_place C H place ≡ true → asid_of_place m place ≡ asid_in C H place
  asid_is place page there = let e : PageOf page (asid_of_place m place) ≡ PageOf page (asid_in C H place) = page_asked C m H st place page there in cc

  module _ (hart : ℕ) (w : Wish) (found : EditFound C H hart w) (is_page : IsPage (page_of w)) (on : IsOnLeaf w) where
    abbrev Leaf-of : Mapping → Type 0
    Leaf-of p = LeafOf C st.within H st.lawful st.pages hart w found is_page on p

    -- what the machine finds is the leaf
    record IsTheLeaf (c : Change) : Type 0 where
      reach : c.reach ≡ asid_in C H (place_of w)
      page : c.page ≡ page_of w
      ppn : c.ppn ≡ (leaf C st.within H st.lawful st.pages hart w found is_page on).q
      flags : c.flags ≡ (leaf C st.within H st.lawful st.pages hart w found is_page on).f
      aligned : (leaf C st.within H st.lawful st.pages hart w found is_page on).q % pages_of (page_of w).size ≡ 0
      other : kind_of found.store.word ≡ kinds.Leaf (leaf C st.within H st.lawful st.pages hart w found is_page on).q (leaf C st.within H st.lawful st.pages hart w found is_page on).f → ⊥

    the_leaf : (c : Change) → IsChangeOf m hart w c → IsTheLeaf c
    the_leaf c is =
        let found_leaf = leaf C st.within H st.lawful st.pages hart w found is_page on in
        let accepted = acc C st.within H st.lawful st.pages hart w found is_page on in
        let stores : is.store ≡ found.store = same_store is.store found.store (edit_in m hart w) is.edit (edit_same C m H st hart w ∙ found.is) in
        let words : words_of C H found.store.ppn found.store.index ≡ Some is.leaf.word =
        subst (λ (s : Store). words_of C H s.ppn s.index ≡ Some is.leaf.word) stores
        (subst (λ (x : Tables). x is.store.ppn is.store.index ≡ Some is.leaf.word) (words_same C m H st) is.leaf.is)
        in
        let old : Some is.leaf.word ≡ Some accepted.old = sym words ∙ accepted.word in
        let word : is.leaf.word ≡ accepted.old = cc in
        let kind : kinds.Leaf c.ppn c.flags ≡ kinds.Leaf found_leaf.q found_leaf.f = sym is.leaf.kind ∙ ap kind_of word ∙ found_leaf.kind in
        let ppn : c.ppn ≡ found_leaf.q = cc in
        let flags : c.flags ≡ found_leaf.f = cc in
        record {
          reach = is.reach ∙ asid_is (place_of w) (page_of w) found.there;
          page = is.page;
          ppn = ppn;
          flags = flags;
          aligned = subst (λ (x : ℕ). x % pages_of (page_of w).size ≡ 0) ppn is.leaf.aligned;
          other = λ e. is.leaf.other (ap (λ (s : Store). kind_of s.word) stores ∙ e ∙ sym kind);
        }

    -- and it finds it, if any mapping of the leaf is made stale
    leaf_there : (p : Mapping) → Leaf-of p → (c : Change) × IsChangeOf m hart w c
    leaf_there p is =
        let found_leaf = leaf C st.within H st.lawful st.pages hart w found is_page on in
        let accepted = acc C st.within H st.lawful st.pages hart w found is_page on in (
          record { reach = asid_of_place m (place_of w); page = page_of w; ppn = found_leaf.q; flags = found_leaf.f },
          record {
            there = place_same C m H st (place_of w) ∙ found.there;
            reach = refl;
            page = refl;
            store = found.store;
            edit = edit_same C m H st hart w ∙ found.is;
            leaf = record {
              word = accepted.old;
              is = subst (λ (x : Tables). x found.store.ppn found.store.index ≡ Some accepted.old) (sym (words_same C m H st)) accepted.word;
              kind = found_leaf.kind;
              aligned = is.aligned;
              other = is.other;
            };
          },
        )

    of_change : (c : Change) (p : Mapping) → IsTheLeaf c → Leaf-of p ↔ IsOfLeaf c p
    of_change c p the = (
      λ is. record {
        asid = is.asid ∙ sym the.reach;
        page = subst (λ (x : Span). LiesIn x p.page) (sym the.page) is.page;
        ppn = is.ppn ∙ ap (λ n. n + p.page % pages_of (page_of w).size) (sym the.ppn) ∙ ap (λ (x : Span). c.ppn + p.page % pages_of x.size) (sym the.page);
        flags = is.flags ∙ sym the.flags;
      },
      λ is. record {
        asid = is.asid ∙ the.reach;
        page = subst (λ (x : Span). LiesIn x p.page) the.page is.page;
        ppn = is.ppn ∙ ap (λ (x : Span). c.ppn + p.page % pages_of x.size) the.page ∙ ap (λ n. n + p.page % pages_of (page_of w).size) the.ppn;
        flags = is.flags ∙ the.flags;
        aligned = the.aligned;
        other = the.other;
      },
    )

    module _ (event : Event) (same_entries : (h : ℕ) → entries_of C (due_turn C H event ∷ H) h ≡ entries_of C H h)
        (same_reach : (of : Option ℕ) (s : ℕ) → Reaches C H of s ↔ Reaches C (due_turn C H event ∷ H) of s)
        (does : EditDoes C.layout (place_of w) (page_of w) (leaf C st.within H st.lawful st.pages hart w found is_page on).q (leaf C st.within H st.lawful st.pages hart w found is_page on).f
        found.store.word (words_of C H) (words_of C (due_turn C H event ∷ H))) where
      told : (result : Option Change) → IfSome result (IsChangeOf m hart w) → IfNone result ((c : Change) → IsChangeOf m hart w c → ⊥) → (h : ℕ) (p : Mapping)
          → BecomesStale C (due_turn C H event) H h p ↔ (IsMappedBy (entries_of C (due_turn C H event ∷ H) h) p × IsChanged result p)
      told None some none h p = (
        λ b. let is = leaf_there p (becomes_leaf C st.within H st.lawful st.pages hart w found is_page on (due_turn C H event) same_entries same_reach does h p b) in absurd (none is.0 is.1),
        λ held. absurd held.1,
      )
      told (Some c) some none h p =
          let both = of_change c p (the_leaf c some) in (
            λ b. (b.after.held, both.0 (becomes_leaf C st.within H st.lawful st.pages hart w found is_page on (due_turn C H event) same_entries same_reach does h p b)),
            λ held. leaf_becomes C st.within H st.lawful st.pages hart w found is_page on (due_turn C H event) same_entries same_reach does h p held.0 (both.1 held.1),
          )

  unmap_reach : (hart : ℕ) (place : Place) (page : Span) (named : ℕ) (of : Option ℕ) (s : ℕ) → Reaches C H of s ↔ Reaches C (due_turn C H (Unmap hart place page named) ∷ H) of s
  unmap_reach hart place page named None s = (λ below. below, λ below. below)
  unmap_reach hart place page named (Some a) s = (λ has. record { there = has.there; kept = has.kept; same = has.same }, λ has. record { there = has.there; kept = has.kept; same = has.same })

  protect_reach : (hart : ℕ) (place : Place) (page : Span) (flags : PteFlags) (named : ℕ) (of : Option ℕ) (s : ℕ) → Reaches C H of s ↔ Reaches C (due_turn C H (Protect hart place page flags named) ∷ H) of s
  protect_reach hart place page flags named None s = (λ below. below, λ below. below)
  protect_reach hart place page flags named (Some a) s = (λ has. record { there = has.there; kept = has.kept; same = has.same }, λ has. record { there = has.there; kept = has.kept; same = has.same })

  pub unmap_told : (hart : ℕ) (place : Place) (page : Span) (named t : ℕ) (result : Option Change) → IfSome result (IsChangeOf m hart (wish.Unmap place page))
      → IfNone result ((c : Change) → IsChangeOf m hart (wish.Unmap place page) c → ⊥) → (h : ℕ) (p : Mapping) → IsPage page → opened_ticket (due C H (Unmap hart place page named)) ≡ Some t
      → BecomesStale C (due_turn C H (Unmap hart place page named)) H h p ↔ (IsMappedBy (entries_of C (due_turn C H (Unmap hart place page named) ∷ H) h) p × IsChanged result p)
  unmap_told hart place page named t result some none h p is_page opened =
      let w = wish.Unmap place page in
      let r = due C H (Unmap hart place page named) in
      let found = unmap_edit C H hart place page named t r refl opened in
      let found_leaf = leaf C st.within H st.lawful st.pages hart w found is_page tt in
      let new : words_of C (due_turn C H (Unmap hart place page named) ∷ H) ≡ words_after_store (words_of C H) found.store =
      as_edited C st.within.layout st.within.homes H (tree C st.within.layout st.within.homes H st.lawful st.pages) (Unmap hart place page named) r refl
      ∙ ap (λ b. cond b (with_store (words_of C H) (edit_at C H hart w)) (words_of C H)) (opened_is r t opened) ∙ ap (with_store (words_of C H)) found.is
      in
      let effect : RemovesPage C.layout place page (words_of C H) (words_after_store (words_of C H) found.store) =
      edit-effect C.layout (words_of C H) (holder_of H) hart w found.store (edit C st.within H st.lawful st.pages hart w found is_page tt)
      in
      told hart w found is_page tt (Unmap hart place page named) (λ x. refl) (unmap_reach hart place page named)
      (unmap_does C.layout place page found_leaf.q found_leaf.f found.store.word (words_of C H) (words_of C (due_turn C H (Unmap hart place page named) ∷ H)) found_leaf.then_
      (subst (λ (x : Tables). RemovesPage C.layout place page (words_of C H) x) (sym new) effect)) result some none h p

  pub protect_told : (hart : ℕ) (place : Place) (page : Span) (flags : PteFlags) (named t : ℕ) (result : Option Change) → IfSome result (IsChangeOf m hart (wish.Protect place page flags))
      → IfNone result ((c : Change) → IsChangeOf m hart (wish.Protect place page flags) c → ⊥) → (h : ℕ) (p : Mapping) → IsPage page → opened_ticket (due C H (Protect hart place page flags named)) ≡ Some t
      → BecomesStale C (due_turn C H (Protect hart place page flags named)) H h p ↔ (IsMappedBy (entries_of C (due_turn C H (Protect hart place page flags named) ∷ H) h) p × IsChanged result p)
  protect_told hart place page flags named t result some none h p is_page opened =
      let w = wish.Protect place page flags in
      let r = due C H (Protect hart place page flags named) in
      let found = protect_edit C H hart place page flags named t r refl opened in
      let found_leaf = leaf C st.within H st.lawful st.pages hart w found is_page tt in
      let new : words_of C (due_turn C H (Protect hart place page flags named) ∷ H) ≡ words_after_store (words_of C H) found.store =
      as_edited C st.within.layout st.within.homes H (tree C st.within.layout st.within.homes H st.lawful st.pages) (Protect hart place page flags named) r refl
      ∙ ap (λ b. cond b (with_store (words_of C H) (edit_at C H hart w)) (words_of C H)) (opened_is r t opened) ∙ ap (with_store (words_of C H)) found.is
      in
      let effect : ChangesFlags C.layout place page flags (words_of C H) (words_after_store (words_of C H) found.store) =
      edit-effect C.layout (words_of C H) (holder_of H) hart w found.store (edit C st.within H st.lawful st.pages hart w found is_page tt)
      in
      told hart w found is_page tt (Protect hart place page flags named) (λ x. refl) (protect_reach hart place page flags named)
      (protect_does C.layout place page found_leaf.q found_leaf.f flags found.store.word (words_of C H) (words_of C (due_turn C H (Protect hart place page flags named) ∷ H)) found_leaf.then_
      (subst (λ (x : Tables). ChangesFlags C.layout place page flags (words_of C H) x) (sym new) effect)) result some none h p

  -- no other event makes anything stale
  pub other_told : (event : Event) → is_edit event (due C H event) ≡ false → HasPage event → (h : ℕ) (p : Mapping)
      → BecomesStale C (due_turn C H event) H h p ↔ (IsMappedBy (entries_of C (due_turn C H event ∷ H) h) p × ⊥)
  other_told event plain has h p = (λ b. absurd (nothing_becomes C st.within (due_turn C H event) H (st.lawful, refl) (st.pages, has) plain h p b), λ held. absurd held.1)

pub plain_event : (event : Event) (r : Reply) → ((hart : ℕ) (place : Place) (page : Span) (named : ℕ) → event ≡ Unmap hart place page named → ⊥)
    → ((hart : ℕ) (place : Place) (page : Span) (flags : PteFlags) (named : ℕ) → event ≡ Protect hart place page flags named → ⊥) → is_edit event r ≡ false
plain_event (Unmap hart place page named) r not_unmap not_protect = absurd (not_unmap hart place page named refl)
plain_event (Protect hart place page flags named) r not_unmap not_protect = absurd (not_protect hart place page flags named refl)
plain_event _ r not_unmap not_protect = refl
