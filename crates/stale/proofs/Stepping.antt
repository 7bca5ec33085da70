-- What one step reports is what it makes stale and what it uses.
use Rattle.std.proofs.Common.{◌≡◌, ℕ, ◌<◌, Bool, true, false, nat_le, ◌*◌, Ok, List, ◌∷◌, length, Option, Some, None, slice_get, refl, ap, sym, ◌∙◌, subst, ◌⊎◌, inl, inr, arith}
use Rattle.std.specs.Prelude.{◌↔◌, Contains, IfSome}
use Rattle.std.proofs.lemmas.Bool.{cases_Bool, cases_lt, false≢true}
use Rattle.std.proofs.lemmas.Option.{slice_get-get_or, slice_get_within, get_or_from_slice_get}
use Rattle.std.proofs.lemmas.List.Elements.{All-contains}
use Rattle.pte.specs.Address.{IsPage, Overlap, level_of}
use Rattle.pte.proofs.Schemes.{page_in_widest}
use Rattle.walk.specs.Maps.{page_number, LiesIn}
use Rattle.tlb.specs.declared.store.Entry.{Entry}
use Rattle.tlb.specs.Mappings.{Mapping, IsMappingOf, IsMappedBy}
use Rattle.tlb.specs.Answer.{entry_of}
use Rattle.tlb.proofs.Translating.{held_by}
use Rattle.tlb.proofs.Walked.{entry_matches}
use Rattle.pte.specs.Address.{bytes_of}
use Rattle.pte.specs.declared.address.PageSize.TheVariants.{Kib4}
use Rattle.spaces.specs.Layout.{root_ppn}
use Rattle.history.specs.Setup.{Setup}
use Rattle.history.specs.declared.event.Event.{Event}
use Rattle.history.specs.declared.event.Event.TheVariants.{Unmap, Protect}
use Rattle.history.specs.declared.reply.Reply.{Reply}
use Rattle.history.specs.declared.reply.Reply.TheVariants as reply
use Rattle.history.specs.Turns.{History, is_opened, opened_ticket}
use Rattle.history.specs.Tables.{words_of}
use Rattle.history.specs.Spaces.{asid_of}
use Rattle.history.specs.Harts.{entries_of, space_of}
use Rattle.history.specs.Due.{due, Lawful}
use Rattle.history.specs.Occurrences.{Sometime}
use Rattle.history.specs.Runs.{with_turn}
use Rattle.history.proofs.Walks.{walk_outcome}
use Rattle.laws.specs.Fills.{Fills}
use Rattle.laws.specs.Kept.{HasPage}
use Rattle.laws.proofs.Asids.{nobody_holds}
use Rattle.laws.proofs.Filling.{entries_filled}
use Rattle.laws.proofs.Fresh.{numbered}
use Rattle.laws.proofs.Holding.{lawful_before}
use Rattle.stepcore.specs.State.{State, hart_at}
use Rattle.stepcore.specs.Stands.{Stands}
use Rattle.stale.specs.declared.changes.Change.{Change}
use Rattle.stale.specs.declared.hits.StaleUse.{StaleUse}
use Rattle.stale.specs.declared.items.StaleAt.{StaleAt}
use Rattle.stale.specs.declared.items.StaleItem.{StaleItem}
use Rattle.stale.specs.declared.items.StaleItem.TheVariants.{Used}
use Rattle.stale.specs.declared.report.Opening.{Opening}
use Rattle.stale.specs.Leaves.{smaller, IsChanged, IsHeld, IsOfLeaf}
use Rattle.stale.specs.Mapped.{mapping_of}
use Rattle.stale.specs.Stale.{BecomesStale}
use Rattle.stale.specs.Told.{became_of, is_edit, EntryBecomesStale, IsAmong, IsOfChange, IsOfEntry, IsOfHarts, IsOfUse, TellsBecoming, TellsEntry, TellsOrder, TellsUse}
use Rattle.stale.specs.Uses.{Tells}
use Rattle.stale.specs.UseRuns.{due_turn}
use Rattle.stale.proofs.NoEdit.{nothing_becomes}
use Rattle.stale.proofs.Overlaps.{first_lies, frames_agree, frames_first, is_small, lies_within, smaller_within}

-- what is held was found by a walk, so its page is one
pub held_pages : (C : Setup) (H : History) (h : ℕ) (e : Entry) → Lawful C H → Contains (entries_of C H h) e → IsPage e.page
held_pages C H h e l at =
    let s = All-contains (λ (x : Entry). Sometime (Fills C h x) H) (entries_of C H h) e (entries_filled C H h) at in
    let before : Lawful C (s.turn ∷ s.earlier) = lawful_before C s.later (s.turn ∷ s.earlier) (subst (Lawful C) s.split l) in
    let f = s.so in
    let out = (walk_outcome C s.earlier h (space_of s.earlier h) f.walk (Ok f.found) before.0 f.walking).0 (sym f.finds) in
    subst (λ (x : Entry). IsPage x.page) (sym f.is)
    (page_in_widest C.layout.scheme (entry_of (asid_of C s.earlier (space_of s.earlier h)) f.found).page
    (entry_matches C.layout.scheme (words_of C s.earlier) (root_ppn C.layout (space_of s.earlier h)) f.walk.va f.walk.access f.walk.ctx f.found (asid_of C s.earlier (space_of s.earlier h)) out).0)

-- an item of the step of which T holds
abbrev pub One : (StaleAt → Type 0) → ℕ → (StaleItem → Type 0) → Type 0
One A n T = (item : StaleAt) × A item × (item.step ≡ n) × T item.item

pub among : (old mid new : List StaleAt) (A B : StaleAt → Type 0) → ((item : StaleAt) → Contains mid item ↔ (Contains old item ⊎ A item)) → ((item : StaleAt) → Contains new item ↔ (Contains mid item ⊎ B item))
    → (n : ℕ) (T : StaleItem → Type 0) → IsAmong new n T ↔ (IsAmong old n T ⊎ (One A n T ⊎ One B n T))
among old mid new A B first second n T = (
  λ t. elim ((second t.told).0 t.among) [
    | inr b ↦ inr (inr (t.told, b, t.step, t.tells))
    | inl m ↦ elim ((first t.told).0 m) [
      | inl o ↦ inl (record { told = t.told; among = o; step = t.step; tells = t.tells })
      | inr a ↦ inr (inl (t.told, a, t.step, t.tells))
    ]
  ],
  λ cases. elim cases [
    | inl t ↦ record { told = t.told; among = (second t.told).1 (inl ((first t.told).1 (inl t.among))); step = t.step; tells = t.tells }
    | inr more ↦ elim more [
      | inl a ↦ record { told = a.0; among = (second a.0).1 (inl ((first a.0).1 (inr a.1))); step = a.2; tells = a.3 }
      | inr b ↦ record { told = b.0; among = (second b.0).1 (inr b.1); step = b.2; tells = b.3 }
    ]
  ],
)

-- ---- uses

pub use_steps : (used : Option StaleUse) (step n h : ℕ) (m : Mapping) → One (IsOfUse used step) n (λ item. TellsUse item h m) ↔ ((n ≡ step) × Tells used h m)
use_steps None step n h m = (λ one. absurd one.1, λ t. absurd t.1)
use_steps (Some use_) step n h m = (
  λ one. (sym one.2 ∙ ap (λ (x : StaleAt). x.step) one.1, subst (λ (x : StaleAt). TellsUse x.item h m) one.1 one.3),
  λ t. (record { step = step; item = Used use_ }, refl, sym t.0, t.1),
)

pub use_tells_no_change : (used : Option StaleUse) (step n h : ℕ) (m : Mapping) → One (IsOfUse used step) n (λ item. TellsBecoming item h m) → ⊥
use_tells_no_change None step n h m one = one.1
use_tells_no_change (Some use_) step n h m one = subst (λ (x : StaleAt). TellsBecoming x.item h m) one.1 one.3

pub use_tells_no_entry : (used : Option StaleUse) (step n h : ℕ) (e : Entry) → One (IsOfUse used step) n (λ item. TellsEntry item h e) → ⊥
use_tells_no_entry None step n h e one = one.1
use_tells_no_entry (Some use_) step n h e one = subst (λ (x : StaleAt). TellsEntry x.item h e) one.1 one.3

pub use_tells_no_order : (used : Option StaleUse) (step n home ticket : ℕ) → One (IsOfUse used step) n (λ item. TellsOrder item home ticket) → ⊥
use_tells_no_order None step n home ticket one = one.1
use_tells_no_order (Some use_) step n home ticket one = subst (λ (x : StaleAt). TellsOrder x.item home ticket) one.1 one.3

-- ---- entries

pub some_entry : (opening : Opening) (hart : ℕ) (item : StaleAt) (o : Option Entry) → IsOfEntry opening hart o item → (e : Entry) × (o ≡ Some e) × IsHeld opening.change e × (item ≡ became_of opening hart e)
some_entry opening hart item None of = absurd of
some_entry opening hart item (Some e) of = (e, refl, of.held, of.is)

contained : (xs : List Entry) (age : ℕ) (e : Entry) → slice_get xs age ≡ Some e → Contains xs e
contained xs age e is = (age, slice_get_within xs age e is, get_or_from_slice_get xs age e e is)

aged : (xs : List Entry) (e : Entry) → Contains xs e → (age : ℕ) × (age < length xs) × (slice_get xs age ≡ Some e)
aged xs e at = (at.0, at.1, slice_get-get_or xs at.0 e at.1 ∙ ap Some at.2)

-- the mappings of an entry that holds the leaf, in the smaller page, are those of the leaf
module _ (c : Change) (e : Entry) (m : Mapping) (is_e : IsPage e.page) (is_c : IsPage c.page) where
  pub of_leaf : IsHeld c e → IsMappingOf e m → LiesIn (smaller e.page c.page) m.page → IsOfLeaf c m
  of_leaf held of at = record {
    asid = of.asid ∙ held.reach;
    page = lies_within (smaller e.page c.page) c.page m.page (smaller_within e.page c.page is_e is_c held.overlap).1 at;
    ppn = of.ppn ∙ sym (frames_agree e.page c.page is_e is_c held.overlap e.ppn c.ppn m.page at held.frame);
    flags = of.flags ∙ held.flags;
  }

  in_smaller : LiesIn e.page m.page → LiesIn c.page m.page → LiesIn (smaller e.page c.page) m.page
  in_smaller in_e in_c = elim (cases_Bool (nat_le (level_of e.page.size) (level_of c.page.size))) [ inl t ↦ rw t in_e | inr f ↦ rw f in_c ]

  pub held_leaf : IsMappingOf e m → IsOfLeaf c m → IsHeld c e × LiesIn (smaller e.page c.page) m.page
  held_leaf of is =
      let va = m.page * bytes_of Kib4 in
      let over : Overlap e.page c.page = (va, held_by e.page va (subst (LiesIn e.page) (sym (numbered m.page)) of.page), held_by c.page va (subst (LiesIn c.page) (sym (numbered m.page)) is.page)) in
      let at = in_smaller of.page is.page in (
        record {
          reach = sym of.asid ∙ is.asid;
          flags = sym of.flags ∙ is.flags;
          overlap = over;
          frame = frames_first e.page c.page is_e is_c over e.ppn c.ppn m.page at (sym is.ppn ∙ of.ppn);
        },
        at,
      )

-- an entry that holds the leaf has one of its mappings
some_mapping : (c : Change) (e : Entry) → IsPage e.page → IsPage c.page → IsHeld c e → (m : Mapping) × IsMappingOf e m × IsOfLeaf c m
some_mapping c e is_e is_c held =
    let small = smaller e.page c.page in
    let first : LiesIn small (page_number small.base) = first_lies small (is_small e.page c.page is_e is_c held.overlap e.ppn c.ppn) in
    let one = mapping_of e (page_number small.base) in
    let of : IsMappingOf e one = record {
      asid = refl;
      page = lies_within small e.page (page_number small.base) (smaller_within e.page c.page is_e is_c held.overlap).0 first;
      ppn = refl;
      flags = refl;
    } in
    (one, of, of_leaf c e one is_e is_c held of first)

-- ---- changes

module _ (C : Setup) (H : History) (event : Event) (step : ℕ) (now : State) (st : Stands C now (with_turn event (due C H event) H)) where
  hart_entries : (h : ℕ) → h < C.harts → (hart_at now h).entries ≡ entries_of C (with_turn event (due C H event) H) h
  hart_entries h below = (st.harts h below).entries

  harts_same : length now.harts ≡ C.harts
  harts_same = ap (λ (D : Setup). D.harts) st.setup

  there : (h : ℕ) (e : Entry) → Contains (entries_of C (with_turn event (due C H event) H) h) e → h < C.harts
  there h e at = elim (cases_lt h C.harts) [
    | inl below ↦ below
    | inr beyond ↦ absurd (All-contains (λ (x : Entry). ⊥) (entries_of C (with_turn event (due C H event) H) h) e (nobody_holds C st.within (with_turn event (due C H event) H) h st.lawful beyond) at)
  ]

  module _ (change : Option Change) (is_page : IfSome change (λ c. IsPage c.page)) (home : ℕ)
      (changed : (t h : ℕ) (m : Mapping) → opened_ticket (due C H event) ≡ Some t → BecomesStale C (due_turn C H event) H h m ↔ (IsMappedBy (entries_of C (due_turn C H event ∷ H) h) m × IsChanged change m)) where
    told_by : (c : Change) (t n h : ℕ) (m : Mapping) → IsPage c.page
        → One (IsOfHarts now (record { step = step; home = home; ticket = t; change = c }) (length now.harts)) n (λ item. TellsBecoming item h m)
        → (n ≡ step) × IsMappedBy (entries_of C (with_turn event (due C H event) H) h) m × IsOfLeaf c m
    told_by c t n h m is_c one =
        let opening : Opening = record { step = step; home = home; ticket = t; change = c } in
        let hart = one.1.0 in
        let some = some_entry opening hart one.0 (slice_get (hart_at now hart).entries one.1.2.0) one.1.2.2 in
        let e = some.0 in
        let tells : (h ≡ hart) × IsMappingOf e m × LiesIn (smaller e.page c.page) m.page = subst (λ (x : StaleAt). TellsBecoming x.item h m) some.3 one.3 in
        let below : hart < C.harts = (let b = one.1.1 in let s = harts_same in omega (arith, b, s)) in
        let at : Contains (entries_of C (with_turn event (due C H event) H) hart) e =
        subst (λ (es : List Entry). Contains es e) (hart_entries hart below) (contained (hart_at now hart).entries one.1.2.0 e some.1)
        in
        let is_e = held_pages C (with_turn event (due C H event) H) hart e st.lawful at in (
          sym one.2 ∙ ap (λ (x : StaleAt). x.step) some.3,
          subst (λ k. IsMappedBy (entries_of C (with_turn event (due C H event) H) k) m) (sym tells.0) (e, at, tells.1),
          of_leaf c e m is_e is_c some.2 tells.1 tells.2,
        )

    tells_it : (c : Change) (t h : ℕ) (m : Mapping) → IsPage c.page → IsMappedBy (entries_of C (with_turn event (due C H event) H) h) m → IsOfLeaf c m
        → One (IsOfHarts now (record { step = step; home = home; ticket = t; change = c }) (length now.harts)) step (λ item. TellsBecoming item h m)
    tells_it c t h m is_c by is =
        let opening : Opening = record { step = step; home = home; ticket = t; change = c } in
        let e = by.0 in
        let below = there h e by.1 in
        let is_e = held_pages C (with_turn event (due C H event) H) h e st.lawful by.1 in
        let held = held_leaf c e m is_e is_c by.2 is in
        let at = aged (hart_at now h).entries e (subst (λ (es : List Entry). Contains es e) (sym (hart_entries h below)) by.1) in
        let less : h < length now.harts = (let s = harts_same in omega (arith, below, s)) in (
          became_of opening h e,
          (h, less, (at.0, at.1, subst (λ (o : Option Entry). IsOfEntry opening h o (became_of opening h e)) (sym at.2) (record { held = held.0; is = refl }))),
          refl,
          (refl, by.2, held.1),
        )

    told_entry : (c : Change) (t n h : ℕ) (e : Entry) → One (IsOfHarts now (record { step = step; home = home; ticket = t; change = c }) (length now.harts)) n (λ item. TellsEntry item h e)
        → (n ≡ step) × Contains (entries_of C (with_turn event (due C H event) H) h) e × IsHeld c e
    told_entry c t n h e one =
        let opening : Opening = record { step = step; home = home; ticket = t; change = c } in
        let hart = one.1.0 in
        let some = some_entry opening hart one.0 (slice_get (hart_at now hart).entries one.1.2.0) one.1.2.2 in
        let tells : (h ≡ hart) × (e ≡ some.0) = subst (λ (x : StaleAt). TellsEntry x.item h e) some.3 one.3 in
        let below : hart < C.harts = (let b = one.1.1 in let s = harts_same in omega (arith, b, s)) in
        let at : Contains (entries_of C (with_turn event (due C H event) H) hart) some.0 =
        subst (λ (es : List Entry). Contains es some.0) (hart_entries hart below) (contained (hart_at now hart).entries one.1.2.0 some.0 some.1)
        in (
          sym one.2 ∙ ap (λ (x : StaleAt). x.step) some.3,
          subst (λ k. Contains (entries_of C (with_turn event (due C H event) H) k) e) (sym tells.0)
              (subst (λ (x : Entry). Contains (entries_of C (with_turn event (due C H event) H) hart) x) (sym tells.1) at),
          subst (λ (x : Entry). IsHeld c x) (sym tells.1) some.2,
        )

    tells_entry : (c : Change) (t h : ℕ) (e : Entry) → Contains (entries_of C (with_turn event (due C H event) H) h) e → IsHeld c e
        → One (IsOfHarts now (record { step = step; home = home; ticket = t; change = c }) (length now.harts)) step (λ item. TellsEntry item h e)
    tells_entry c t h e among held =
        let opening : Opening = record { step = step; home = home; ticket = t; change = c } in
        let below = there h e among in
        let at = aged (hart_at now h).entries e (subst (λ (es : List Entry). Contains es e) (sym (hart_entries h below)) among) in
        let less : h < length now.harts = (let s = harts_same in omega (arith, below, s)) in (
          became_of opening h e,
          (h, less, (at.0, at.1, subst (λ (o : Option Entry). IsOfEntry opening h o (became_of opening h e)) (sym at.2) (record { held = held; is = refl }))),
          refl,
          (refl, refl),
        )

    pub entry_by : (o : Option Change) (ticket : Option ℕ) → o ≡ change → ticket ≡ opened_ticket (due C H event) → (is_edit event (due C H event) ≡ true → (t : ℕ) × (ticket ≡ Some t)) → HasPage event → (n h : ℕ) (e : Entry)
        → One (IsOfChange now o home step ticket) n (λ item. TellsEntry item h e) ↔ ((n ≡ step) × EntryBecomesStale C (due_turn C H event) H h e)
    entry_by o None same opened edit has n h e = (
      λ one. absurd (never o one.0 one.1),
      λ b. absurd (nothing_becomes C st.within (due_turn C H event) H st.lawful st.pages (plain (is_edit event (due C H event)) refl) h b.1.mapping b.1.becomes),
    )
      where
        never : (o : Option Change) (item : StaleAt) → IsOfChange now o home step None item → ⊥
        never None item of = of
        never (Some c) item of = of

        plain : (v : Bool) → is_edit event (due C H event) ≡ v → is_edit event (due C H event) ≡ false
        plain true e = let t = edit e in absurd (cc (t.1))
        plain false e = e
    entry_by None (Some t) same opened edit has n h e = (
      λ one. absurd one.1,
      λ b. absurd (subst (λ (x : Option Change). IsChanged x b.1.mapping) (sym same) ((changed t h b.1.mapping (sym opened)).0 b.1.becomes).1),
    )
    entry_by (Some c) (Some t) same opened edit has n h e =
        let is_c : IsPage c.page = subst (λ (x : Option Change). IfSome x (λ y. IsPage y.page)) (sym same) is_page in (
          λ one. let by = told_entry c t n h e one in
              let m = some_mapping c e (held_pages C (with_turn event (due C H event) H) h e st.lawful by.1) is_c by.2 in
              (by.0, record { held = by.1; mapping = m.0; is = m.1; becomes = (changed t h m.0 (sym opened)).1 ((e, by.1, m.1), subst (λ (x : Option Change). IsChanged x m.0) same m.2) }),
          λ b. let both = (changed t h b.1.mapping (sym opened)).0 b.1.becomes in
              let leaf : IsOfLeaf c b.1.mapping = subst (λ (x : Option Change). IsChanged x b.1.mapping) (sym same) both.1 in
              let held = (held_leaf c e b.1.mapping (held_pages C (with_turn event (due C H event) H) h e st.lawful b.1.held) is_c b.1.is leaf).0 in
              subst (λ k. One (IsOfHarts now (record { step = step; home = home; ticket = t; change = c }) (length now.harts)) k (λ item. TellsEntry item h e)) (sym b.0)
              (tells_entry c t h e b.1.held held),
        )

    pub becoming_by : (o : Option Change) (ticket : Option ℕ) → o ≡ change → ticket ≡ opened_ticket (due C H event) → (is_edit event (due C H event) ≡ true → (t : ℕ) × (ticket ≡ Some t)) → HasPage event → (n h : ℕ) (m : Mapping)
        → One (IsOfChange now o home step ticket) n (λ item. TellsBecoming item h m) ↔ ((n ≡ step) × BecomesStale C (due_turn C H event) H h m)
    becoming_by o None same opened edit has n h m = (
      λ one. absurd (never o one.0 one.1),
      λ b. absurd (nothing_becomes C st.within (due_turn C H event) H st.lawful st.pages (plain (is_edit event (due C H event)) refl) h m b.1),
    )
      where
        never : (o : Option Change) (item : StaleAt) → IsOfChange now o home step None item → ⊥
        never None item of = of
        never (Some c) item of = of

        plain : (v : Bool) → is_edit event (due C H event) ≡ v → is_edit event (due C H event) ≡ false
        plain true e = let t = edit e in absurd (cc (t.1))
        plain false e = e
    becoming_by None (Some t) same opened edit has n h m = (
      λ one. absurd one.1,
      λ b. absurd (subst (λ (x : Option Change). IsChanged x m) (sym same) ((changed t h m (sym opened)).0 b.1).1),
    )
    becoming_by (Some c) (Some t) same opened edit has n h m =
        let is_c : IsPage c.page = subst (λ (x : Option Change). IfSome x (λ y. IsPage y.page)) (sym same) is_page in (
          λ one. let by = told_by c t n h m is_c one in (by.0, (changed t h m (sym opened)).1 (by.1, subst (λ (x : Option Change). IsChanged x m) same by.2)),
          λ b. let both = (changed t h m (sym opened)).0 b.1 in
              subst (λ k. One (IsOfHarts now (record { step = step; home = home; ticket = t; change = c }) (length now.harts)) k (λ item. TellsBecoming item h m)) (sym b.0)
              (tells_it c t h m is_c both.0 (subst (λ (x : Option Change). IsChanged x m) (sym same) both.1)),
        )

-- an item of a change is no use, and names its hart and its ticket
pub change_tells_no_use : (now : State) (o : Option Change) (home step : ℕ) (ticket : Option ℕ) (n h : ℕ) (m : Mapping) → One (IsOfChange now o home step ticket) n (λ item. TellsUse item h m) → ⊥
change_tells_no_use now None home step ticket n h m one = one.1
change_tells_no_use now (Some c) home step None n h m one = one.1
change_tells_no_use now (Some c) home step (Some t) n h m one =
    let hart = one.1.0 in
    let some = some_entry (record { step = step; home = home; ticket = t; change = c }) hart one.0 (slice_get (hart_at now hart).entries one.1.2.0) one.1.2.2 in
    subst (λ (x : StaleAt). TellsUse x.item h m) some.3 one.3

pub change_tells_order : (now : State) (o : Option Change) (home step : ℕ) (ticket : Option ℕ) (n a t : ℕ) (P : Type 0) → IfSome o (λ _. P) → One (IsOfChange now o home step ticket) n (λ item. TellsOrder item a t)
    → (n ≡ step) × (a ≡ home) × (ticket ≡ Some t) × P
change_tells_order now None home step ticket n a t P p one = absurd one.1
change_tells_order now (Some c) home step None n a t P p one = absurd one.1
change_tells_order now (Some c) home step (Some number) n a t P p one =
    let hart = one.1.0 in
    let some = some_entry (record { step = step; home = home; ticket = number; change = c }) hart one.0 (slice_get (hart_at now hart).entries one.1.2.0) one.1.2.2 in
    let tells : (a ≡ home) × (t ≡ number) = subst (λ (x : StaleAt). TellsOrder x.item a t) some.3 one.3 in
    (sym one.2 ∙ ap (λ (x : StaleAt). x.step) some.3, tells.0, ap Some (sym tells.1), p)

-- an edit that opens an order gives its ticket
opened_some : (r : Reply) → is_opened r ≡ true → (t : ℕ) × (opened_ticket r ≡ Some t)
opened_some (reply.Opened t) e = (t, refl)
opened_some _ e = absurd (false≢true e)

pub edit_ticket : (event : Event) (r : Reply) → is_edit event r ≡ true → (t : ℕ) × (opened_ticket r ≡ Some t)
edit_ticket (Unmap hart place page named) r e = opened_some r e
edit_ticket (Protect hart place page flags named) r e = opened_some r e
edit_ticket _ r e = absurd (false≢true e)
