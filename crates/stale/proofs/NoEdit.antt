-- No turn but an unmapping or a change of flags makes a mapping stale.
use Rattle.std.proofs.Common.{◌≡◌, ℕ, ◌<◌, Bool, true, false, cond, ◌&&◌, eqb, ◌∷◌, length, Option, Some, None, refl, ap, sym, ◌∙◌, subst, ◌⊎◌, inl, inr, arith}
use Rattle.std.specs.Prelude.{is_none, Contains}
use Rattle.std.proofs.lemmas.Bool.{false≢true, and_from, eq-eqb}
use Rattle.std.proofs.lemmas.List.Elements.{All-contains, Contains-get_or}
use Rattle.pte.specs.declared.flags.PteFlags.{PteFlags}
use Rattle.walk.specs.Leads.{Tables}
use Rattle.walk.specs.Maps.{Maps}
use Rattle.spaces.specs.declared.places.Place.{Place}
use Rattle.spaces.specs.declared.places.Place.TheVariants.{Space, Kernel}
use Rattle.spaces.specs.Layout.{root_ppn}
use Rattle.spaces.specs.Edits.{is_kernel}
use Rattle.spaces.specs.Effects.{HangsBelow, IsOfUser}
use Rattle.spaces.proofs.EditLaws.{global-window}
use Rattle.spaces.proofs.Leaves.{member-of, maps-of}
use Rattle.tlb.specs.declared.store.Entry.{Entry}
use Rattle.tlb.specs.Mappings.{Mapping, IsMappingOf, IsMappedBy}
use Rattle.history.specs.Setup.{Setup}
use Rattle.history.specs.declared.event.Event.{Event}
use Rattle.history.specs.declared.event.Event.TheVariants.{Reclaim}
use Rattle.history.specs.declared.reply.Reply.{Reply}
use Rattle.history.specs.Turns.{Turn, History, is_ok}
use Rattle.history.specs.Tables.{words_of}
use Rattle.history.specs.Spaces.{Free, status_of, is_free, holder_of}
use Rattle.history.specs.Harts.{space_of, entries_of}
use Rattle.history.specs.Due.{Lawful}
use Rattle.history.specs.Staleness.{HasAsid, Reaches, IsMappedNow, IsOfUsedAsid}
use Rattle.laws.specs.Kept.{HavePages, IsSetup}
use Rattle.laws.specs.Fills.{Fills}
use Rattle.laws.proofs.Accepted.{turn_of}
use Rattle.laws.proofs.Asids.{asid_found, asids_differ, fill_hart, holds_used, kept_cases, live_hart}
use Rattle.laws.proofs.Causes.{space_there}
use Rattle.laws.proofs.Changing.{Changes, keeps, adds, removes, changes_flags, empties, changes}
use Rattle.laws.proofs.Filling.{entries_each}
use Rattle.laws.proofs.Fresh.{fill_maps}
use Rattle.laws.proofs.TreeKept.{tree}
use Rattle.stale.specs.Stale.{BecomesStale}
use Rattle.stale.specs.Told.{is_edit}

-- the ASID of an entry's mappings
own_asid : (global : Bool) (asid : ℕ) (of : Option ℕ) → of ≡ cond global None (Some asid) → ((global ≡ true) × (of ≡ None)) ⊎ ((global ≡ false) × (of ≡ Some asid))
own_asid true asid of e = inl (refl, e)
own_asid false asid of e = inr (refl, e)

hangs_any : (place : Place) (t : ℕ) → true ≡ is_kernel place → HangsBelow place t
hangs_any (Space s) t e = absurd (false≢true (sym e))
hangs_any Kernel t e = tt

module _ (C : Setup) (setup : IsSetup C) where
  pub in_layout : (s : ℕ) → s < length C.asids → s < length C.layout.homes
  in_layout s there = subst (λ n. s < n) setup.homes there

  pub reach_there : (H : History) (of : Option ℕ) (s : ℕ) → Reaches C H of s → s < length C.layout.homes
  reach_there H (Some asid) s reach = in_layout s reach.there
  reach_there H None s reach = in_layout s reach

  -- what is mapped global from one root is mapped from each
  pub shared : (H : History) → Lawful C H → HavePages H → (s t n ppn : ℕ) (flags : PteFlags) → s < length C.layout.homes → t < length C.layout.homes
      → Maps C.layout.scheme (words_of C H) (root_ppn C.layout s) n ppn flags true → Maps C.layout.scheme (words_of C H) (root_ppn C.layout t) n ppn flags true
  shared H l pages s t n ppn flags has_s has_t maps =
      let words_tree = tree C setup.layout setup.homes H l pages in
      let m = member-of C.layout setup.layout (words_of C H) (holder_of H) words_tree s n ppn flags true has_s maps in
      maps-of C.layout setup.layout (words_of C H) (holder_of H) words_tree t n ppn flags true has_t (record {
        va = m.va;
        level = m.level;
        table = m.table;
        entry = m.entry;
        leaf = m.leaf;
        canonical = m.canonical;
        of_page = m.of_page;
        on = record { place = m.on.place; hangs = hangs_any m.on.place t m.reach; has = m.on.has; within = m.on.within; low = m.on.low; on = m.on.on; word = m.on.word; kind = m.on.kind };
        aligned = m.aligned;
        place = m.place;
        reach = m.reach;
      })

  -- a mapping that is global lies above the user's half
  not_user : (H : History) → Lawful C H → HavePages H → (s space n ppn : ℕ) (flags : PteFlags) → s < length C.layout.homes
      → Maps C.layout.scheme (words_of C H) (root_ppn C.layout s) n ppn flags true → IsOfUser C.layout.scheme space s n → ⊥
  not_user H l pages s space n ppn flags has maps user =
      let high = (global-window C.layout (words_of C H) (holder_of H) setup.layout (tree C setup.layout setup.homes H l pages) s n ppn flags true has maps).0 refl in
      let low = user.1 in
      omega (arith, setup.layout.window, low, high)

  -- a space that is reclaimed by the turn has no ASID after it
  not_reclaimed : (H : History) (hart space : ℕ) (r : Reply) (s a : ℕ) → is_ok r ≡ true → space ≡ s → HasAsid C (turn_of (Reclaim hart space) r ∷ H) s a → ⊥
  not_reclaimed H hart space r s a ok same has =
      let now : is_free (cond (is_ok r && eqb space s) Free (status_of H s)) ≡ true = rw (and_from (is_ok r) (eqb space s) ok (eq-eqb space s same)) refl in
      false≢true (sym has.kept ∙ now)

  module _ (turn : Turn) (H : History) (l : Lawful C (turn ∷ H)) (pages : HavePages (turn ∷ H)) where
    -- what is mapped from a root through which a mapping is reached after the turn is so still
    kept_by : (event : Event) (r : Reply) (of : Option ℕ) (s n ppn : ℕ) (flags : PteFlags) (new : Tables) → Changes C H r (words_of C H) new event → is_edit event r ≡ false
        → Reaches C (turn_of event r ∷ H) of s → s < length C.layout.homes
        → Maps C.layout.scheme (words_of C H) (root_ppn C.layout s) n ppn flags (is_none of) → Maps C.layout.scheme new (root_ppn C.layout s) n ppn flags (is_none of)
    kept_by event r of s n ppn flags new (keeps _ same) plain reach there maps = (same s n ppn flags (is_none of) there).1 maps
    kept_by event r of s n ppn flags new (adds hart place page first f leaf e does) plain reach there maps = (does s n ppn flags (is_none of) there).1 (inl maps)
    kept_by event r of s n ppn flags new (removes hart place page named opened e does) plain reach there maps = absurd (false≢true (sym plain ∙ opened))
    kept_by event r of s n ppn flags new (changes_flags hart place page f named opened e does) plain reach there maps = absurd (false≢true (sym plain ∙ opened))
    kept_by event r (Some a) s n ppn flags new (empties hart space ok f does) plain reach there maps =
        (does s n ppn flags false there).1 (maps, λ user. not_reclaimed H hart space r s a ok (sym user.0) reach)
    kept_by event r None s n ppn flags new (empties hart space ok f does) plain reach there maps =
        (does s n ppn flags true there).1 (maps, not_user H l.0 pages.0 s space n ppn flags there maps)

    -- a space through which a mapping is reached after the turn was one before it, if there was any
    pub reached_before : (of : Option ℕ) (s t : ℕ) → Reaches C (turn ∷ H) of s → Reaches C H of t → Reaches C H of s
    reached_before None s t after before = after
    reached_before (Some a) s t after before =
        elim (kept_cases C turn.event turn.reply H s l.1 after.kept) [
          | inl kept ↦ record { there = after.there; kept = kept.kept; same = sym kept.same ∙ after.same }
          | inr made ↦ absurd (asid_found C H made.asid (length C.asids) t made.found.unused before.there before.kept (before.same ∙ sym after.same ∙ made.same))
        ]

    -- and there is one of each mapping that is held
    pub reached_after : (h : ℕ) (m : Mapping) → IsMappedBy (entries_of C (turn ∷ H) h) m → (t : ℕ) → Reaches C H m.asid t → (s : ℕ) × Reaches C (turn ∷ H) m.asid s
    reached_after h m held t before =
        elim (own_asid held.0.global held.0.asid m.asid held.2.asid) [
          | inl none ↦
              let there : t < length C.asids = subst (λ (o : Option ℕ). Reaches C H o t) none.1 before in
              (t, subst (λ (o : Option ℕ). Reaches C (turn ∷ H) o t) (sym none.1) there)
          | inr some ↦
              let used = All-contains (IsOfUsedAsid C (turn ∷ H)) (entries_of C (turn ∷ H) h) held.0 (holds_used C setup (turn ∷ H) h l pages) held.1 some.0 in
              (used.0, subst (λ (o : Option ℕ). Reaches C (turn ∷ H) o used.0) (sym some.1) used.1)
        ]

    -- each entry was held, or is filled by the turn
    pub held_or_filled : (h : ℕ) (e : Entry) → Contains (entries_of C (turn ∷ H) h) e → Contains (entries_of C H h) e ⊎ Fills C h e turn H
    held_or_filled h e held =
        All-contains (λ (x : Entry). Contains (entries_of C H h) x ⊎ Fills C h x turn H) (entries_of C (turn ∷ H) h) e
        (entries_each C turn.event turn.reply H h (λ (x : Entry). Contains (entries_of C H h) x ⊎ Fills C h x turn H)
        (λ i d within. inl (Contains-get_or (entries_of C H h) i d within)) (λ x f. inr f)) held

    module _ (plain : is_edit turn.event turn.reply ≡ false) where
      -- what is held after the turn and was mapped is mapped still
      pub stays : (h : ℕ) (m : Mapping) → IsMappedBy (entries_of C (turn ∷ H) h) m → IsMappedNow C H (words_of C H) m.asid m → IsMappedNow C (turn ∷ H) (words_of C (turn ∷ H)) m.asid m
      stays h m held now =
          let some = reached_after h m held now.some.0 now.some.1 in
          record {
            some = (some.0, some.1);
            each = λ s reach.
                let before = reached_before m.asid s now.some.0 reach now.some.1 in
                let there = reach_there (turn ∷ H) m.asid s reach in
                kept_by turn.event turn.reply m.asid s m.page m.ppn m.flags (words_of C (turn ∷ H)) (changes C setup H l.0 pages.0 turn.event turn.reply l.1 pages.1) plain reach there
                (now.each s before);
          }

      -- what a Load fills was mapped
      pub filled : (h : ℕ) (e : Entry) (m : Mapping) → Fills C h e turn H → IsMappingOf e m → IsMappedNow C H (words_of C H) m.asid m
      filled h e m f of =
          let space = space_of H h in
          let there = space_there C H h setup.asids l.0 in
          let has : HasAsid C H space e.asid = record {
            there = there;
            kept = ap is_free (live_hart C setup H h l.0 (fill_hart C setup turn H h e l.1 f));
            same = sym (ap (λ (x : Entry). x.asid) f.is);
          } in
          let maps = fill_maps C turn H h e m l.0 f of in
          elim (own_asid e.global e.asid m.asid of.asid) [
            | inl none ↦
                let global : Maps C.layout.scheme (words_of C H) (root_ppn C.layout space) m.page m.ppn m.flags true =
                subst (λ (g : Bool). Maps C.layout.scheme (words_of C H) (root_ppn C.layout space) m.page m.ppn m.flags g) none.0 maps in
                subst (λ (o : Option ℕ). IsMappedNow C H (words_of C H) o m) (sym none.1)
                (record {
                  some = (space, there);
                  each = λ s reach.
                      subst (λ (o : Option ℕ). Maps C.layout.scheme (words_of C H) (root_ppn C.layout s) m.page m.ppn m.flags (is_none o)) (sym none.1)
                      (shared H l.0 pages.0 space s m.page m.ppn m.flags (in_layout space there) (in_layout s reach) global);
                })
            | inr some ↦
                let own : Maps C.layout.scheme (words_of C H) (root_ppn C.layout space) m.page m.ppn m.flags false =
                subst (λ (g : Bool). Maps C.layout.scheme (words_of C H) (root_ppn C.layout space) m.page m.ppn m.flags g) some.0 maps in
                subst (λ (o : Option ℕ). IsMappedNow C H (words_of C H) o m) (sym some.1)
                (record {
                  some = (space, has);
                  each = λ s reach.
                      let reached : HasAsid C H s e.asid = reach in
                      let same : space ≡ s = asids_differ C setup H l.0 space s there reached.there has.kept reached.kept (has.same ∙ sym reached.same) in
                      subst (λ (o : Option ℕ). Maps C.layout.scheme (words_of C H) (root_ppn C.layout s) m.page m.ppn m.flags (is_none o)) (sym some.1)
                      (subst (λ (x : ℕ). Maps C.layout.scheme (words_of C H) x m.page m.ppn m.flags false) (ap (root_ppn C.layout) same) own);
                })
          ]

      pub nothing_becomes : (h : ℕ) (m : Mapping) → BecomesStale C turn H h m → ⊥
      nothing_becomes h m b =
          let held = b.after.held in
          elim (held_or_filled h held.0 held.1) [
            | inl old ↦ b.before (record { held = (held.0, old, held.2); unmapped = λ now. b.after.unmapped (stays h m held now) })
            | inr f ↦ b.after.unmapped (stays h m held (filled h held.0 m f held.2))
          ]
