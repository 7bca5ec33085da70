-- Which mappings of an entry in a page are stale, at a machine that stands at a history.
use Rattle.std.proofs.Common.{◌≡◌, ℕ, ◌<◌, false, List, ◌∷◌, length, refl, ap, sym, subst, inl, inr}
use Rattle.std.specs.Prelude.{Contains}
use Rattle.std.proofs.lemmas.Bool.{cases_lt}
use Rattle.std.proofs.lemmas.List.Elements.{All-contains}
use Rattle.pte.specs.Address.{Span}
use Rattle.walk.specs.Maps.{LiesIn}
use Rattle.tlb.specs.declared.store.Entry.{Entry}
use Rattle.tlb.specs.Mappings.{Mapping, IsMappingOf}
use Rattle.history.specs.Setup.{Setup}
use Rattle.history.specs.declared.event.Event.{Event}
use Rattle.history.specs.Turns.{Turn, History}
use Rattle.history.specs.Due.{Lawful}
use Rattle.history.specs.Spaces.{asid_of}
use Rattle.history.specs.Harts.{entries_of, space_of}
use Rattle.laws.specs.Kept.{HavePages, IsSetup}
use Rattle.tlb.specs.Entries.{is_match}
use Rattle.tlb.proofs.Translating.{find-Some}
use Rattle.history.specs.Tables.{words_of}
use Rattle.history.specs.Staleness.{IsMappedNow}
use Rattle.laws.proofs.Asids.{nobody_holds}
use Rattle.stepcore.specs.State.{State, hart_at}
use Rattle.stepcore.specs.Stands.{Stands}
use Rattle.stale.specs.Lasting.{StaleIn}
use Rattle.stale.specs.Mapped.{mapping_of, IsMappedIn, IsMappedSomewhere}
use Rattle.stale.specs.Stale.{BecomesStale, UsesStale}
use Rattle.stale.specs.Told.{is_edit}
use Rattle.stale.proofs.NoEdit.{filled, held_or_filled, stays}
use Rattle.stale.proofs.Bridge.{mapped_now}
use Rattle.stale.proofs.Everywhere.{everywhere}
use Rattle.stale.proofs.Hitting.{mapping_is}
use Rattle.stale.proofs.Passing.{Passes, held_passes}

module _ (C : Setup) (m : State) (H : History) (st : Stands C m H) where
  harts_are : length m.harts ≡ C.harts
  harts_are = ap (λ (D : Setup). D.harts) st.setup

  module _ (hart : ℕ) (e : Entry) where
    pub held_there : hart < length m.harts → Contains (hart_at m hart).entries e → Contains (entries_of C H hart) e
    held_there below held = subst (λ (es : List Entry). Contains es e) (st.harts hart (subst (λ n. hart < n) harts_are below)).entries held

    pub held_here : Contains (entries_of C H hart) e → (hart < length m.harts) × Contains (hart_at m hart).entries e
    held_here held = elim (cases_lt hart C.harts) [
      | inl below ↦ (subst (λ n. hart < n) (sym harts_are) below, subst (λ (es : List Entry). Contains es e) (sym (st.harts hart below).entries) held)
      | inr beyond ↦ absurd (All-contains (λ x. ⊥) (entries_of C H hart) e (nobody_holds C st.within H hart st.lawful beyond) held)
    ]

    pub passes : Contains (entries_of C H hart) e → Passes e
    passes held = All-contains Passes (entries_of C H hart) e (held_passes C H hart) held

    module _ (page : Span) where
      pub stale_in : (n : ℕ) → Contains (entries_of C H hart) e → LiesIn page n → LiesIn e.page n → (IsMappedIn m (mapping_of e n) → ⊥) → StaleIn C H hart e page (mapping_of e n)
      stale_in n held in_page own unmapped =
          let is : IsMappingOf e (mapping_of e n) = record { asid = refl; page = own; ppn = refl; flags = refl } in
          record {
            entry = held;
            is = is;
            in_page = in_page;
            stale = record { held = (e, held, is); unmapped = λ now. unmapped ((mapped_now C m H st (mapping_of e n)).1 now) };
          }

      pub none_stale : ((n : ℕ) → LiesIn page n → LiesIn e.page n → IsMappedIn m (mapping_of e n)) → (p : Mapping) → StaleIn C H hart e page p → ⊥
      none_stale mapped p s =
          let same : p ≡ mapping_of e p.page = mapping_is e p.page p s.is refl in
          let all = (mapped_now C m H st (mapping_of e p.page)).0 (mapped p.page s.in_page s.is.page) in
          s.stale.unmapped (subst (λ (x : Mapping). IsMappedNow C H (words_of C H) x.asid x) (sym same) all)

      pub not_stale : (n : ℕ) → IsMappedSomewhere m (mapping_of e n) → StaleIn C H hart e page (mapping_of e n) → ⊥
      not_stale n one s = s.stale.unmapped ((mapped_now C m H st (mapping_of e n)).0 (everywhere C m H st (mapping_of e n) one))

-- what an entry holds stale after a turn, and did not before
module _ (C : Setup) (setup : IsSetup C) (turn : Turn) (H : History) (l : Lawful C (turn ∷ H)) (pages : HavePages (turn ∷ H)) where
  pub begins : (h : ℕ) (e : Entry) (page : Span) (p : Mapping) → StaleIn C (turn ∷ H) h e page p → (StaleIn C H h e page p → ⊥) → BecomesStale C turn H h p
  begins h e page p s fresh = elim (held_or_filled C setup turn H l pages h e s.entry) [
    | inl old ↦ record {
      after = s.stale;
      before = λ was. fresh (record { entry = old; is = s.is; in_page = s.in_page; stale = record { held = (e, old, s.is); unmapped = was.unmapped } });
    }
    | inr f ↦
        let plain : is_edit turn.event turn.reply ≡ false = ap (λ (x : Event). is_edit x turn.reply) f.event in
        absurd (s.stale.unmapped (stays C setup turn H l pages plain h p (e, s.entry, s.is) (filled C setup turn H l pages plain h e p f s.is)))
  ]

-- what is used is what the entry that answers holds
pub used_in : (C : Setup) (turn : Turn) (H : History) (h : ℕ) (page : Span) (p : Mapping) → UsesStale C turn H h p → LiesIn page p.page → (e : Entry) × StaleIn C H h e page p
used_in C turn H h page p u lies =
    let use_ = u.uses in
    let found = find-Some (is_match (asid_of C H (space_of H h)) use_.va) (entries_of C H h) use_.entry use_.first in
    (use_.entry, record { entry = found.0; is = use_.is; in_page = lies; stale = u.stale })
