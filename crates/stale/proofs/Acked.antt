-- A hart that has acknowledged an order holds no stale mapping of its page.
use Rattle.std.proofs.Common.{◌≡◌, ℕ, ◌*◌, Bool, true, false, cond, Option, Some, None, refl, ap, sym, ◌∙◌, subst, ◌⊎◌, inl, inr}
use Rattle.std.specs.Prelude.{is_none}
use Rattle.std.proofs.lemmas.List.Elements.{All-contains}
use Rattle.pte.specs.Address.{Span, bytes_of}
use Rattle.pte.specs.declared.address.PageSize.TheVariants.{Kib4}
use Rattle.walk.specs.Maps.{Maps, LiesIn}
use Rattle.spaces.specs.declared.places.Place.{Place}
use Rattle.spaces.specs.declared.places.Place.TheVariants.{Space, Kernel}
use Rattle.spaces.specs.Layout.{root_ppn}
use Rattle.tlb.specs.Mappings.{Mapping, IsMappedBy}
use Rattle.tlb.proofs.Translating.{held_by}
use Rattle.history.specs.Setup.{Setup}
use Rattle.history.specs.Turns.{History}
use Rattle.history.specs.Orders.{Cause, Unmapped}
use Rattle.history.specs.Tables.{words_of}
use Rattle.history.specs.Harts.{entries_of}
use Rattle.history.specs.Due.{Lawful}
use Rattle.history.specs.Staleness.{HasAnswered, HasAsid, is_mapped_anew, is_superseded, IsAsidOf, IsChange, IsForAsid, IsMappedNow, IsOfUsedAsid}
use Rattle.laws.specs.Kept.{HavePages, IsSetup}
use Rattle.laws.proofs.Asids.{holds_used}
use Rattle.laws.proofs.Causes.{IsAsked, IsAt, follows, follows_change}
use Rattle.laws.proofs.Clearing.{clear}
use Rattle.laws.proofs.Cohering.{coherent}
use Rattle.laws.proofs.Fresh.{numbered}
use Rattle.laws.proofs.MapsKept.{stays_mapped, stays_unmapped, user_plain, window_shared}
use Rattle.stale.specs.Stale.{Stale}

-- an address space of the page that the mapping is for
for_some : (of : Option ℕ) (m : Mapping) → IsForAsid of m → (asid : ℕ) × IsAsidOf of asid × ((m.asid ≡ None) ⊎ (m.asid ≡ Some asid))
for_some (Some a) m (inl none) = (a, refl, inl none)
for_some None m (inl none) = (0, tt, inl none)
for_some of m (inr some) = (some.0, some.2, inr some.1)

-- an entry whose mappings are for one ASID is not global and has it
one_asid : (global : Bool) (own asid : ℕ) → cond global None (Some own) ≡ Some asid → (global ≡ false) × (own ≡ asid)
one_asid true own asid e = absurd (cc)
one_asid false own asid e = (refl, cc)

module _ (C : Setup) (setup : IsSetup C) (H : History) (l : Lawful C H) (pages : HavePages H) where
  pub not_held : (k h : ℕ) (of : Option ℕ) (page : Span) (m : Mapping) → HasAnswered C H k h (Unmapped of page) → is_mapped_anew C H k ≡ false → IsForAsid of m → LiesIn page m.page
      → Stale C H h m → ⊥
  not_held k h of page m a fresh for lies s =
      let some = for_some of m for in
      let va = m.page * bytes_of Kib4 in
      clear C setup (stays_unmapped C setup) (user_plain C setup) H k h l pages of page a fresh some.0 va some.1
      (held_by page va (subst (LiesIn page) (sym (numbered m.page)) lies))
      (record { mapping = m; member = s.held; space = some.2; page = sym (numbered m.page) })

  -- what is mapped now for an address space of the page of an order is mapped now for its own
  own_now : (of : Option ℕ) (place : Place) (page : Span) (h : ℕ) (m : Mapping) → IsAt of place → IsAsked C place page → LiesIn page m.page → IsForAsid of m
      → IsMappedBy (entries_of C H h) m → IsMappedNow C H (words_of C H) of m → (own : Option ℕ) → m.asid ≡ own → IsMappedNow C H (words_of C H) own m
  own_now (Some a) place page h m at asked lies for by now (Some b) is =
      elim for [
        | inl none ↦ let bad : None ≡ Some b = sym none ∙ is in absurd (cc)
        | inr some ↦ subst (λ (o : Option ℕ). IsMappedNow C H (words_of C H) o m) (ap Some (sym some.2) ∙ sym some.1 ∙ is) now
      ]
  own_now (Some a) (Space u) page h m at asked lies for by now None is =
      let s = now.some.0 in
      let has : HasAsid C H s a = now.some.1 in
      let maps : Maps C.layout.scheme (words_of C H) (root_ppn C.layout s) m.page m.ppn m.flags (is_none m.asid) = now.each s has in
      absurd (user_plain C setup H l pages u s page m.page m.ppn m.flags asked.is_page asked.right_half has.there lies
      (subst (λ (g : Bool). Maps C.layout.scheme (words_of C H) (root_ppn C.layout s) m.page m.ppn m.flags g) (ap is_none is) maps))
  own_now (Some a) Kernel page h m at asked lies for by now None is = let bad : Some a ≡ None = at in absurd (cc)
  own_now None place page h m at asked lies for by now None is = now
  own_now None place page h m at asked lies for by now (Some b) is =
      let e = by.0 in
      let plain = one_asid e.global e.asid b (sym by.2.asid ∙ is) in
      let used = All-contains (IsOfUsedAsid C H) (entries_of C H h) e (holds_used C setup H h l pages) by.1 plain.0 in
      let has : HasAsid C H used.0 b = subst (λ (x : ℕ). HasAsid C H used.0 x) plain.1 used.1 in
      record {
        some = (used.0, has);
        each = λ s of. now.each s of.there;
      }

  pub not_changed : (k h : ℕ) (cause : Cause) (of : Option ℕ) (page : Span) (m : Mapping) → IsChange cause of page → HasAnswered C H k h cause → is_superseded C H k ≡ false
      → IsForAsid of m → LiesIn page m.page → Stale C H h m → ⊥
  not_changed k h cause of page m change a fresh for lies s =
      let now = coherent C setup (user_plain C setup) (stays_mapped C setup) (window_shared C setup) H k h l pages cause of page change a fresh m s.held for lies in
      let changed : IsChange a.order.cause of page = subst (λ (c : Cause). IsChange c of page) (sym a.same_cause) change in
      let asked = follows_change C a.order.cause of page a.order.what changed (follows C setup.homes H k a.order l pages a.is) in
      s.unmapped (own_now of asked.place page h m asked.at asked.asked lies for s.held now m.asid refl)
