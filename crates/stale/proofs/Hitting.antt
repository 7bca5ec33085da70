-- What a hit says of the history before it, and the mapping that it uses.
use Rattle.std.proofs.Common.{◌≡◌, ℕ, ◌+◌, ◌%◌, ◌<◌, true, cond, not, length, Option, Some, None, List, refl, ap, sym, ◌∙◌, subst}
use Rattle.std.specs.Prelude.{nat_lt, ◌↔◌}
use Rattle.std.proofs.lemmas.Bool.{and_parts, false≢true, not-false, ltb-true}
use Rattle.pte.specs.declared.permission.Access.{Access}
use Rattle.pte.specs.declared.permission.Ctx.{Ctx}
use Rattle.pte.specs.declared.flags.PteFlags.{PteFlags}
use Rattle.pte.specs.Address.{IsCanonical, IsPage, is_canonical, pages_of}
use Rattle.pte.proofs.Schemes.{is_canonical-IsCanonical}
use Rattle.spaces.specs.Layout.{Layout}
use Rattle.stepcore.specs.State.{State, hart_at}
use Rattle.stepcore.specs.Answers.{asid_of_hart}
use Rattle.stepcore.specs.Stands.{Stands}
use Rattle.stepcore.proofs.HartReplies.{asid_same, layout_same}
use Rattle.walk.specs.declared.found_or_trap.Why.{Why}
use Rattle.walk.specs.declared.found_or_trap.Why.TheVariants.{NotCanonical}
use Rattle.walk.specs.Answer.{flags_fault, page_trap}
use Rattle.walk.specs.Maps.{page_number}
use Rattle.tlb.specs.declared.store.Entry.{Entry}
use Rattle.tlb.specs.Answer.{address_of, unless}
use Rattle.tlb.specs.Entries.{first_match, holds, is_match}
use Rattle.tlb.specs.Mappings.{Mapping, IsMappingOf}
use Rattle.tlb.proofs.Overlapping.{holds-Holds}
use Rattle.tlb.proofs.Translating.{find-Some, lies_in}
use Rattle.history.specs.Setup.{Setup, is_hart}
use Rattle.history.specs.declared.event.Event.{Event}
use Rattle.history.specs.declared.event.Event.TheVariants.{Begin}
use Rattle.history.specs.declared.reply.Reply.{Reply}
use Rattle.history.specs.declared.reply.Reply.TheVariants as reply
use Rattle.history.specs.declared.refusal.Refusal.TheVariants.{NoHart, Walking, Serving}
use Rattle.history.specs.Turns.{History}
use Rattle.history.specs.Spaces.{asid_of}
use Rattle.history.specs.Harts.{entries_of, space_of}
use Rattle.history.specs.Due.{access_reply, due, match_reply}
use Rattle.history.specs.Tables.{words_of}
use Rattle.history.specs.Staleness.{IsMappedNow, Reaches}
use Rattle.history.specs.Runs.{with_turn}
use Rattle.laws.proofs.Accepted.{passed, is_accepted}
use Rattle.laws.proofs.Tools.{by_test}
use Rattle.stale.specs.Mapped.{mapping_of, reach_of}
use Rattle.stale.specs.Stale.{is_hit, Uses, UsesStale}

hit_accepted : (r : Reply) → is_hit r ≡ true → is_accepted r ≡ true
hit_accepted (reply.Hit pa) e = refl
hit_accepted (reply.Refused refusal) e = absurd (false≢true e)
hit_accepted _ e = refl

passes_of : (w : Option Why) (access : Access) (pa : ℕ) (r : Reply) → access_reply (unless w access pa) ≡ r → is_hit r ≡ true → w ≡ None
passes_of None access pa r e hit = refl
passes_of (Some why) access pa r e hit = absurd (false≢true (ap is_hit e ∙ hit))

matched : (va : ℕ) (access : Access) (ctx : Ctx) (o : Option Entry) (r : Reply) → match_reply va access ctx o ≡ r → is_hit r ≡ true
    → (entry : Entry) × (o ≡ Some entry) × (flags_fault access ctx entry.flags ≡ None)
matched va access ctx None r e hit = absurd (false≢true (ap is_hit e ∙ hit))
matched va access ctx (Some entry) r e hit = (entry, refl, passes_of (flags_fault access ctx entry.flags) access (address_of entry va) r e hit)

-- the hart exists, the address is canonical, and an entry matches that answers the access
pub record HitBy (C : Setup) (H : History) (hart va : ℕ) (access : Access) (ctx : Ctx) : Type 0 where
  pub below : hart < C.harts
  pub canonical : is_canonical C.layout.scheme va ≡ true
  pub entry : Entry
  pub first : first_match (entries_of C H hart) (asid_of C H (space_of H hart)) va ≡ Some entry
  pub passes : flags_fault access ctx entry.flags ≡ None

pub hit_by : (C : Setup) (H : History) (hart va : ℕ) (access : Access) (ctx : Ctx) (r : Reply) → r ≡ due C H (Begin hart va access ctx) → is_hit r ≡ true → HitBy C H hart va access ctx
hit_by C H hart va access ctx r d hit =
    let a = hit_accepted r hit in
    let p = passed (not (is_hart C hart)) NoHart _ r (sym d) a in
    let q = passed _ Walking _ r p.1 a in
    let s = passed _ Serving _ r q.1 a in
    let o = first_match (entries_of C H hart) (asid_of C H (space_of H hart)) va in
    by_test (λ v. cond v (match_reply va access ctx o) (reply.Trap (page_trap access NotCanonical)) ≡ r → HitBy C H hart va access ctx) (is_canonical C.layout.scheme va)
    (λ t e. let m = matched va access ctx o r e hit in
    record { below = ltb-true hart C.harts (not-false (nat_lt hart C.harts) p.0); canonical = t; entry = m.0; first = m.1; passes = m.2 })
    (λ f e. absurd (false≢true (ap is_hit e ∙ hit))) s.1

abbrev mapping : Option ℕ → ℕ → ℕ → PteFlags → Mapping
mapping a page ppn flags = record { asid = a; page = page; ppn = ppn; flags = flags }

-- a mapping of an entry, by its page
pub mapping_is : (e : Entry) (n : ℕ) (m : Mapping) → IsMappingOf e m → m.page ≡ n → m ≡ mapping_of e n
mapping_is e n m is page =
    ap (λ (a : Option ℕ). mapping a m.page m.ppn m.flags) is.asid
    ∙ ap (λ (p : ℕ). mapping (reach_of e) m.page p m.flags) is.ppn
    ∙ ap (λ (f : PteFlags). mapping (reach_of e) m.page (e.ppn + m.page % pages_of e.page.size) f) is.flags
    ∙ ap (mapping_of e) page

-- a Begin changes no table
module _ (C : Setup) (H : History) (hart va : ℕ) (access : Access) (ctx : Ctx) (r : Reply) where
  reaches_still : (of : Option ℕ) (s : ℕ) → Reaches C H of s ↔ Reaches C (with_turn (Begin hart va access ctx) r H) of s
  reaches_still None s = (λ below. below, λ below. below)
  reaches_still (Some a) s = (λ has. record { there = has.there; kept = has.kept; same = has.same }, λ has. record { there = has.there; kept = has.kept; same = has.same })

  pub mapped_still : (of : Option ℕ) (m : Mapping) → IsMappedNow C H (words_of C H) of m ↔ IsMappedNow C (with_turn (Begin hart va access ctx) r H) (words_of C (with_turn (Begin hart va access ctx) r H)) of m
  mapped_still of m = (
    λ now. record {
      some = (now.some.0, (reaches_still of now.some.0).0 now.some.1);
      each = λ s reached. now.each s ((reaches_still of s).1 reached);
    },
    λ now. record {
      some = (now.some.0, (reaches_still of now.some.0).1 now.some.1);
      each = λ s reached. now.each s ((reaches_still of s).0 reached);
    },
  )

  -- where this entry is the first that matches, its mapping is what the hit uses
  module _ (entry : Entry) (first : first_match (entries_of C H hart) (asid_of C H (space_of H hart)) va ≡ Some entry) where
    hart_of : Event → ℕ
    hart_of (Begin h a access ctx) = h
    hart_of _ = 0

    va_of : Event → ℕ
    va_of (Begin h a access ctx) = a
    va_of _ = 0

    used : (h : ℕ) (m : Mapping) → Uses C (record { event = Begin hart va access ctx; reply = r }) H h m → (h ≡ hart) × (m ≡ mapping_of entry (page_number va))
    unfolding hart_of va_of
    used h m u =
        let same_hart : hart ≡ h = ap hart_of u.event in
        let same_va : va ≡ u.va = ap va_of u.event in
        let there : first_match (entries_of C H hart) (asid_of C H (space_of H hart)) va ≡ Some u.entry =
        subst (λ (x : ℕ). first_match (entries_of C H x) (asid_of C H (space_of H x)) va ≡ Some u.entry) (sym same_hart)
        (subst (λ (x : ℕ). first_match (entries_of C H h) (asid_of C H (space_of H h)) x ≡ Some u.entry) (sym same_va) u.first) in
        let same : u.entry ≡ entry = cc in
        (sym same_hart, mapping_is u.entry (page_number va) m u.is (u.page ∙ ap page_number (sym same_va)) ∙ ap (λ (e : Entry). mapping_of e (page_number va)) same)

    module _ (is_page : IsPage entry.page) (hit : is_hit r ≡ true) where
      is_mapping : IsMappingOf entry (mapping_of entry (page_number va))
      is_mapping =
          let found = find-Some (is_match (asid_of C H (space_of H hart)) va) (entries_of C H hart) entry first in
          record {
            asid = refl;
            page = lies_in entry.page va is_page ((holds-Holds entry.page va).0 (and_parts (holds entry.page va) _ found.1).0);
            ppn = refl;
            flags = refl;
          }

      uses : (¬ IsMappedNow C H (words_of C H) (reach_of entry) (mapping_of entry (page_number va)))
          → UsesStale C (record { event = Begin hart va access ctx; reply = r }) H hart (mapping_of entry (page_number va))
      uses unmapped =
          let found = find-Some (is_match (asid_of C H (space_of H hart)) va) (entries_of C H hart) entry first in
          record {
            uses = record { va = va; access = access; ctx = ctx; event = refl; hit = hit; entry = entry; first = first; is = is_mapping; page = refl };
            stale = record { held = (entry, found.0, is_mapping); unmapped = unmapped };
          }

      -- so it uses a stale mapping exactly if that is not mapped now
      pub told : (¬ IsMappedNow C H (words_of C H) (reach_of entry) (mapping_of entry (page_number va))) → (h : ℕ) (p : Mapping)
          → UsesStale C (record { event = Begin hart va access ctx; reply = r }) H h p ↔ ((h ≡ hart) × (p ≡ mapping_of entry (page_number va)))
      told unmapped h p = (
        λ u. used h p u.uses,
        λ is. subst (λ (x : ℕ). UsesStale C (record { event = Begin hart va access ctx; reply = r }) H x p) (sym is.0)
            (subst (UsesStale C (record { event = Begin hart va access ctx; reply = r }) H hart) (sym is.1) (uses unmapped)),
      )

      pub untold : IsMappedNow C H (words_of C H) (reach_of entry) (mapping_of entry (page_number va)) → (h : ℕ) (p : Mapping)
          → UsesStale C (record { event = Begin hart va access ctx; reply = r }) H h p → ⊥
      untold now h p u = u.stale.unmapped (subst (λ (x : Mapping). IsMappedNow C H (words_of C H) x.asid x) (sym (used h p u.uses).1) now)

-- what a machine shows of it that stands after the access
module _ (C : Setup) (m : State) (H : History) (hart va : ℕ) (access : Access) (ctx : Ctx) (r : Reply) (st : Stands C m (with_turn (Begin hart va access ctx) r H)) (hit : is_hit r ≡ true) where
  by : HitBy C H hart va access ctx
  by = hit_by C H hart va access ctx r st.lawful.1 hit

  pub hit_hart : hart < length m.harts
  hit_hart = subst (λ n. hart < n) (sym (ap (λ (D : Setup). D.harts) st.setup)) by.below

  pub hit_canonical : IsCanonical m.memory.layout.scheme va
  hit_canonical = (is_canonical-IsCanonical m.memory.layout.scheme va).0 (ap (λ (l : Layout). is_canonical l.scheme va) (layout_same C m _ st) ∙ by.canonical)

  hit_first : first_match (hart_at m hart).entries (asid_of_hart m (hart_at m hart)) va ≡ Some by.entry
  hit_first =
      ap (λ (es : List Entry). first_match es (asid_of_hart m (hart_at m hart)) va) (st.harts hart by.below).entries
      ∙ ap (λ (a : ℕ). first_match (entries_of C H hart) a va) (asid_same C m _ st hart by.below)
      ∙ by.first

  pub no_match : (o : Option Entry) → o ≡ first_match (hart_at m hart).entries (asid_of_hart m (hart_at m hart)) va → o ≡ None → ⊥
  no_match o is none = let bad : None ≡ Some by.entry = sym none ∙ is ∙ hit_first in cc

  module _ (entry : Entry) (is : Some entry ≡ first_match (hart_at m hart).entries (asid_of_hart m (hart_at m hart)) va) where
    same : by.entry ≡ entry
    same = let e : Some entry ≡ Some by.entry = is ∙ hit_first in cc

    pub hit_passes : flags_fault access ctx entry.flags ≡ None
    hit_passes = ap (λ (e : Entry). flags_fault access ctx e.flags) (sym same) ∙ by.passes

    pub hit_entry : first_match (entries_of C H hart) (asid_of C H (space_of H hart)) va ≡ Some entry
    hit_entry = by.first ∙ ap Some same

    pub use_told : IsPage entry.page → (¬ IsMappedNow C (with_turn (Begin hart va access ctx) r H) (words_of C (with_turn (Begin hart va access ctx) r H)) (reach_of entry) (mapping_of entry (page_number va))) → (h : ℕ) (p : Mapping)
        → UsesStale C (record { event = Begin hart va access ctx; reply = r }) H h p ↔ ((h ≡ hart) × (p ≡ mapping_of entry (page_number va)))
    use_told is_page unmapped h p =
        told C H hart va access ctx r entry hit_entry is_page hit (λ now. unmapped ((mapped_still C H hart va access ctx r (reach_of entry) (mapping_of entry (page_number va))).0 now)) h p

    pub use_untold : IsPage entry.page → IsMappedNow C (with_turn (Begin hart va access ctx) r H) (words_of C (with_turn (Begin hart va access ctx) r H)) (reach_of entry) (mapping_of entry (page_number va)) → (h : ℕ) (p : Mapping)
        → UsesStale C (record { event = Begin hart va access ctx; reply = r }) H h p → ⊥
    use_untold is_page now h p u =
        untold C H hart va access ctx r entry hit_entry is_page hit ((mapped_still C H hart va access ctx r (reach_of entry) (mapping_of entry (page_number va))).1 now) h p u
