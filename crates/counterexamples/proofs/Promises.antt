-- What an acknowledgement forbids a TLB to hold, and where it says nothing, computed from the
-- histories of worked runs.
use Rattle.pte.specs.declared.scheme.Scheme.{Scheme}
use Rattle.std.proofs.Common.{◌≡◌, ℕ, zero, suc, ◌+◌, ◌*◌, ◌%◌, Bool, true, false, List, [], ◌∷◌, Some, None, Ok, Err, ◌==◌, IsTrue, refl, sym, ap, subst, ◌∙◌, arith, Option}
use Rattle.std.specs.Prelude.{Contains, Result}
use Rattle.std.proofs.lemmas.Bool.{true≢false, eq-eqb}
use Rattle.pte.specs.Address.{Span, IsPage, IsCanonical, Holds, bytes_of, level_count}
use Rattle.pte.specs.declared.address.PageSize.TheVariants.{Kib4}
use Rattle.pte.specs.declared.flags.PteFlags.{PteFlags}
use Rattle.pte.specs.declared.permission.Access.{Access}
use Rattle.pte.specs.declared.permission.Ctx.{Ctx}
use Rattle.walk.specs.declared.found_or_trap.Found.{Found}
use Rattle.walk.specs.declared.found_or_trap.Trap.{Trap}
use Rattle.walk.specs.Leads.{Tables}
use Rattle.walk.specs.Maps.{Maps, page_number, LiesIn}
use Rattle.walk.specs.Answer.{flags_fault, found_unless}
use Rattle.walk.specs.Stage.{start_of}
use Rattle.walk.specs.Loads.{answer_after}
use Rattle.walk.proofs.MappedAnswers.{mapped_answer}
use Rattle.walk.proofs.Unique.{level_count_loads}
use Rattle.tlb.specs.declared.store.Entry.{Entry}
use Rattle.tlb.specs.Entries.{is_match}
use Rattle.tlb.specs.Answer.{address_found}
use Rattle.tlb.specs.Mappings.{Mapping, IsMappingOf, IsMappedBy, Translates}
use Rattle.tlb.proofs.Translating.{match_translates, translated_match}
use Rattle.history.specs.Setup.{Setup}
use Rattle.history.specs.Turns.{History}
use Rattle.history.specs.Orders.{Order, Cause, Unmapped, order_at}
use Rattle.history.specs.Acknowledgements.{is_acked}
use Rattle.history.specs.Due.{names}
use Rattle.history.specs.Tables.{words_of}
use Rattle.history.specs.Staleness.{is_mapped_anew, is_superseded, HasAnswered, IsAsidOf, IsForAsid, Reaches, IsMapped, IsChange, Clear}
use Rattle.counterexamples.specs.Counterexamples.{ClearForbids, ClearAllowsAll, CoherentForbids, CoherentAllowsAll}

-- what an access of a mapped page finds
found_mapped : (scheme : Scheme) (words : Tables) (root va ppn : ℕ) (access : Access) (ctx : Ctx) (flags : PteFlags) (global : Bool) → IsCanonical scheme va → flags_fault access ctx flags ≡ None
    → Maps scheme words root (page_number va) ppn flags global
    → (found : Found) × (answer_after (level_count scheme) words (start_of scheme root va access ctx) ≡ Ok found) × (found.pa ≡ ppn * bytes_of Kib4 + va % bytes_of Kib4) × (found.global ≡ global)
found_mapped scheme words root va ppn access ctx flags global canonical none maps =
    let m = mapped_answer scheme words root va ppn access ctx flags global maps in
    let found : Found = m.0 in
    let is : found_unless (flags_fault access ctx flags) access found ≡ answer_after (level_count scheme) words (start_of scheme root va access ctx) =
    (level_count_loads scheme words root va access ctx (found_unless (flags_fault access ctx flags) access found) canonical).0 m.1 in
    (found, sym is ∙ ap (λ why. found_unless why access found) none, m.2, m.4)

mapped_address : (scheme : Scheme) (words : Tables) (root va ppn : ℕ) (access : Access) (ctx : Ctx) (flags : PteFlags) (global : Bool) → IsCanonical scheme va → flags_fault access ctx flags ≡ None
    → Maps scheme words root (page_number va) ppn flags global
    → address_found (answer_after (level_count scheme) words (start_of scheme root va access ctx)) ≡ Ok (ppn * bytes_of Kib4 + va % bytes_of Kib4)
mapped_address scheme words root va ppn access ctx flags global canonical none maps =
    let f = found_mapped scheme words root va ppn access ctx flags global canonical none maps in
    ap address_found f.1 ∙ ap Ok f.2

-- what is found as not global is not mapped global
abbrev finds_global : Result Found Trap → Bool
finds_global (Ok found) = found.global
finds_global (Err trap) = false

pub not_global : (scheme : Scheme) (words : Tables) (root va ppn : ℕ) (access : Access) (ctx : Ctx) (flags : PteFlags) → IsCanonical scheme va → flags_fault access ctx flags ≡ None
    → finds_global (answer_after (level_count scheme) words (start_of scheme root va access ctx)) ≡ false → ¬ Maps scheme words root (page_number va) ppn flags true
not_global scheme words root va ppn access ctx flags canonical none local maps =
    let f = found_mapped scheme words root va ppn access ctx flags true canonical none maps in
    true≢false (sym f.3 ∙ sym (ap finds_global f.1) ∙ local)

-- what an access does not find is not mapped
abbrev finds : Result ℕ Trap → ℕ → Bool
finds (Ok address) pa = address == pa
finds (Err trap) pa = false

pub not_mapped : (scheme : Scheme) (words : Tables) (root va ppn : ℕ) (access : Access) (ctx : Ctx) (flags : PteFlags) (global : Bool) → IsCanonical scheme va → flags_fault access ctx flags ≡ None
    → finds (address_found (answer_after (level_count scheme) words (start_of scheme root va access ctx))) (ppn * bytes_of Kib4 + va % bytes_of Kib4) ≡ false
    → ¬ Maps scheme words root (page_number va) ppn flags global
not_mapped scheme words root va ppn access ctx flags global canonical none other maps =
    let pa = ppn * bytes_of Kib4 + va % bytes_of Kib4 in
    true≢false (sym (eq-eqb pa pa refl) ∙ sym (ap (λ r. finds r pa) (mapped_address scheme words root va ppn access ctx flags global canonical none maps)) ∙ other)

abbrev cause_of : Order → Cause
cause_of order = order.cause

some-inj : {A : Type 0} {a b : A} → Some a ≡ Some b → a ≡ b
some-inj e = cc

-- a TLB of one entry translates what the entry matches, and nothing else
contained : (e x : Entry) → Contains (e ∷ []) x → x ≡ e
contained e x (zero, below, is) = sym is
contained e x (suc k, below, is) = absurd (omega (arith, below))

pub one_match : (e : Entry) (asid va : ℕ) → Translates (IsMappedBy (e ∷ [])) asid va → IsTrue (is_match asid va e)
one_match e asid va t = let m = translated_match (e ∷ []) asid va t in subst (λ x. IsTrue (is_match asid va x)) (contained e m.0 m.1) m.2

pub one_translates : (entries : List Entry) (e : Entry) (asid va : ℕ) → entries ≡ e ∷ [] → IsPage e.page → IsTrue (is_match asid va e) → Translates (IsMappedBy entries) asid va
one_translates entries e asid va is aligned on =
    subst (λ es. Translates (IsMappedBy es) asid va) (sym is) (match_translates (e ∷ []) asid va e aligned (0, omega arith, refl) on)

module _ (C : Setup) (H : History) (k h : ℕ) where
  -- where h has answered the unmapping and the page is not mapped anew, no entry of the page may be
  -- held
  pub clear_forbids : (of : Option ℕ) (page : Span) → HasAnswered C H k h (Unmapped of page) → is_mapped_anew C H k ≡ false
      → (asid va : ℕ) → IsAsidOf of asid → Holds page va → (e : Entry) → IsPage e.page → IsTrue (is_match asid va e) → ClearForbids C H k h e
  clear_forbids of page answered old asid va for held e aligned on entries at clear =
      clear of page answered old asid va for held (match_translates entries asid va e aligned at on)

  pub unacked_clear : is_acked C H k h ≡ false → ClearAllowsAll C H k h
  unacked_clear none entries of page answered = absurd (true≢false (sym answered.acked ∙ none))

  -- an order that followed no unmapping
  pub other_cause_clear : (order : Order) → order_at C H k ≡ Some order → ((of : Option ℕ) (page : Span) → order.cause ≡ Unmapped of page → ⊥) → ClearAllowsAll C H k h
  other_cause_clear order is other entries of page answered =
      absurd (other of page (ap cause_of (some-inj (sym is ∙ answered.is)) ∙ answered.same_cause))

  -- entries that translate nothing of the page for its address space may be held
  pub clear_allows : (order : Order) (of : Option ℕ) (page : Span) → order_at C H k ≡ Some order → order.cause ≡ Unmapped of page → (entries : List Entry)
      → ((asid va : ℕ) → IsAsidOf of asid → Holds page va → ¬ Translates (IsMappedBy entries) asid va) → Clear C H entries k h
  clear_allows order of page is cause entries none of' page' answered old asid va for held =
      let causes : Unmapped of page ≡ Unmapped of' page' = sym cause ∙ ap cause_of (some-inj (sym is ∙ answered.is)) ∙ answered.same_cause in
      let places : of' ≡ of = cc in
      let pages : page' ≡ page = cc in
      none asid va (subst (λ p. IsAsidOf p asid) places for) (subst (λ p. Holds p va) pages held)

  pub unacked_coherent : is_acked C H k h ≡ false → CoherentAllowsAll C H k h
  unacked_coherent none entries cause of page change answered = absurd (true≢false (sym answered.acked ∙ none))

  pub anew_clear : is_mapped_anew C H k ≡ true → ClearAllowsAll C H k h
  anew_clear anew entries of page answered old = absurd (true≢false (sym anew ∙ old))

  pub superseded_coherent : is_superseded C H k ≡ true → CoherentAllowsAll C H k h
  superseded_coherent changed entries cause of page change answered old = absurd (true≢false (sym changed ∙ old))

  not_named : (cause : Cause) → names (order_at C H k) h ≡ false → HasAnswered C H k h cause → ⊥
  not_named cause none answered = true≢false (sym answered.named ∙ sym (ap (λ o. names o h) answered.is) ∙ none)

  pub unnamed_clear : names (order_at C H k) h ≡ false → ClearAllowsAll C H k h
  unnamed_clear none entries of page answered = absurd (not_named (Unmapped of page) none answered)

  pub unnamed_coherent : names (order_at C H k) h ≡ false → CoherentAllowsAll C H k h
  unnamed_coherent none entries cause of page change answered = absurd (not_named cause none answered)

  -- a mapping that the tables do not have now may not be held
  pub coherent_forbids : (cause : Cause) (of : Option ℕ) (page : Span) → IsChange cause of page → HasAnswered C H k h cause → is_superseded C H k ≡ false
      → (e : Entry) (m : Mapping) → IsMappingOf e m → IsForAsid of m → LiesIn page m.page → (s : ℕ) → Reaches C H of s → ¬ IsMapped C (words_of C H) s m
      → CoherentForbids C H k h e
  coherent_forbids cause of page change answered old e m is for lies s reached none entries at coherent =
      none ((coherent cause of page change answered old m (e, at, is) for lies).each s reached)

  -- nor one of an ASID that no live or retiring space has
  pub coherent_forbids_unreached : (cause : Cause) (of : Option ℕ) (page : Span) → IsChange cause of page → HasAnswered C H k h cause → is_superseded C H k ≡ false
      → (e : Entry) (m : Mapping) → IsMappingOf e m → IsForAsid of m → LiesIn page m.page → ((s : ℕ) → ¬ Reaches C H of s) → CoherentForbids C H k h e
  coherent_forbids_unreached cause of page change answered old e m is for lies none entries at coherent =
      let some = (coherent cause of page change answered old m (e, at, is) for lies).some in
      none some.0 some.1
