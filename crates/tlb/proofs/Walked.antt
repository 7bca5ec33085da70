-- Entries that a walk gave, and what an entry answers while its page stays mapped.
use Rattle.std.proofs.Common.{◌/◌, ◌<◌, ◌^◌, ◌≤◌, ◌≡◌, ℕ, ◌+◌, ◌*◌, ◌%◌, Bool, false, Option, Some, None, Result, Ok, IsTrue, sym, ◌∙◌, ap, subst, refl, arith}
use Rattle.std.specs.Prelude.{◌==◌, ◌&&◌, ◌||◌, not}
use Rattle.std.proofs.lemmas.Bool.{and_from, or_right, eq-eqb, false_from_ne_true, not_from_false}
use Rattle.pte.specs.declared.address.PageSize.{PageSize}
use Rattle.pte.specs.declared.address.PageSize.TheVariants.{Kib4, Mib2, Gib1, Gib512}
use Rattle.pte.specs.declared.permission.Access.{Access}
use Rattle.pte.specs.declared.permission.Ctx.{Ctx}
use Rattle.pte.specs.Address.{IsCanonical, IsPageOf, Holds, Span, bytes_of, level_of, pages_of, page_around, top_level}
use Rattle.pte.specs.declared.entry.TheConstants.{PPN_BITS}
use Rattle.pte.specs.declared.flags.PteFlags.{PteFlags}
use Rattle.walk.specs.declared.found_or_trap.Found.{Found}
use Rattle.walk.specs.declared.found_or_trap.Trap.{Trap}
use Rattle.walk.specs.declared.found_or_trap.Why.{Why}
use Rattle.walk.specs.Answer.{flags_fault, found_unless, size_at}
use Rattle.walk.specs.Leads.{Tables}
use Rattle.walk.specs.Maps.{Maps, page_number}
use Rattle.walk.specs.Outcome.{Outcome}
use Rattle.pte.proofs.Schemes.{level_in_widest}
use Rattle.walk.proofs.Pages.{same_canonical}
use Rattle.walk.proofs.FoundMembers.{found_at-outcome, found_page_member, level_of-size_at}
use Rattle.std.proofs.lemmas.Nat.{mod_below, pow_pos, shr_split}
use Rattle.std.proofs.Math.Nat.{mul-div_cancel, mul-mod_left}
use Rattle.pte.specs.declared.scheme.Scheme.{Scheme}
use Rattle.walk.proofs.MappedAnswers.{mapped_answer}
use Rattle.walk.proofs.Unique.{outcome_unique}
use Rattle.tlb.specs.declared.store.Entry.{Entry}
use Rattle.tlb.specs.Answer.{address_found, address_of, answer_of, entry_of, unless}
use Rattle.tlb.specs.Entries.{is_match}
use Rattle.tlb.specs.Mappings.{IsMappingOf, Mapping, maps_into}
use Rattle.tlb.specs.Service.{overlaps}
use Rattle.tlb.proofs.Overlapping.{holds-Holds, overlaps-Overlap}

-- the page of a size around an address of the scheme is a page of it, and has the address
around : (scheme : Scheme) (size : PageSize) (va : ℕ) → level_of size ≤ top_level scheme → IsCanonical scheme va → IsPageOf scheme (page_around va size) × Holds (page_around va size) va
around scheme size va level canonical =
    let bits : ℕ = 12 + 9 * level_of size in
    let split : va / 2 ^ bits * 2 ^ bits + va % 2 ^ bits ≡ va = shr_split va bits in
    let rest : va % 2 ^ bits < 2 ^ bits = mod_below va (2 ^ bits) (pow_pos bits) in
    let row : va / 2 ^ bits * 2 ^ bits / 2 ^ bits ≡ va / 2 ^ bits = mul-div_cancel (va / 2 ^ bits) (pow_pos bits) in (
      record { level = level; canonical = same_canonical scheme va (va / 2 ^ bits * 2 ^ bits) (level_of size) level (sym row) canonical; aligned = mul-mod_left (va / 2 ^ bits) (2 ^ bits) },
      record { from = omega arith; below = omega arith },
    )

no_overlap : (page : Span) (space : Option ℕ) (e : Entry) → overlaps page e.page ≡ false → IsTrue (not (maps_into page space e))
no_overlap page None e apart = not_from_false _ apart
no_overlap page (Some asid) e apart = ap (λ b. not (b && (e.global || (e.asid == asid)))) apart

module _ (scheme : Scheme) (words : Tables) (root va : ℕ) (access : Access) (ctx : Ctx) (found : Found) (asid : ℕ) (is : Outcome scheme words root va access ctx (Ok found)) where
  found_page : IsPageOf scheme found.page × Holds found.page va
  found_page =
      let at = found_at-outcome scheme words root va access ctx found is in
      subst (λ (p : Span). IsPageOf scheme p × Holds p va) (sym at.page)
      (around scheme (size_at at.level) va (subst (λ i. i ≤ top_level scheme) (sym (level_of-size_at at.level (level_in_widest scheme at.level at.leads.level))) at.leads.level) at.canonical)

  pub entry_matches : IsPageOf scheme (entry_of asid found).page × IsTrue (is_match asid va (entry_of asid found))
  entry_matches = (found_page.0, and_from _ _ ((holds-Holds found.page va).1 found_page.1) (or_right found.global (asid == asid) (eq-eqb asid asid refl)))

  pub entry_spaces : (other : ℕ) → is_match other va (entry_of asid found) ≡ found.global || (asid == other)
  entry_spaces other = ap (λ there. there && (found.global || (asid == other))) ((holds-Holds found.page va).1 found_page.1)

  pub entry_is_mapped : (m : Mapping) → IsMappingOf (entry_of asid found) m → Maps scheme words root m.page m.ppn m.flags found.global
  entry_is_mapped m of =
      let at : ℕ = m.page * bytes_of Kib4 in
      let number : page_number at ≡ m.page = omega arith in
      let holds : Holds found.page at = record { from = of.page.from; below = omega (arith, of.page.to) } in
      let there = found_page_member scheme words root va access ctx found is at holds in
      let moved : Maps scheme words root m.page (found.ppn + m.page % pages_of found.page.size) found.flags found.global =
      subst (λ n. Maps scheme words root n (found.ppn + n % pages_of found.page.size) found.flags found.global) number there in
      subst (λ (f : PteFlags). Maps scheme words root m.page m.ppn f found.global) (sym of.flags) (subst (λ n. Maps scheme words root m.page n found.flags found.global) (sym of.ppn) moved)

  -- where the tables map nothing in a page, the page that is found does not overlap it
  pub entry_is_elsewhere : (page : Span) → ((at ppn : ℕ) (flags : PteFlags) (global : Bool) → Holds page at → ¬ Maps scheme words root (page_number at) ppn flags global) → (space : Option ℕ) → IsTrue (not (maps_into page space (entry_of asid found)))
  entry_is_elsewhere page unmapped space =
      let apart : overlaps page found.page ≡ false =
      false_from_ne_true _ (λ on.
      let o = (overlaps-Overlap page found.page).0 on in
      unmapped o.0 _ _ _ o.1 (found_page_member scheme words root va access ctx found is o.0 o.2)) in
      no_overlap page space (entry_of asid found) apart

-- the place in the entry's page, by the page of 4 KiB
place : (size : PageSize) (ppn va : ℕ) → ppn * bytes_of Kib4 + va % bytes_of size ≡ (ppn + page_number va % pages_of size) * bytes_of Kib4 + va % bytes_of Kib4
place Kib4 ppn va = omega arith
place Mib2 ppn va = omega arith
place Gib1 ppn va = omega arith
place Gib512 ppn va = omega arith

found_or_fault : (o : Option Why) (access : Access) (found : Found) → address_found (found_unless o access found) ≡ unless o access found.pa
found_or_fault None access found = refl
found_or_fault (Some why) access found = refl

pub hit_is_outcome : (scheme : Scheme) (words : Tables) (root va : ℕ) (access : Access) (ctx : Ctx) (answer : Result Found Trap) (e : Entry) (m : Mapping) → (global : Bool)
    → e.ppn < 2 ^ PPN_BITS → IsMappingOf e m → m.page ≡ page_number va → Maps scheme words root m.page m.ppn m.flags global → Outcome scheme words root va access ctx answer
    → answer_of e va access ctx ≡ address_found answer
hit_is_outcome scheme words root va access ctx answer e m global ppn of page maps out =
    let here : Maps scheme words root (page_number va) m.ppn m.flags global = subst (λ n. Maps scheme words root n m.ppn m.flags global) page maps in
    let found = mapped_answer scheme words root va m.ppn access ctx m.flags global here in
    let same : answer ≡ found_unless (flags_fault access ctx m.flags) access found.0 = outcome_unique scheme words root va access ctx answer _ out found.1 in
    let cut : e.ppn % 2 ^ PPN_BITS ≡ e.ppn = omega arith in
    let pa : address_of e va ≡ found.0.pa =
    ap (λ n. n * bytes_of Kib4 + va % bytes_of e.page.size) cut ∙ place e.page.size e.ppn va
    ∙ ap (λ n. (e.ppn + n % pages_of e.page.size) * bytes_of Kib4 + va % bytes_of Kib4) (sym page)
    ∙ ap (λ n. n * bytes_of Kib4 + va % bytes_of Kib4) (sym of.ppn) ∙ sym found.2 in
    ap (λ (f : PteFlags). unless (flags_fault access ctx f) access (address_of e va)) (sym of.flags)
    ∙ ap (unless (flags_fault access ctx m.flags) access) pa
    ∙ sym (found_or_fault (flags_fault access ctx m.flags) access found.0) ∙ ap address_found (sym same)
