-- What is found is a member of Maps, and so is each page of 4 KiB of the page that is found.
use Rattle.std.proofs.Common.{◌-◌, ◌≡◌, ℕ, ◌+◌, ◌*◌, ◌/◌, ◌%◌, ◌^◌, ◌<◌, ◌≤◌, Bool, true, false, cond, Option, Some, None, Ok, ap, sym, ◌∙◌, subst, refl, inl, inr, arith, not, IsTrue}
use Rattle.std.specs.Prelude.{◌==◌, ◌↔◌}
use Rattle.std.proofs.lemmas.Bool.{not-false, eqb-true, eqb-false, cond_both}
use Rattle.std.proofs.lemmas.Bool.Decides.{nat_tests}
use Rattle.std.proofs.lemmas.Nat.{mod_below, pow-add, pow_pos, row_fits, shr_below, shr_split}
use Rattle.pte.specs.declared.scheme.Scheme.{Scheme}
use Rattle.pte.specs.declared.address.PageSize.TheVariants.{Kib4, Mib2, Gib1, Gib512}
use Rattle.pte.specs.declared.permission.Access.{Access}
use Rattle.pte.specs.declared.permission.Ctx.{Ctx}
use Rattle.pte.specs.declared.flags.PteFlags.{PteFlags}
use Rattle.pte.specs.declared.entry.Kind.{Kind}
use Rattle.pte.specs.declared.entry.Kind.TheVariants as kinds
use Rattle.pte.specs.Address.{IsCanonical, Holds, Span, level_bytes, level_of, level_pages, bytes_of, page_around, pages_of, top_level, widest}
use Rattle.pte.proofs.Schemes.{level_in_widest}
use Rattle.pte.specs.Entry.{kind_of}
use Rattle.pte.specs.declared.entry.TheConstants.{PPN_BITS}
use Rattle.pte.specs.Permission.{is_permitted}
use Rattle.walk.specs.declared.found_or_trap.Found.{Found}
use Rattle.walk.specs.declared.found_or_trap.Why.{Why}
use Rattle.walk.specs.declared.found_or_trap.Why.TheVariants.{Denied, Misaligned}
use Rattle.walk.specs.Answer.{answer_at, kind_answer, leaf_fault, found_unless, found_at, is_aligned, size_at}
use Rattle.walk.specs.Leads.{Tables, Leads, IsGlobalAt}
use Rattle.walk.specs.Outcome.{Ends, Outcome}
use Rattle.walk.specs.Maps.{Maps, page_number}
use Rattle.walk.proofs.Pages.{page-number_in, holds_around, same_canonical}
use Rattle.walk.proofs.Members.{leaf_member}

-- behind a test that gives a fault
past : (b : Bool) (why : Why) (rest : Option Why) → None ≡ cond b (Some why) rest → (b ≡ false) × (None ≡ rest)
past true why rest e = cc
past false why rest e = (refl, e)

no_fault : (o : Option Why) (access : Access) (at found : Found) → Ok found ≡ found_unless o access at → (None ≡ o) × (found ≡ at)
no_fault None access at found e = (refl, cc)
no_fault (Some why) access at found e = cc

-- a leaf of a kind that is found at level i
record FromLeaf (va i : ℕ) (global : Bool) (kind : Kind) (found : Found) : Type 0 where
  ppn : ℕ
  flags : PteFlags
  is_leaf : kind ≡ kinds.Leaf ppn flags
  aligned : ppn % level_pages i ≡ 0
  is : found ≡ found_at va i global ppn flags

from_leaf : (va : ℕ) (access : Access) (ctx : Ctx) (i : ℕ) (global : Bool) (kind : Kind) (found : Found) → Ok found ≡ kind_answer va access ctx i global kind → FromLeaf va i global kind found
from_leaf va access ctx i global kinds.Invalid found e = cc
from_leaf va access ctx i global kinds.Reserved found e = cc
from_leaf va access ctx i global (kinds.Table ppn g) found e = cc
from_leaf va access ctx i global (kinds.Leaf ppn flags) found e =
    let none = no_fault (leaf_fault access ctx i ppn flags) access (found_at va i global ppn flags) found e in
    let permitted = past (not (is_permitted flags.0 access ctx)) Denied _ none.0 in
    let aligned = past (not (is_aligned i ppn)) Misaligned _ permitted.1 in
    record { ppn = ppn; flags = flags; is_leaf = refl; aligned = eqb-true _ _ (not-false _ aligned.0); is = none.1 }

-- what is known where something is found
pub record FoundAt (scheme : Scheme) (words : Tables) (root va : ℕ) (found : Found) : Type 0 where
  pub level : ℕ
  pub table : ℕ
  pub entry : ℕ
  pub canonical : IsCanonical scheme va
  pub leads : Leads scheme words root va level table (Some entry)
  pub kind : kind_of entry ≡ kinds.Leaf found.ppn found.flags
  pub aligned : found.ppn % level_pages level ≡ 0
  pub is_global : IsTrue found.global ↔ IsGlobalAt scheme words root va level
  pub pa : found.pa ≡ found.ppn * bytes_of Kib4 + va % level_bytes level
  pub page : found.page ≡ page_around va (size_at level)

-- a leaf's PPN fits its bits
pub leaf-ppn : (entry ppn : ℕ) (flags : PteFlags) → kind_of entry ≡ kinds.Leaf ppn flags → ppn < 2 ^ PPN_BITS
unfolding kind_of
leaf-ppn entry ppn flags kind = grind (arith, nat_tests)

-- an aligned page of a PPN below 2^44 ends below 2^44
physical-below : (ppn va i : ℕ) → i ≤ top_level widest → ppn < 2 ^ PPN_BITS → ppn % level_pages i ≡ 0 → ppn * bytes_of Kib4 + va % level_bytes i < 2 ^ PPN_BITS * bytes_of Kib4
physical-below ppn va i level below aligned =
    let pages : ℕ = level_pages i in
    let rest : ℕ = 2 ^ (PPN_BITS - 9 * i) in
    let exponents : PPN_BITS - 9 * i + 9 * i ≡ PPN_BITS = omega arith in
    let whole : rest * pages ≡ 2 ^ PPN_BITS = sym (pow-add 2 (PPN_BITS - 9 * i) (9 * i)) ∙ ap (λ k. 2 ^ k) exponents in
    let fits : ppn < 2 ^ (PPN_BITS - 9 * i + 9 * i) = subst (λ k. ppn < 2 ^ k) (sym exponents) below in
    let row : ppn / pages < rest = shr_below ppn (PPN_BITS - 9 * i) (9 * i) fits in
    let split : ppn / pages * pages + ppn % pages ≡ ppn = shr_split ppn (9 * i) in
    let next : ppn / pages * pages + pages ≤ rest * pages = row_fits (ppn / pages) pages rest pages row (omega arith) in
    let bytes : level_bytes i ≡ 2 ^ 12 * pages = pow-add 2 12 (9 * i) in
    let offset : va % level_bytes i < level_bytes i = mod_below va (level_bytes i) (pow_pos (12 + 9 * i)) in
    omega arith

module _ (scheme : Scheme) (words : Tables) (root va : ℕ) (access : Access) (ctx : Ctx) (found : Found) where
  found-word : IsCanonical scheme va → (end : Ends scheme words root va access ctx (Ok found)) → (w : Option ℕ) → end.word ≡ w → Ok found ≡ answer_at va access ctx end.level end.global w → FoundAt scheme words root va found
  found-word canonical end None at is = cc
  found-word canonical end (Some entry) at is =
      let leaf = from_leaf va access ctx end.level end.global (kind_of entry) found is in
      let ppn : found.ppn ≡ leaf.ppn = ap (λ (f : Found). f.ppn) leaf.is in
      let flags : found.flags ≡ leaf.flags = ap (λ (f : Found). f.flags) leaf.is in
      record {
        level = end.level;
        table = end.table;
        entry = entry;
        canonical = canonical;
        leads = subst (Leads scheme words root va end.level end.table) at end.leads;
        kind = leaf.is_leaf ∙ ap (λ (p : ℕ). kinds.Leaf p leaf.flags) (sym ppn) ∙ ap (λ (f : PteFlags). kinds.Leaf found.ppn f) (sym flags);
        aligned = ap (λ n. n % level_pages end.level) ppn ∙ leaf.aligned;
        is_global = subst (λ g. IsTrue g ↔ IsGlobalAt scheme words root va end.level) (sym (ap (λ (f : Found). f.global) leaf.is)) end.is_global;
        pa = ap (λ (f : Found). f.pa) leaf.is ∙ ap (λ n. n * bytes_of Kib4 + va % level_bytes end.level) (sym ppn);
        page = ap (λ (f : Found). f.page) leaf.is;
      }

  pub found_at-outcome : Outcome scheme words root va access ctx (Ok found) → FoundAt scheme words root va found
  found_at-outcome (inl out) = let e = out.1 in cc
  found_at-outcome (inr went) = found-word went.0 went.1 went.1.word refl went.1.is

  pub found_member : Outcome scheme words root va access ctx (Ok found) → Maps scheme words root (page_number va) (page_number found.pa) found.flags found.global
  found_member is =
      let f = found_at-outcome is in
      subst (λ n. Maps scheme words root (page_number va) n found.flags found.global) (sym (ap page_number f.pa ∙ page-number_in found.ppn va f.level))
      (leaf_member scheme words root va f.level f.table f.entry found.ppn va found.flags found.global f.leads f.kind f.aligned f.is_global f.canonical refl)

pub level_of-size_at : (i : ℕ) → i ≤ top_level widest → level_of (size_at i) ≡ i
level_of-size_at i le =
    cond_both (i == 0) Kib4 _ (λ s. level_of s ≡ i)
    (λ e. sym (eqb-true i 0 e))
    (λ e.
    let not_low = eqb-false i 0 e in
    cond_both (i == 1) Mib2 _ (λ s. level_of s ≡ i)
    (λ f. sym (eqb-true i 1 f))
    (λ f.
    let not_middle = eqb-false i 1 f in
    cond_both (i == 2) Gib1 Gib512 (λ s. level_of s ≡ i) (λ g. sym (eqb-true i 2 g)) (λ g. let not_high = eqb-false i 2 g in omega arith)))

module _ (scheme : Scheme) (words : Tables) (root va : ℕ) (access : Access) (ctx : Ctx) (found : Found) (is : Outcome scheme words root va access ctx (Ok found)) where
  from : FoundAt scheme words root va found
  from = found_at-outcome scheme words root va access ctx found is

  found-level : level_of found.page.size ≡ from.level
  found-level = ap (λ (p : Span). level_of p.size) from.page ∙ level_of-size_at from.level (level_in_widest scheme from.level from.leads.level)

  -- each page of 4 KiB of the page that is found
  pub found_page_member : (at : ℕ) → Holds found.page at → Maps scheme words root (page_number at) (found.ppn + page_number at % pages_of found.page.size) found.flags found.global
  found_page_member at holds =
      let around : Holds (page_around va (size_at from.level)) at = subst (λ (p : Span). Holds p at) from.page holds in
      let same : at / level_bytes from.level ≡ va / level_bytes from.level =
      subst (λ k. at / level_bytes k ≡ va / level_bytes k) (level_of-size_at from.level (level_in_widest scheme from.level from.leads.level)) (holds_around va at (size_at from.level) around) in
      subst (λ k. Maps scheme words root (page_number at) (found.ppn + page_number at % level_pages k) found.flags found.global) (sym found-level)
      (leaf_member scheme words root va from.level from.table from.entry found.ppn at found.flags found.global from.leads from.kind from.aligned from.is_global
      (same_canonical scheme va at from.level from.leads.level (sym same) from.canonical) same)

  -- a PPN and a physical address fit their bits
  pub found_in_range : (found.ppn < 2 ^ PPN_BITS) × (found.pa < 2 ^ PPN_BITS * bytes_of Kib4)
  found_in_range =
      let ppn = leaf-ppn from.entry found.ppn found.flags from.kind in
      (ppn, subst (λ n. n < 2 ^ PPN_BITS * bytes_of Kib4) (sym from.pa) (physical-below found.ppn va from.level (level_in_widest scheme from.level from.leads.level) ppn from.aligned))
