-- The leaf of a page: it is what a walk finds, and there is one.
use Rattle.std.proofs.Common.{◌≡◌, ℕ, ◌+◌, ◌*◌, ◌/◌, ◌%◌, ◌^◌, Some, Ok, IsTrue, ap, sym, ◌∙◌, subst, arith}
use Rattle.std.specs.Prelude.{◌↔◌}
use Rattle.std.proofs.lemmas.Nat.{pow_pos}
use Rattle.std.proofs.Math.Nat.{mul-div_cancel}
use Rattle.pte.specs.declared.scheme.Scheme.{Scheme}
use Rattle.pte.specs.declared.address.PageSize.{PageSize}
use Rattle.pte.specs.declared.permission.Access.{Access}
use Rattle.pte.specs.declared.permission.Ctx.{Ctx}
use Rattle.pte.specs.declared.entry.Kind.TheVariants as kinds
use Rattle.pte.specs.Address.{Holds, Span, level_bytes, level_of, level_pages, pages_of, page_around}
use Rattle.pte.specs.Entry.{kind_of}
use Rattle.pte.proofs.Schemes.{level_in_widest}
use Rattle.walk.specs.declared.found_or_trap.Found.{Found}
use Rattle.walk.specs.Answer.{size_at}
use Rattle.walk.specs.Leads.{Tables, Leads, IsGlobalAt}
use Rattle.walk.specs.Maps.{Maps, page_number}
use Rattle.walk.specs.Outcome.{Outcome}
use Rattle.walk.proofs.FoundMembers.{found_at-outcome, level_of-size_at}
use Rattle.walk.proofs.Members.{leaf_member}
use Rattle.walk.proofs.Pages.{global_page, leads_page}
use Rattle.walk.proofs.Paths.{same_word}
use Rattle.walk.proofs.Unique.{same_bool}
use Rattle.tlb.specs.declared.store.Entry.{Entry}
use Rattle.tlb.specs.Answer.{entry_of}
use Rattle.tlb.proofs.Overlapping.{Holds-canonical, same_row}
use Rattle.tlb.proofs.Walked.{entry_matches}
use Rattle.watch.specs.Holding.{HasLeaf}

-- a leaf maps each page of 4 KiB of its page
pub leaf_maps : (scheme : Scheme) (words : Tables) (root : ℕ) (e : Entry) (va : ℕ) → HasLeaf scheme words root e → Holds e.page va
    → Maps scheme words root (page_number va) (e.ppn + page_number va % pages_of e.page.size) e.flags e.global
leaf_maps scheme words root e va leaf held =
    leaf_member scheme words root e.page.base (level_of e.page.size) leaf.table leaf.word e.ppn va e.flags e.global leaf.leads leaf.kind leaf.aligned leaf.global
    (Holds-canonical scheme e.page va leaf.page held)
    (sym (same_row e.page.base va (12 + 9 * level_of e.page.size) leaf.page.aligned held.from held.below))

-- two leaves of one page are one
pub record SameLeaf (a b : Entry) : Type 0 where
  pub ppn : a.ppn ≡ b.ppn
  pub flags : a.flags ≡ b.flags
  pub global : a.global ≡ b.global

same_leaf_of : (scheme : Scheme) (words : Tables) (root : ℕ) (a b : Entry) → HasLeaf scheme words root a → (page : Span) → a.page ≡ page
    → (table word : ℕ) → Leads scheme words root page.base (level_of page.size) table (Some word) → kind_of word ≡ kinds.Leaf b.ppn b.flags
    → (IsTrue b.global ↔ IsGlobalAt scheme words root page.base (level_of page.size)) → SameLeaf a b
same_leaf_of scheme words root a b p page same table word leads kind global =
    let mine : Leads scheme words root page.base (level_of page.size) p.table (Some p.word) =
    subst (λ (s : Span). Leads scheme words root s.base (level_of s.size) p.table (Some p.word)) same p.leads in
    let same_words : p.word ≡ word = let e = same_word scheme words root page.base (level_of page.size) p.table table (Some p.word) (Some word) mine leads in cc in
    let leaves : kinds.Leaf a.ppn a.flags ≡ kinds.Leaf b.ppn b.flags = sym p.kind ∙ ap kind_of same_words ∙ kind in
    record {
      ppn = cc;
      flags = cc;
      global = same_bool a.global b.global (
        (λ h. global.1 (subst (λ (s : Span). IsGlobalAt scheme words root s.base (level_of s.size)) same (p.global.0 h))),
        (λ h. p.global.1 (subst (λ (s : Span). IsGlobalAt scheme words root s.base (level_of s.size)) (sym same) (global.0 h))),
      );
    }

pub same_leaf : (scheme : Scheme) (words : Tables) (root : ℕ) (a b : Entry) → HasLeaf scheme words root a → HasLeaf scheme words root b → a.page ≡ b.page → SameLeaf a b
same_leaf scheme words root a b p q same = same_leaf_of scheme words root a b p b.page same q.table q.word q.leads q.kind q.global

-- what a walk finds is the leaf of its page
base_row : (va k : ℕ) → va / 2 ^ k * 2 ^ k / 2 ^ k ≡ va / 2 ^ k
base_row va k = mul-div_cancel (va / 2 ^ k) (pow_pos k)

pub found_leaf : (scheme : Scheme) (words : Tables) (root va asid : ℕ) (access : Access) (ctx : Ctx) (found : Found) → Outcome scheme words root va access ctx (Ok found) → HasLeaf scheme words root (entry_of asid found)
found_leaf scheme words root va asid access ctx found is =
    let at = found_at-outcome scheme words root va access ctx found is in
    let size : PageSize = size_at at.level in
    let level : level_of size ≡ at.level = level_of-size_at at.level (level_in_widest scheme at.level at.leads.level) in
    let base : ℕ = (page_around va size).base in
    let row : va / level_bytes at.level ≡ base / level_bytes at.level = subst (λ i. va / level_bytes i ≡ base / level_bytes i) level (sym (base_row va (12 + 9 * level_of size))) in
    let leads : Leads scheme words root base at.level at.table (Some at.entry) = leads_page scheme words root va base at.level row at.level at.table (Some at.entry) (omega arith) at.leads in
    let global : IsTrue found.global ↔ IsGlobalAt scheme words root base at.level = (
      (λ h. global_page scheme words root va base at.level row at.level (omega arith) (at.is_global.0 h)),
      (λ g. at.is_global.1 (global_page scheme words root base va at.level (sym row) at.level (omega arith) g)),
    ) in
    let matches = entry_matches scheme words root va access ctx found asid is in
    record {
      table = at.table;
      word = at.entry;
      page = matches.0;
      leads = subst (λ (s : Span). Leads scheme words root s.base (level_of s.size) at.table (Some at.entry)) (sym at.page) (subst (λ i. Leads scheme words root base i at.table (Some at.entry)) (sym level) leads);
      kind = at.kind;
      aligned = subst (λ (s : Span). found.ppn % pages_of s.size ≡ 0) (sym at.page) (subst (λ i. found.ppn % level_pages i ≡ 0) (sym level) at.aligned);
      global = subst (λ (s : Span). IsTrue found.global ↔ IsGlobalAt scheme words root s.base (level_of s.size)) (sym at.page) (subst (λ i. IsTrue found.global ↔ IsGlobalAt scheme words root base i) (sym level) global);
    }
