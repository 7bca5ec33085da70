-- A page has one member of Maps at most; a leaf that leads gives the members of its page, and
-- nothing else does.
use Rattle.std.proofs.Common.{◌≡◌, ℕ, ◌+◌, ◌/◌, ◌%◌, ◌≤◌, Bool, Option, Some, IsTrue, ap, sym, ◌∙◌, subst, refl, inl, inr, arith}
use Rattle.std.specs.Prelude.{◌↔◌}
use Rattle.std.proofs.lemmas.Bool.{cases_lt}
use Rattle.pte.specs.declared.scheme.Scheme.{Scheme}
use Rattle.pte.specs.declared.flags.PteFlags.{PteFlags}
use Rattle.pte.specs.declared.entry.Kind.TheVariants.{Table, Leaf}
use Rattle.pte.specs.Address.{IsCanonical, level_bytes, level_pages}
use Rattle.pte.specs.Entry.{kind_of}
use Rattle.walk.specs.Leads.{Tables, PointsTo, Leads, IsGlobalAt}
use Rattle.walk.specs.Maps.{Maps, page_number}
use Rattle.walk.proofs.Pages.{leads_page, global_page, page-high}
use Rattle.walk.proofs.Paths.{same_word, through}
use Rattle.walk.proofs.Unique.{same_bool}

-- below a word that is no pointer nothing leads
pub nothing_below : (scheme : Scheme) (words : Tables) (root va i j t u : ℕ) (v w : Option ℕ) → Leads scheme words root va i t v → ((next : ℕ) → PointsTo v next → ⊥) → Leads scheme words root va j u w → i ≤ j
nothing_below scheme words root va i j t u v w p ends q =
    elim (cases_lt j i) [
      | inl below ↦ let next = through scheme words root va i j t u v w below p q in absurd (ends next.0 next.1)
      | inr above ↦ above
    ]

-- a leaf is no pointer
pub leaf_ends : (entry ppn : ℕ) (flags : PteFlags) → kind_of entry ≡ Leaf ppn flags → (next : ℕ) → PointsTo (Some entry) next → ⊥
leaf_ends entry ppn flags kind next point =
    let same : entry ≡ point.entry = let e = point.is in cc in
    let kinds : Leaf ppn flags ≡ Table next point.global = sym kind ∙ ap kind_of same ∙ point.kind in
    cc

pub record SameMember (ppn : ℕ) (flags : PteFlags) (global : Bool) (ppn' : ℕ) (flags' : PteFlags) (global' : Bool) : Type 0 where
  pub same_ppn : ppn ≡ ppn'
  pub same_flags : flags ≡ flags'
  pub same_global : global ≡ global'

module _ (scheme : Scheme) (words : Tables) (root page ppn ppn' : ℕ) (flags flags' : PteFlags) (global global' : Bool) (p : Maps scheme words root page ppn flags global) (q : Maps scheme words root page ppn' flags' global') where
  one_address : p.va / level_bytes 0 ≡ q.va / level_bytes 0
  one_address = p.of_page ∙ sym q.of_page

  moved : Leads scheme words root q.va p.level p.table (Some p.entry)
  moved = leads_page scheme words root p.va q.va 0 one_address p.level p.table (Some p.entry) (omega arith) p.leads

  one-level : p.level ≡ q.level → SameMember ppn flags global ppn' flags' global'
  one-level level =
      let there : Leads scheme words root q.va q.level p.table (Some p.entry) = subst (λ k. Leads scheme words root q.va k p.table (Some p.entry)) level moved in
      let entries : p.entry ≡ q.entry = let e = same_word scheme words root q.va q.level p.table q.table (Some p.entry) (Some q.entry) there q.leads in cc in
      let kinds : Leaf p.leaf flags ≡ Leaf q.leaf flags' = sym p.kind ∙ ap kind_of entries ∙ q.kind in
      let leaves : p.leaf ≡ q.leaf = cc in
      record {
        same_ppn = p.place ∙ ap (λ n. n + page % level_pages p.level) leaves ∙ ap (λ k. q.leaf + page % level_pages k) level ∙ sym q.place;
        same_flags = cc;
        same_global = same_bool global global' (
          (λ h. q.is_global.1 (subst (IsGlobalAt scheme words root q.va) level (global_page scheme words root p.va q.va 0 one_address p.level (omega arith) (p.is_global.0 h)))),
          (λ h. p.is_global.1 (subst (IsGlobalAt scheme words root p.va) (sym level) (global_page scheme words root q.va p.va 0 (sym one_address) q.level (omega arith) (q.is_global.0 h)))),
        );
      }

  pub one_member : SameMember ppn flags global ppn' flags' global'
  one_member =
      let up = nothing_below scheme words root q.va p.level q.level p.table q.table (Some p.entry) (Some q.entry) moved (leaf_ends p.entry p.leaf flags p.kind) q.leads in
      let down = nothing_below scheme words root q.va q.level p.level q.table p.table (Some q.entry) (Some p.entry) q.leads (leaf_ends q.entry q.leaf flags' q.kind) moved in
      one-level (omega arith)

module _ (scheme : Scheme) (words : Tables) (root va i table : ℕ) where
  -- a leading leaf gives each page of 4 KiB in its page
  pub leaf_member : (entry leaf at : ℕ) (flags : PteFlags) (global : Bool) → Leads scheme words root va i table (Some entry) → kind_of entry ≡ Leaf leaf flags → leaf % level_pages i ≡ 0
      → (IsTrue global ↔ IsGlobalAt scheme words root va i) → IsCanonical scheme at → at / level_bytes i ≡ va / level_bytes i → Maps scheme words root (page_number at) (leaf + page_number at % level_pages i) flags global
  leaf_member entry leaf at flags global leads kind aligned known canonical same = record {
    va = at;
    level = i;
    table = table;
    entry = entry;
    leaf = leaf;
    canonical = canonical;
    of_page = refl;
    leads = leads_page scheme words root va at i (sym same) i table (Some entry) (omega arith) leads;
    kind = kind;
    aligned = aligned;
    place = refl;
    is_global = ((λ h. global_page scheme words root va at i (sym same) i (omega arith) (known.0 h)), (λ g. known.1 (global_page scheme words root at va i same i (omega arith) g)));
  }

  -- where a path ends at a word that is no aligned leaf, no page under it is mapped
  pub no_member : (word : Option ℕ) (page ppn : ℕ) (flags : PteFlags) (global : Bool) → Leads scheme words root va i table word → ((next : ℕ) → PointsTo word next → ⊥)
      → ((entry leaf : ℕ) (given : PteFlags) → word ≡ Some entry → kind_of entry ≡ Leaf leaf given → leaf % level_pages i ≡ 0 → ⊥)
      → page / level_pages i ≡ va / level_bytes i → Maps scheme words root page ppn flags global → ⊥
  no_member word page ppn flags global leads ends bare same q =
      let there : va / level_bytes i ≡ q.va / level_bytes i = sym same ∙ ap (λ n. n / level_pages i) (sym q.of_page) ∙ page-high q.va i in
      let moved = leads_page scheme words root va q.va i there i table word (omega arith) leads in
      let up = nothing_below scheme words root q.va i q.level table q.table word (Some q.entry) moved ends q.leads in
      let down = nothing_below scheme words root q.va q.level i q.table table (Some q.entry) word q.leads (leaf_ends q.entry q.leaf flags q.kind) moved in
      let level : q.level ≡ i = omega arith in
      let here : Leads scheme words root q.va i q.table (Some q.entry) = subst (λ k. Leads scheme words root q.va k q.table (Some q.entry)) level q.leads in
      bare q.entry q.leaf flags (same_word scheme words root q.va i table q.table word (Some q.entry) moved here) q.kind (ap (λ k. q.leaf % level_pages k) (sym level) ∙ q.aligned)
