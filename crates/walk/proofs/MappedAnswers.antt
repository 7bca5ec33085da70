-- An access of a page that is mapped is answered by the member of Maps alone.
use Rattle.std.proofs.Common.{◌≡◌, ℕ, ◌+◌, ◌*◌, ◌/◌, ◌%◌, ◌^◌, Bool, cond, not, Some, ap, sym, ◌∙◌, refl, inr, arith}
use Rattle.std.proofs.lemmas.Bool.{eq-eqb}
use Rattle.std.proofs.lemmas.Nat.{mod-pow-add}
use Rattle.pte.specs.declared.scheme.Scheme.{Scheme}
use Rattle.pte.specs.declared.address.PageSize.TheVariants.{Kib4}
use Rattle.pte.specs.declared.permission.Access.{Access}
use Rattle.pte.specs.declared.permission.Ctx.{Ctx}
use Rattle.pte.specs.declared.flags.PteFlags.{PteFlags}
use Rattle.pte.specs.Address.{bytes_of, level_bytes, level_pages}
use Rattle.pte.specs.Permission.{is_permitted}
use Rattle.walk.specs.declared.found_or_trap.Found.{Found}
use Rattle.walk.specs.declared.found_or_trap.Why.TheVariants.{Denied, Misaligned}
use Rattle.walk.specs.Answer.{accessed_fault, answer_at, flags_fault, found_at, kind_answer, leaf_fault, found_unless}
use Rattle.walk.specs.Leads.{Tables, Leads}
use Rattle.walk.specs.Outcome.{Outcome}
use Rattle.walk.specs.Maps.{Maps, page_number}
use Rattle.walk.proofs.Pages.{leads_page, global_page, same_canonical}
use Rattle.walk.proofs.Members.{leaf_ends, nothing_below}

aligned-fault : (access : Access) (ctx : Ctx) (i ppn : ℕ) (flags : PteFlags) → ppn % level_pages i ≡ 0 → leaf_fault access ctx i ppn flags ≡ flags_fault access ctx flags
aligned-fault access ctx i ppn flags aligned =
    ap (λ b. cond (not (is_permitted flags.0 access ctx)) (Some Denied) (cond (not b) (Some Misaligned) (accessed_fault access flags))) (eq-eqb (ppn % level_pages i) 0 aligned)

-- the physical address, by the page of 4 KiB
address-split : (leaf va i : ℕ) → leaf * bytes_of Kib4 + va % level_bytes i ≡ (leaf + page_number va % level_pages i) * bytes_of Kib4 + va % bytes_of Kib4
address-split leaf va i =
    let exponents : 12 + 9 * i ≡ 9 * i + 12 = omega arith in
    let low : va % level_bytes i ≡ page_number va % level_pages i * bytes_of Kib4 + va % bytes_of Kib4 = ap (λ k. va % 2 ^ k) exponents ∙ mod-pow-add va (9 * i) 12 in
    omega arith

module _ (scheme : Scheme) (words : Tables) (root va ppn : ℕ) (access : Access) (ctx : Ctx) (flags : PteFlags) (global : Bool) (m : Maps scheme words root (page_number va) ppn flags global) where
  same : m.va / level_bytes 0 ≡ va / level_bytes 0
  same = m.of_page

  leads : Leads scheme words root va m.level m.table (Some m.entry)
  leads = leads_page scheme words root m.va va 0 same m.level m.table (Some m.entry) (omega arith) m.leads

  at_leaf : answer_at va access ctx m.level global (Some m.entry) ≡ found_unless (flags_fault access ctx flags) access (found_at va m.level global m.leaf flags)
  at_leaf =
      ap (kind_answer va access ctx m.level global) m.kind
      ∙ ap (λ w. found_unless w access (found_at va m.level global m.leaf flags)) (aligned-fault access ctx m.level m.leaf flags m.aligned)

  outcome-mapped : Outcome scheme words root va access ctx (found_unless (flags_fault access ctx flags) access (found_at va m.level global m.leaf flags))
  outcome-mapped =
      inr (
        same_canonical scheme m.va va 0 (omega arith) same m.canonical,
        record {
          level = m.level;
          table = m.table;
          word = Some m.entry;
          global = global;
          leads = leads;
          lowest = λ j b v path. nothing_below scheme words root va m.level j m.table b (Some m.entry) v leads (leaf_ends m.entry m.leaf flags m.kind) path;
          is_global = (
            (λ h. global_page scheme words root m.va va 0 same m.level (omega arith) (m.is_global.0 h)),
            (λ g. m.is_global.1 (global_page scheme words root va m.va 0 (sym same) m.level (omega arith) g)),
          );
          is = sym at_leaf;
        },
      )

  pub mapped_answer : (found : Found) × Outcome scheme words root va access ctx (found_unless (flags_fault access ctx flags) access found)
      × (found.pa ≡ ppn * bytes_of Kib4 + va % bytes_of Kib4) × (found.flags ≡ flags) × (found.global ≡ global)
  mapped_answer =
      (found_at va m.level global m.leaf flags, outcome-mapped, address-split m.leaf va m.level ∙ ap (λ n. n * bytes_of Kib4 + va % bytes_of Kib4) (sym m.place), refl, refl)
