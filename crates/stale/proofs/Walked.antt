-- What a walk answers where the tables map the page of an address as some entry does.
use Rattle.std.proofs.Common.{◌≡◌, ℕ, ◌+◌, ◌*◌, ◌%◌, Bool, true, false, cond, Option, Some, None, refl, ap, ◌∙◌, subst, arith}
use Rattle.std.specs.Prelude.{Result, Ok, is_none}
use Rattle.pte.specs.declared.scheme.Scheme.{Scheme}
use Rattle.pte.specs.declared.address.PageSize.TheVariants.{Kib4}
use Rattle.pte.specs.declared.permission.Access.{Access}
use Rattle.pte.specs.declared.permission.Ctx.{Ctx}
use Rattle.pte.specs.declared.flags.PteFlags.{PteFlags}
use Rattle.pte.specs.Address.{bytes_of}
use Rattle.walk.specs.declared.found_or_trap.Found.{Found}
use Rattle.walk.specs.declared.found_or_trap.Trap.{Trap}
use Rattle.walk.specs.declared.found_or_trap.Why.{Why}
use Rattle.walk.specs.Answer.{flags_fault, found_unless}
use Rattle.walk.specs.Leads.{Tables}
use Rattle.walk.specs.Outcome.{Outcome}
use Rattle.walk.specs.Maps.{Maps, page_number}
use Rattle.walk.proofs.MappedAnswers.{mapped_answer}
use Rattle.walk.proofs.FoundMembers.{found_member}
use Rattle.walk.proofs.Unique.{outcome_unique}

page_of : (ppn va pa : ℕ) → pa ≡ ppn * bytes_of Kib4 + va % bytes_of Kib4 → page_number pa ≡ ppn
page_of ppn va pa e = omega (arith, e)

-- an entry's mappings are for every ASID exactly if it is global
pub global_is : (global : Bool) (asid : ℕ) → is_none (cond global None (Some asid)) ≡ global
global_is true asid = refl
global_is false asid = refl

module _ (scheme : Scheme) (words : Tables) (root va ppn : ℕ) (access : Access) (ctx : Ctx) (flags : PteFlags) (global : Bool) where
  -- where the page is mapped, the walk finds it
  pub mapped_found : (answer : Result Found Trap) → Outcome scheme words root va access ctx answer → flags_fault access ctx flags ≡ None
      → Maps scheme words root (page_number va) ppn flags global
      → (found : Found) × (answer ≡ Ok found) × (page_number found.pa ≡ ppn) × (found.flags ≡ flags) × (found.global ≡ global)
  mapped_found answer outcome passes m =
      let a = mapped_answer scheme words root va ppn access ctx flags global m in
      let is : answer ≡ Ok a.0 =
      outcome_unique scheme words root va access ctx answer (found_unless (flags_fault access ctx flags) access a.0) outcome a.1
      ∙ ap (λ (w : Option Why). found_unless w access a.0) passes in
      (a.0, is, page_of ppn va a.0.pa a.2, a.3, a.4)

  -- and what it finds is mapped
  pub found_mapped : (found : Found) → Outcome scheme words root va access ctx (Ok found) → page_number found.pa ≡ ppn → found.flags ≡ flags → found.global ≡ global
      → Maps scheme words root (page_number va) ppn flags global
  found_mapped found outcome place same_flags same_global =
      subst (λ (p : ℕ). Maps scheme words root (page_number va) p flags global) place
      (subst (λ (f : PteFlags). Maps scheme words root (page_number va) (page_number found.pa) f global) same_flags
      (subst (λ (g : Bool). Maps scheme words root (page_number va) (page_number found.pa) found.flags g) same_global (found_member scheme words root va access ctx found outcome)))
