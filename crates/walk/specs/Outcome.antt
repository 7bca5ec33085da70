-- What the translation of an address answers (privileged manual 4.3.2, virtual address translation
-- process; 4.4.1 and 4.5.1, canonical addresses).
use Rattle.std.specs.Prelude.{ℕ, Bool, ◌≡◌, ◌≤◌, ◌⊎◌, ◌↔◌, Option, Result, Err, IsTrue}
use Rattle.pte.specs.declared.scheme.Scheme.{Scheme}
use Rattle.pte.specs.declared.permission.Access.{Access}
use Rattle.pte.specs.declared.permission.Ctx.{Ctx}
use Rattle.pte.specs.Address.{IsCanonical}
use Rattle.walk.specs.declared.found_or_trap.Found.{Found}
use Rattle.walk.specs.declared.found_or_trap.Trap.{Trap}
use Rattle.walk.specs.declared.found_or_trap.Why.TheVariants.{NotCanonical}
use Rattle.walk.specs.Answer.{answer_at, page_trap}
use Rattle.walk.specs.Leads.{Tables, Leads, IsGlobalAt}

-- the answer for what leads at the lowest level at which anything leads
pub record Ends (scheme : Scheme) (words : Tables) (root va : ℕ) (access : Access) (ctx : Ctx)
    (answer : Result Found Trap) : Type 0 where
  pub level : ℕ
  pub table : ℕ
  pub word : Option ℕ
  pub global : Bool
  pub leads : Leads scheme words root va level table word
  pub lowest : (j b : ℕ) (v : Option ℕ) → Leads scheme words root va j b v → level ≤ j
  pub is_global : IsTrue global ↔ IsGlobalAt scheme words root va level
  pub is : answer ≡ answer_at va access ctx level global word

-- the address is not canonical, or the path of its tables ends
abbrev pub Outcome : Scheme → Tables → ℕ → ℕ → Access → Ctx → Result Found Trap → Type 0
Outcome scheme words root va access ctx answer =
    ((¬ IsCanonical scheme va) × (answer ≡ Err (page_trap access NotCanonical)))
    ⊎ (IsCanonical scheme va × Ends scheme words root va access ctx answer)
