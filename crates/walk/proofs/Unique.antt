-- There is one outcome, and one load a level computes it.
use Rattle.std.proofs.Common.{◌≡◌, ℕ, zero, suc, ◌+◌, ◌<◌, Bool, true, false, Result, IsTrue, ap, sym, ◌∙◌, subst, refl, inl, inr, arith}
use Rattle.std.specs.Prelude.{◌↔◌}
use Rattle.pte.specs.declared.scheme.Scheme.{Scheme}
use Rattle.pte.specs.declared.permission.Access.{Access}
use Rattle.pte.specs.declared.permission.Ctx.{Ctx}
use Rattle.walk.specs.declared.found_or_trap.Found.{Found}
use Rattle.walk.specs.declared.found_or_trap.Trap.{Trap}
use Rattle.walk.specs.declared.walking.Progress.{Progress}
use Rattle.walk.specs.declared.walking.Progress.TheVariants as progress
use Rattle.walk.specs.Answer.{answer_at}
use Rattle.walk.specs.Stage.{Stage, start_of, OnPath}
use Rattle.walk.specs.Loads.{finish, answer_after, GoesOn}
use Rattle.walk.specs.Step.{load_of}
use Rattle.walk.specs.Leads.{Tables, word_at, Leads, IsGlobalAt}
use Rattle.walk.specs.Outcome.{Ends, Outcome}
use Rattle.pte.specs.Address.{IsCanonical, level_count}
use Rattle.walk.proofs.Paths.{same_word}
use Rattle.walk.proofs.Ending.{goes-on, on_path-start, outcome-same}

-- two Bools that are true alike are one
pub same_bool : (a b : Bool) → (IsTrue a ↔ IsTrue b) → a ≡ b
same_bool true true h = refl
same_bool false false h = refl
same_bool true false h = sym (h.0 refl)
same_bool false true h = h.1 refl

module _ (scheme : Scheme) (words : Tables) (root va : ℕ) (access : Access) (ctx : Ctx) where
  ends-unique : (a b : Result Found Trap) → Ends scheme words root va access ctx a → Ends scheme words root va access ctx b → a ≡ b
  ends-unique a b p q =
      let levels : p.level ≡ q.level = let le = p.lowest q.level q.table q.word q.leads in let ge = q.lowest p.level p.table p.word p.leads in omega arith in
      let leads : Leads scheme words root va q.level p.table p.word = subst (λ k. Leads scheme words root va k p.table p.word) levels p.leads in
      let word : p.word ≡ q.word = same_word scheme words root va q.level p.table q.table p.word q.word leads q.leads in
      let global : p.global ≡ q.global = same_bool p.global q.global (
        (λ h. q.is_global.1 (subst (IsGlobalAt scheme words root va) levels (p.is_global.0 h))),
        (λ h. p.is_global.1 (subst (IsGlobalAt scheme words root va) (sym levels) (q.is_global.0 h))),
      ) in
      p.is ∙ ap (λ k. answer_at va access ctx k p.global p.word) levels ∙ ap (λ g. answer_at va access ctx q.level g p.word) global
      ∙ ap (λ w. answer_at va access ctx q.level q.global w) word ∙ sym q.is

  pub outcome_unique : (a b : Result Found Trap) → Outcome scheme words root va access ctx a → Outcome scheme words root va access ctx b → a ≡ b
  outcome_unique a b (inl p) (inl q) = p.1 ∙ sym q.1
  outcome_unique a b (inl p) (inr q) = absurd (p.0 q.0)
  outcome_unique a b (inr p) (inl q) = absurd (q.0 p.0)
  outcome_unique a b (inr p) (inr q) = ends-unique a b p.1 q.1

module _ (scheme : Scheme) (words : Tables) (root : ℕ) where
  finish-outcome : (s : Stage) (go : Stage → Result Found Trap) (made : Progress) → GoesOn scheme words root s made
      → ((next : Stage) → OnPath scheme words root next → next.level + 1 ≡ s.level → Outcome scheme words root next.va next.access next.ctx (go next))
      → Outcome scheme words root s.va s.access s.ctx (finish go made)
  finish-outcome s go (progress.More next) goes more = outcome-same scheme words root next s.va s.access s.ctx (go next) goes.2 (more next goes.0 goes.1)
  finish-outcome s go (progress.Found found) goes more = goes
  finish-outcome s go (progress.Trap trap) goes more = goes

  pub computes : (n : ℕ) (s : Stage) → OnPath scheme words root s → s.level < n → Outcome scheme words root s.va s.access s.ctx (answer_after n words s)
  computes zero s on lt = absurd (omega arith)
  computes (suc n) s on lt =
      finish-outcome s (answer_after n words) (load_of s (word_at words s.va s.level s.table)) (goes-on scheme words root s _ on refl)
      (λ next further below. computes n next further (omega arith))

  -- so a walk on its path gives the outcome, and there is no other
  pub outcome_computed : (n : ℕ) (s : Stage) (answer : Result Found Trap) → OnPath scheme words root s → s.level < n → Outcome scheme words root s.va s.access s.ctx answer ↔ (answer ≡ answer_after n words s)
  outcome_computed n s answer on lt = (
    (λ is. outcome_unique scheme words root s.va s.access s.ctx answer _ is (computes n s on lt)),
    (λ e. subst (Outcome scheme words root s.va s.access s.ctx) (sym e) (computes n s on lt)),
  )

  -- as many loads as there are levels
  pub level_count_loads : (va : ℕ) (access : Access) (ctx : Ctx) (answer : Result Found Trap) → IsCanonical scheme va → Outcome scheme words root va access ctx answer ↔ (answer ≡ answer_after (level_count scheme) words (start_of scheme root va access ctx))
  level_count_loads va access ctx answer canonical = outcome_computed (level_count scheme) (start_of scheme root va access ctx) answer (on_path-start scheme words root va access ctx canonical) (omega arith)
