-- A walk that stands on the path answers what the path leads to.
use Rattle.std.proofs.Common.{◌≡◌, ℕ, ◌+◌, ◌-◌, cond, Bool, true, false, Option, Some, None, Result, Ok, Err, IsTrue, ap, sym, ◌∙◌, subst, refl, inl, inr, arith}
use Rattle.std.specs.Prelude.{◌↔◌, ◌||◌, ◌==◌}
use Rattle.std.proofs.lemmas.Bool.{cases_lt, eqb-true, eqb-false, cond_both}
use Rattle.pte.specs.declared.scheme.Scheme.{Scheme}
use Rattle.pte.specs.declared.permission.Access.{Access}
use Rattle.pte.specs.declared.permission.Ctx.{Ctx}
use Rattle.pte.specs.declared.entry.Kind.{Kind}
use Rattle.pte.specs.declared.entry.Kind.TheVariants as kinds
use Rattle.pte.specs.Address.{IsCanonical, vpn_of}
use Rattle.pte.specs.Entry.{kind_of, is_global}
use Rattle.pte.proofs.EntryKinds.{Table-global, Leaf-global}
use Rattle.walk.specs.declared.found_or_trap.Found.{Found}
use Rattle.walk.specs.declared.found_or_trap.Trap.{Trap}
use Rattle.walk.specs.declared.walking.Progress.{Progress}
use Rattle.walk.specs.declared.walking.Progress.TheVariants as progress
use Rattle.walk.specs.Pointers.{pointed, pointed_kind}
use Rattle.walk.specs.Answer.{answer_at, kind_answer, leaf_answer}
use Rattle.walk.specs.Stage.{Stage, start_of, OnPath, IsFor}
use Rattle.walk.specs.Loads.{GoesOn}
use Rattle.std.specs.declared.ops.ControlFlow.TheVariants.{Continue, Break}
use Rattle.walk.specs.Step.{ended, flow_of, step_of, load_of}
use Rattle.walk.specs.Leads.{Tables, word_at, PointsTo, Leads, IsGlobalAt}
use Rattle.walk.specs.Outcome.{Outcome}
use Rattle.walk.proofs.Paths.{leads-start, leads-below, through, none_above, global-here, global-none}

module _ (scheme : Scheme) (words : Tables) (root : ℕ) where
  goes-ended : (s : Stage) (answer : Result Found Trap) → Outcome scheme words root s.va s.access s.ctx answer → GoesOn scheme words root s (ended answer)
  goes-ended s (Ok found) h = h
  goes-ended s (Err trap) h = h

  -- a word that is no pointer, or stands at level 0, ends the path
  ends-at : (s : Stage) (w : Option ℕ) (global : Bool) → OnPath scheme words root s → w ≡ word_at words s.va s.level s.table → ((next : ℕ) → PointsTo w next → s.level ≡ 0) → (IsTrue global ↔ IsGlobalAt scheme words root s.va s.level) → Outcome scheme words root s.va s.access s.ctx (answer_at s.va s.access s.ctx s.level global w)
  ends-at s w global on is last known =
      let path = subst (Leads scheme words root s.va s.level s.table) (sym is) on.leads in
      inr (
        on.canonical,
        record {
          level = s.level;
          table = s.table;
          word = w;
          global = global;
          leads = path;
          lowest = λ j b v other.
              elim (cases_lt j s.level) [
                | inl lower ↦
                    let next = through scheme words root s.va s.level j s.table b w v lower path other in
                    omega (arith, last next.0 next.1)
                | inr not_lower ↦ not_lower
              ];
          is_global = known;
          is = refl;
        },
      )

  goes-none : (s : Stage) → OnPath scheme words root s → None ≡ word_at words s.va s.level s.table → GoesOn scheme words root s (load_of s None)
  goes-none s on is =
      ends-at s None s.global on is (λ next p. let e = p.is in cc) (global-none scheme words root s.va s.level s.table s.global (subst (Leads scheme words root s.va s.level s.table) (sym is) on.leads) on.global)

  module _ (s : Stage) (entry : ℕ) (on : OnPath scheme words root s) (is : Some entry ≡ word_at words s.va s.level s.table) where
    path_here : Leads scheme words root s.va s.level s.table (Some entry)
    path_here = subst (Leads scheme words root s.va s.level s.table) (sym is) on.leads

    -- the answer for a word of this kind, where that is no pointer to go to
    ends-kind : (kind : Kind) → kind_of entry ≡ kind → ((next : ℕ) (g : Bool) → kind ≡ kinds.Table next g → s.level ≡ 0) → Outcome scheme words root s.va s.access s.ctx (kind_answer s.va s.access s.ctx s.level (s.global || is_global entry) kind)
    ends-kind kind of last =
        subst (λ k. Outcome scheme words root s.va s.access s.ctx (kind_answer s.va s.access s.ctx s.level (s.global || is_global entry) k)) of
        (ends-at s (Some entry) (s.global || is_global entry) on is
        (λ next p. let same : entry ≡ p.entry = let e = p.is in cc in last next p.global (sym of ∙ ap kind_of same ∙ p.kind))
        (global-here scheme words root s.va s.level s.table entry s.global path_here on.global))

    goes-table : (ppn : ℕ) (global : Bool) (level : ℕ) → s.level ≡ level + 1 → kind_of entry ≡ kinds.Table ppn global → OnPath scheme words root (record s { level = level; table = ppn; global = s.global || global })
    goes-table ppn global level at of =
        let path : Leads scheme words root s.va (level + 1) s.table (Some entry) = subst (λ k. Leads scheme words root s.va k s.table (Some entry)) at path_here in
        let known : IsTrue (s.global || is_global entry) ↔ IsGlobalAt scheme words root s.va s.level = global-here scheme words root s.va s.level s.table entry s.global path_here on.global in
        let named = Table-global entry ppn global of in
        record {
          canonical = on.canonical;
          leads = leads-below scheme words root s.va level s.table entry ppn global path of;
          global = subst (λ g. IsTrue (s.global || g) ↔ IsGlobalAt scheme words root s.va (level + 1)) named (subst (λ k. IsTrue (s.global || is_global entry) ↔ IsGlobalAt scheme words root s.va k) at known);
        }

    goes-kind : (kind : Kind) → kind_of entry ≡ kind → GoesOn scheme words root s (step_of s kind)
    goes-kind kinds.Invalid of = ends-kind kinds.Invalid of (λ next g e. cc)
    goes-kind kinds.Reserved of = ends-kind kinds.Reserved of (λ next g e. cc)
    goes-kind (kinds.Table ppn global) of =
        cond_both (s.level == 0) _ _ (GoesOn scheme words root s)
        (λ e. ends-kind (kinds.Table ppn global) of (λ next g k. eqb-true s.level 0 e))
        (λ e.
        let up : s.level ≡ s.level - 1 + 1 = let ne = eqb-false s.level 0 e in omega arith in
        (goes-table ppn global (s.level - 1) up of, omega arith, record { same_va = refl; same_access = refl; same_ctx = refl }))
    goes-kind (kinds.Leaf ppn flags) of =
        subst (λ g. GoesOn scheme words root s (ended (leaf_answer s.va s.access s.ctx s.level (s.global || g) ppn flags))) (sym (Leaf-global entry ppn flags of))
        (goes-ended s _ (ends-kind (kinds.Leaf ppn flags) of (λ next g e. cc)))

  pub goes-on : (s : Stage) (w : Option ℕ) → OnPath scheme words root s → w ≡ word_at words s.va s.level s.table → GoesOn scheme words root s (load_of s w)
  goes-on s None on is = goes-none s on is
  goes-on s (Some entry) on is = goes-kind s entry on is (kind_of entry) refl

  pub on_path-start : (va : ℕ) (access : Access) (ctx : Ctx) → IsCanonical scheme va → OnPath scheme words root (start_of scheme root va access ctx)
  on_path-start va access ctx canonical = record {
    canonical = canonical;
    leads = leads-start scheme words root va;
    global = ((λ h. cc), (λ g. absurd (none_above scheme words root va g)));
  }

-- what a load makes of the word that a walk asked for
pub goes-load : (scheme : Scheme) (words : Tables) (root : ℕ) (s : Stage) (w : Option ℕ) (ppn index : ℕ) (made : Progress) → OnPath scheme words root s → w ≡ words ppn index → ppn ≡ s.table → index ≡ vpn_of s.va s.level → made ≡ load_of s w → GoesOn scheme words root s made
goes-load scheme words root s w ppn index made on told at by is =
    subst (GoesOn scheme words root s) (sym is) (goes-on scheme words root s w on (told ∙ ap (λ p. words p index) at ∙ ap (words s.table) by))

-- where the walk does not go on, what it ends with is the outcome
pub goes-over : (scheme : Scheme) (words : Tables) (root : ℕ) (s : Stage) (made : Progress)
    (answer : Result Found Trap) → GoesOn scheme words root s made → flow_of made ≡ Break answer
    → Outcome scheme words root s.va s.access s.ctx answer
goes-over scheme words root s (progress.More next) answer goes over = cc
goes-over scheme words root s (progress.Found found) answer goes over =
    let same : Ok found ≡ answer = cc in
    subst (Outcome scheme words root s.va s.access s.ctx) same goes
goes-over scheme words root s (progress.Trap trap) answer goes over =
    let same : Err trap ≡ answer = cc in
    subst (Outcome scheme words root s.va s.access s.ctx) same goes

pub goes-further : (scheme : Scheme) (words : Tables) (root : ℕ) (s : Stage) (made : Progress)
    (next : Stage) → GoesOn scheme words root s made → flow_of made ≡ Continue next
    → GoesOn scheme words root s (progress.More next)
goes-further scheme words root s (progress.More one) next goes on =
    let same : one ≡ next = cc in
    subst (λ (n : Stage). GoesOn scheme words root s (progress.More n)) same goes
goes-further scheme words root s (progress.Found found) next goes on = cc
goes-further scheme words root s (progress.Trap trap) next goes on = cc

pub outcome-same : (scheme : Scheme) (words : Tables) (root : ℕ) (s : Stage) (va : ℕ) (access : Access) (ctx : Ctx) (answer : Result Found Trap) → IsFor s va access ctx → Outcome scheme words root s.va s.access s.ctx answer → Outcome scheme words root va access ctx answer
outcome-same scheme words root s va access ctx answer same h =
    subst (λ c. Outcome scheme words root va access c answer) same.same_ctx
    (subst (λ a. Outcome scheme words root va a s.ctx answer) same.same_access
    (subst (λ v. Outcome scheme words root v s.access s.ctx answer) same.same_va h))

pub same-access : (next s : Stage) (va : ℕ) (access : Access) (ctx : Ctx) → IsFor next s.va s.access s.ctx → IsFor s va access ctx → IsFor next va access ctx
same-access next s va access ctx a b = record { same_va = a.same_va ∙ b.same_va; same_access = a.same_access ∙ b.same_access; same_ctx = a.same_ctx ∙ b.same_ctx }

-- a walk goes on where a word points
ended-ends : (r : Result Found Trap) (next : Stage) → ended r ≡ progress.More next → ⊥
ended-ends (Ok found) next e = cc
ended-ends (Err trap) next e = cc

more-kind : (s : Stage) (kind : Kind) (next : Stage) → step_of s kind ≡ progress.More next → pointed_kind kind ≡ Some next.table
more-kind s kinds.Invalid next e = absurd (ended-ends (kind_answer s.va s.access s.ctx s.level s.global kinds.Invalid) next e)
more-kind s kinds.Reserved next e = absurd (ended-ends (kind_answer s.va s.access s.ctx s.level s.global kinds.Reserved) next e)
more-kind s (kinds.Leaf ppn flags) next e = absurd (ended-ends _ next e)
more-kind s (kinds.Table ppn global) next e = by-level (s.level == 0) (kind_answer s.va s.access s.ctx s.level s.global (kinds.Table ppn global)) e
  where
    below : Stage
    below = record { va = s.va; access = s.access; ctx = s.ctx; level = s.level - 1; table = ppn; global = s.global || global }

    by-level : (b : Bool) (r : Result Found Trap) → cond b (ended r) (progress.More below) ≡ progress.More next → Some ppn ≡ Some next.table
    by-level true r e = absurd (ended-ends r next e)
    by-level false r e = let same : below ≡ next = cc in ap (λ (x : Stage). Some x.table) same

pub more-points : (s : Stage) (word : ℕ) (next : Stage) → load_of s (Some word) ≡ progress.More next → pointed (Some word) ≡ Some next.table
more-points s word next e = more-kind s (kind_of word) next e
