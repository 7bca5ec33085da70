-- What a load makes of a walk on its path, by the number of loads that it has made.
use Rattle.std.proofs.Common.{◌≡◌, ℕ, suc, ◌+◌, ◌-◌, ◌<◌, ◌⊎◌, true, false, ltb, Option, Some, None, Result, Ok, Err, ap, sym, ◌∙◌, subst, refl, inl, inr, arith}
use Rattle.std.specs.Prelude.{◌==◌, ◌&&◌, ◌||◌, is_some}
use Rattle.std.proofs.lemmas.Bool.{cases_lt, cond_both, eqb-true, eqb-false, and_left, and_right, le-ltb, lt-ltb}
use Rattle.pte.specs.declared.scheme.Scheme.{Scheme}
use Rattle.pte.specs.declared.entry.Kind.{Kind}
use Rattle.pte.specs.declared.entry.Kind.TheVariants as kinds
use Rattle.pte.specs.Address.{level_count, top_level}
use Rattle.pte.specs.Entry.{kind_of, is_global}
use Rattle.walk.specs.declared.found_or_trap.Found.{Found}
use Rattle.walk.specs.declared.found_or_trap.Trap.{Trap}
use Rattle.walk.specs.declared.walking.Progress.{Progress}
use Rattle.walk.specs.declared.walking.Progress.TheVariants as progress
use Rattle.walk.specs.Answer.{kind_answer, outside_trap}
use Rattle.walk.specs.Leads.{Tables, word_at}
use Rattle.walk.specs.Loads.{GoesOn, answer_after}
use Rattle.walk.specs.Outcome.{Outcome}
use Rattle.walk.specs.Pointers.{goes_on, next_table, pointed, pointed_kind, table_after}
use Rattle.walk.specs.Stage.{IsFor, OnPath, Stage, start_of}
use Rattle.walk.specs.Step.{ended, load_of, step_of}
use Rattle.walk.proofs.Downward.{after-leads}
use Rattle.walk.proofs.Ending.{goes-on}
use Rattle.walk.proofs.Unique.{level_count_loads}

-- a load makes a further walk at a pointer above level 0, and ends the walk at anything else
record IsMore (s : Stage) (points : Option ℕ) (made : Progress) : Type 0 where
  next : Stage
  is : made ≡ progress.More next
  level : 0 < s.level
  table : points ≡ Some next.table

record IsEnd (s : Stage) (points : Option ℕ) (made : Progress) : Type 0 where
  answer : Result Found Trap
  is : made ≡ ended answer
  stops : (ltb 0 s.level && is_some points) ≡ false

step-cases : (s : Stage) (kind : Kind) → IsMore s (pointed_kind kind) (step_of s kind) ⊎ IsEnd s (pointed_kind kind) (step_of s kind)
step-cases s kinds.Invalid = inr (record { answer = kind_answer s.va s.access s.ctx s.level s.global kinds.Invalid; is = refl; stops = and_right (ltb 0 s.level) false refl })
step-cases s kinds.Reserved = inr (record { answer = kind_answer s.va s.access s.ctx s.level s.global kinds.Reserved; is = refl; stops = and_right (ltb 0 s.level) false refl })
step-cases s (kinds.Leaf ppn flags) = inr (record {
  answer = kind_answer s.va s.access s.ctx s.level (s.global || is_global flags.0) (kinds.Leaf ppn flags);
  is = refl;
  stops = and_right (ltb 0 s.level) false refl;
})
step-cases s (kinds.Table ppn global) =
    cond_both (s.level == 0) _ _ (λ made. IsMore s (Some ppn) made ⊎ IsEnd s (Some ppn) made)
    (λ e.
    let low = eqb-true s.level 0 e in
    inr (record { answer = kind_answer s.va s.access s.ctx s.level s.global (kinds.Table ppn global); is = refl; stops = and_left (ltb 0 s.level) true (le-ltb 0 s.level (omega arith)) }))
    (λ e.
    let high = eqb-false s.level 0 e in
    inl (record { next = record s { level = s.level - 1; table = ppn; global = s.global || global }; is = refl; level = omega arith; table = refl }))

load-cases : (s : Stage) (w : Option ℕ) → IsMore s (pointed w) (load_of s w) ⊎ IsEnd s (pointed w) (load_of s w)
load-cases s None = inr (record { answer = Err (outside_trap s.access); is = refl; stops = and_right (ltb 0 s.level) false refl })
load-cases s (Some entry) = step-cases s (kind_of entry)

module _ (scheme : Scheme) (words : Tables) (root loads : ℕ) (s : Stage) (on : OnPath scheme words root s) (made_so_far : s.level + loads ≡ top_level scheme) where
  abbrev here : Option ℕ
  here = word_at words s.va s.level s.table

  points-next : table_after scheme words root s.va (suc loads) ≡ pointed here
  points-next =
      let level : top_level scheme - loads ≡ s.level = omega arith in
      ap (next_table words s.va (top_level scheme - loads)) (after-leads scheme words root s.va loads s.level s.table here made_so_far on.leads ∙ ap Some on.leads.last)
      ∙ ap (λ k. pointed (word_at words s.va k s.table)) level

  loads-left : ltb loads (top_level scheme) ≡ ltb 0 s.level
  loads-left =
      elim (cases_lt 0 s.level) [
        | inl more ↦ lt-ltb loads (top_level scheme) (omega arith) ∙ sym (lt-ltb 0 s.level more)
        | inr done ↦ le-ltb loads (top_level scheme) (omega arith) ∙ sym (le-ltb 0 s.level done)
      ]

  goes_on-here : goes_on scheme words root s.va loads ≡ (ltb 0 s.level && is_some (pointed here))
  goes_on-here = ap (λ b. b && is_some (table_after scheme words root s.va (suc loads))) loads-left ∙ ap (λ o. ltb 0 s.level && is_some o) points-next

  made-outcome : (answer : Result Found Trap) → GoesOn scheme words root s (ended answer) → Outcome scheme words root s.va s.access s.ctx answer
  made-outcome (Ok found) h = h
  made-outcome (Err trap) h = h

  end-answer : IsEnd s (pointed here) (load_of s here) → load_of s here ≡ ended (answer_after (level_count scheme) words (start_of scheme root s.va s.access s.ctx))
  end-answer e =
      let outcome = made-outcome e.answer (subst (GoesOn scheme words root s) e.is (goes-on scheme words root s here on refl)) in
      e.is ∙ ap ended ((level_count_loads scheme words root s.va s.access s.ctx e.answer on.canonical).0 outcome)

  pub load_goes_on : goes_on scheme words root s.va loads ≡ true → (next : Stage) × (load_of s here ≡ progress.More next) × OnPath scheme words root next × (next.level + (loads + 1) ≡ top_level scheme) × IsFor next s.va s.access s.ctx
  load_goes_on goes =
      elim (load-cases s here) [
        | inl m ↦
            let on_from = subst (GoesOn scheme words root s) m.is (goes-on scheme words root s here on refl) in
            let level = on_from.1 in
            (m.next, m.is, on_from.0, omega arith, on_from.2)
        | inr e ↦ let no : true ≡ false = sym goes ∙ goes_on-here ∙ e.stops in cc
      ]

  pub load_ends : goes_on scheme words root s.va loads ≡ false → load_of s here ≡ ended (answer_after (level_count scheme) words (start_of scheme root s.va s.access s.ctx))
  load_ends stops =
      elim (load-cases s here) [
        | inl m ↦
            let both : (ltb 0 s.level && is_some (pointed here)) ≡ true = ap (λ o. ltb 0 s.level && is_some o) m.table ∙ ap (λ b. b && true) (lt-ltb 0 s.level m.level) in
            let no : true ≡ false = sym both ∙ sym goes_on-here ∙ stops in
            cc
        | inr e ↦ end-answer e
      ]
