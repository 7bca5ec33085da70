-- The lines of the steps of `walk`: there is one text, and it is written line by line.
use Rattle.pte.specs.declared.scheme.Scheme.{Scheme}
use Rattle.std.proofs.Common.{codes, ◌≡◌, ℕ, ◌+◌, ◌<◌, true, false, Result, Err, List, [], ◌∷◌, ◌++◌, length, get_or, drop, refl, sym, ap, ◌∙◌, inl, inr, ◌⊎◌, append_assoc, append-nil, arith}
use Rattle.std.proofs.lemmas.List.{drop_more}
use Rattle.std.proofs.Math.Seq.{drop-length}
use Rattle.pte.specs.declared.permission.Access.{Access}
use Rattle.pte.specs.declared.permission.Ctx.{Ctx}
use Rattle.std.proofs.lemmas.Bool.{cases_Bool}
use Rattle.pte.specs.Address.{IsCanonical, is_canonical, level_count}
use Rattle.pte.proofs.Schemes.{is_canonical-IsCanonical}
use Rattle.walk.specs.Answer.{page_trap}
use Rattle.walk.specs.Loads.{answer_after}
use Rattle.walk.specs.Stage.{start_of}
use Rattle.walk.specs.declared.found_or_trap.Why.TheVariants.{NotCanonical}
use Rattle.walk.proofs.Ending.{on_path-start}
use Rattle.walk.specs.Leads.{Tables}
use Rattle.walk.specs.Outcome.{Outcome}
use Rattle.walk.specs.declared.found_or_trap.Found.{Found}
use Rattle.walk.specs.declared.found_or_trap.Trap.{Trap}
use Rattle.walk.proofs.Unique.{computes, outcome_unique}
use Rattle.steps.specs.declared.step.WalkStep.{WalkStep}
use Rattle.lines.specs.AnswerLines.{line_of, WritesLines}

-- steps write one text
pub one_lines : (scheme : Scheme) (words : Tables) (root n : ℕ) (steps : List WalkStep) (a b : List ℕ) → WritesLines scheme words root n steps a → WritesLines scheme words root n steps b → a ≡ b
one_lines scheme words root n [] a b p q = p ∙ sym q
one_lines scheme words root n (step ∷ steps) a b (x, front, is, text, more) (y, rest, same, other, others) =
    text ∙ ap (λ r. line_of n r ++ front) (outcome_unique scheme words root step.va step.access step.ctx x y is same)
    ∙ ap (λ r. line_of n y ++ r) (one_lines scheme words root (n + 1) steps front rest more others) ∙ sym other

-- what is written so far, and any text of the steps from i on, are a text of all steps
abbrev pub LinesSoFar : Scheme → Tables → ℕ → List WalkStep → ℕ → List ℕ → Type 0
LinesSoFar scheme words root steps i front = (rest : List ℕ) → WritesLines scheme words root (i + 1) (drop i steps) rest → WritesLines scheme words root 1 steps (front ++ rest)

pub lines_more : (scheme : Scheme) (words : Tables) (root : ℕ) (steps : List WalkStep) (i : ℕ) (front new : List ℕ) (d : WalkStep) (answer : Result Found Trap) → i < length steps
    → Outcome scheme words root (get_or steps i d).va (get_or steps i d).access (get_or steps i d).ctx answer → new ≡ front ++ line_of (i + 1) answer
    → LinesSoFar scheme words root steps i front → LinesSoFar scheme words root steps (i + 1) new
lines_more scheme words root steps i front new d answer lt is e so_far rest more =
    rw (e, append_assoc front (line_of (i + 1) answer) rest)
    (so_far (line_of (i + 1) answer ++ rest) (rw (drop_more steps i d lt) (answer, rest, is, refl, more)))

pub lines_end : (scheme : Scheme) (words : Tables) (root : ℕ) (steps : List WalkStep) (front : List ℕ) → LinesSoFar scheme words root steps (length steps) front → WritesLines scheme words root 1 steps front
lines_end scheme words root steps front so_far =
    rw (← append-nil front) (so_far [] (rw (drop-length steps) refl))

-- ---- there is a text

canonical_or_not : (scheme : Scheme) (va : ℕ) → IsCanonical scheme va ⊎ (¬ IsCanonical scheme va)
canonical_or_not scheme va =
    elim (cases_Bool (is_canonical scheme va)) [
      | inl on ↦ inl ((is_canonical-IsCanonical scheme va).0 on)
      | inr off ↦ inr (λ canonical. let bad : true ≡ false = sym ((is_canonical-IsCanonical scheme va).1 canonical) ∙ off in cc)
    ]

some_outcome : (scheme : Scheme) (words : Tables) (root va : ℕ) (access : Access) (ctx : Ctx) → (answer : Result Found Trap) × Outcome scheme words root va access ctx answer
some_outcome scheme words root va access ctx =
    elim (canonical_or_not scheme va) [
      | inl canonical ↦ (answer_after (level_count scheme) words (start_of scheme root va access ctx), computes scheme words root (level_count scheme) (start_of scheme root va access ctx) (on_path-start scheme words root va access ctx canonical) (omega arith))
      | inr not ↦ (Err (page_trap access NotCanonical), inl (not, refl))
    ]

pub some_lines : (scheme : Scheme) (words : Tables) (root n : ℕ) (steps : List WalkStep) → (lines : List ℕ) × WritesLines scheme words root n steps lines
some_lines scheme words root n [] = ([], refl)
some_lines scheme words root n (step ∷ steps) =
    let first = some_outcome scheme words root step.va step.access step.ctx in
    let rest = some_lines scheme words root (n + 1) steps in
    (line_of n first.0 ++ rest.0, (first.0, rest.0, first.1, refl, rest.1))

-- pieces that were added one after another are the line of what was found
pub found_line : (o d h z g : List ℕ) → o ++ d ++ codes " pa 0x" ++ h ++ codes " " ++ z ++ g ++ codes "\n"
    ≡ o ++ (d ++ codes " " ++ (codes "pa " ++ (codes "0x" ++ h) ++ codes " " ++ z ++ g) ++ codes "\n")
found_line o d h z g =
    let n = codes "\n" in
    let s = codes " " in
    let p = codes " pa 0x" in
    let a = codes "pa " ++ (codes "0x" ++ h) ++ s ++ z ++ g in
    let left : o ++ d ++ p ++ h ++ s ++ z ++ g ++ n ≡ o ++ (d ++ (p ++ (h ++ (s ++ (z ++ (g ++ n)))))) =
    append_assoc (o ++ d ++ p ++ h ++ s ++ z) g n
    ∙ append_assoc (o ++ d ++ p ++ h ++ s) z (g ++ n)
    ∙ append_assoc (o ++ d ++ p ++ h) s (z ++ (g ++ n))
    ∙ append_assoc (o ++ d ++ p) h (s ++ (z ++ (g ++ n)))
    ∙ append_assoc (o ++ d) p (h ++ (s ++ (z ++ (g ++ n))))
    ∙ append_assoc o d (p ++ (h ++ (s ++ (z ++ (g ++ n))))) in
    let page : h ++ s ++ z ++ g ++ n ≡ h ++ (s ++ (z ++ (g ++ n))) =
    append_assoc (h ++ s ++ z) g n ∙ append_assoc (h ++ s) z (g ++ n) ∙ append_assoc h s (z ++ (g ++ n)) in
    let right : d ++ s ++ a ++ n ≡ d ++ (p ++ (h ++ (s ++ (z ++ (g ++ n))))) =
    append_assoc (d ++ s) a n ∙ append_assoc d s (a ++ n) ∙ ap (λ (t : List ℕ). d ++ (p ++ t)) page in
    left ∙ sym (ap (λ (t : List ℕ). o ++ t) right)
