-- The lines of one record more.
use Rattle.std.proofs.Common.{◌≡◌, ◌≢◌, true, false, eqb, ℕ, ◌+◌, ◌-◌, ◌≤◌, ◌<◌, ◌^◌, zero, suc, List, [], ◌∷◌, ◌++◌, cond, length, get_or, ◌⊎◌, inl, inr, ne_eqb, refl, sym, ap, subst, ◌∙◌, arith, length-append}
use Rattle.std.specs.Prelude.{◌%◌, nat_le}
use Rattle.std.proofs.Math.Nat.{mod-add-mod, mod-eq_of_lt}
use Rattle.std.proofs.lemmas.Bool.{cases_lt, cond-false, cond-true}
use Rattle.std.proofs.lemmas.Bool.Decides.{eqb_tells, nat_tests}
use Rattle.std.proofs.lemmas.List.{get_or_append_left, get_or_push}
use Rattle.std.specs.List.Sorted.{IsNonDecreasingBy}
use Rattle.std.proofs.lemmas.List.Sorted.{IsNonDecreasingBy-push}
use Rattle.watch_report.specs.declared.lines.Run.{Run}
use Rattle.watch_report.specs.LineNumbers.{AreRuns, EndsBefore, IsNext, behind, line_by, line_from}
use Rattle.watch_report.specs.TraceText.{Noted, line_at}

-- ---- whether a run begins at a record or before it

found_here : (run : Run) (runs : List Run) (found number : ℕ) → run.first ≤ number → line_by found (run ∷ runs) number ≡ line_by (line_from run number) runs number
found_here run runs found number here =
    let is : nat_le run.first number ≡ true = grind (arith, nat_tests) in
    ap (λ b. line_by (cond b (line_from run number) found) runs number) is

found_later : (run : Run) (runs : List Run) (found number : ℕ) → number < run.first → line_by found (run ∷ runs) number ≡ line_by found runs number
found_later run runs found number later =
    let is : nat_le run.first number ≡ false = grind (arith, nat_tests) in
    ap (λ b. line_by (cond b (line_from run number) found) runs number) is

-- by the last of so many runs, or else what was found
abbrev behind_or : ℕ → Run → List Run → ℕ → ℕ → ℕ
behind_or found d runs zero number = found
behind_or found d runs (suc place) number = line_from (get_or runs place d) number

by_place : (found : ℕ) (d : Run) (runs : List Run) (place number : ℕ) → EndsBefore number runs place → place ≤ length runs → line_by found runs number ≡ behind_or found d runs place number
by_place found d [] zero number ends within = refl
by_place found d [] (suc place) number ends within = absurd (omega (arith, within))
by_place found d (run ∷ runs) zero number ends within =
    found_later run runs found number (ends.1 0 d (omega arith) (omega arith))
    ∙ by_place found d runs zero number ((λ k e from before. absurd (omega (arith, before))), (λ k e from among. ends.1 (suc k) e (omega arith) (omega (arith, among)))) (omega arith)
by_place found d (run ∷ runs) (suc zero) number ends within =
    found_here run runs found number (ends.0 0 d (omega arith) (omega arith))
    ∙ by_place (line_from run number) d runs zero number ((λ k e from before. absurd (omega (arith, before))), (λ k e from among. ends.1 (suc k) e (omega arith) (omega (arith, among)))) (omega arith)
by_place found d (run ∷ runs) (suc (suc place)) number ends within =
    found_here run runs found number (ends.0 0 d (omega arith) (omega arith))
    ∙ by_place (line_from run number) d runs (suc place) number ((λ k e from before. ends.0 (suc k) e (omega arith) (omega (arith, before))), (λ k e from among. ends.1 (suc k) e (omega (arith, from)) (omega (arith, among)))) (omega (arith, within))

zero_or : (d : Run) (runs : List Run) (place number : ℕ) → behind_or 0 d runs place number ≡ behind d runs place number
zero_or d runs zero number = refl
zero_or d runs (suc place) number = refl

pub line_by_place : (d : Run) (runs : List Run) (place number : ℕ) → EndsBefore number runs place → place ≤ length runs → line_by 0 runs number ≡ behind d runs place number
line_by_place d runs place number ends within = by_place 0 d runs place number ends within ∙ zero_or d runs place number

-- ---- one run more

by_last : (found : ℕ) (runs : List Run) (run : Run) (number : ℕ) → run.first ≤ number → line_by found (runs ++ run ∷ []) number ≡ line_from run number
by_last found [] run number here = found_here run [] found number here
by_last found (r ∷ runs) run number here = by_last (cond (nat_le r.first number) (line_from r number) found) runs run number here

by_others : (found : ℕ) (runs : List Run) (run : Run) (number : ℕ) → number < run.first → line_by found (runs ++ run ∷ []) number ≡ line_by found runs number
by_others found [] run number later = found_later run [] found number later
by_others found (r ∷ runs) run number later = by_others (cond (nat_le r.first number) (line_from r number) found) runs run number later

abbrev pub run_at : ℕ → ℕ → Run
run_at first line = record { first = first; line = line }

first_line : (first line : ℕ) → line < 2 ^ 64 → line_from (run_at first line) first ≡ line
unfolding line_from
first_line first line less =
    let none : line + (first - first) ≡ line = omega arith in
    ap (λ n. n % 2 ^ 64) none ∙ mod-eq_of_lt less

-- ---- the line of each record, and of none

line_of_newest : (newest : Noted) (records : List Noted) (number : ℕ) → eqb number (suc (length records)) ≡ true → line_at (newest ∷ records) number ≡ newest.line
line_of_newest newest records number is = cond-true (eqb number (suc (length records))) newest.line (line_at records number) is

line_of_other : (newest : Noted) (records : List Noted) (number : ℕ) → eqb number (suc (length records)) ≡ false → line_at (newest ∷ records) number ≡ line_at records number
line_of_other newest records number other = cond-false (eqb number (suc (length records))) newest.line (line_at records number) other

pub no_line_at_zero : (records : List Noted) → line_at records 0 ≡ 0
no_line_at_zero [] = refl
no_line_at_zero (newest ∷ records) = line_of_other newest records 0 (ne_eqb 0 (suc (length records)) (λ is. omega (arith, is))) ∙ no_line_at_zero records

pub no_line_beyond : (records : List Noted) (number : ℕ) → length records < number → line_at records number ≡ 0
no_line_beyond [] number beyond = refl
no_line_beyond (newest ∷ records) number beyond =
    let other : eqb number (suc (length records)) ≡ false = grind (arith, nat_tests) in
    line_of_other newest records number other ∙ no_line_beyond records number (omega (arith, beyond))

-- ---- one record more

abbrev Tells : ℕ → ℕ → Type 0
Tells number last = ((eqb number last ≡ true) × (number ≡ last)) ⊎ ((eqb number last ≡ false) × (number ≢ last))

line_after : (next : List Run) (records : List Noted) (newest : Noted) (number : ℕ) → (number ≡ suc (length records) → line_by 0 next number ≡ newest.line)
    → (number ≤ length records → line_by 0 next number ≡ line_at records number) → number ≤ suc (length records) → Tells number (suc (length records))
    → line_by 0 next number ≡ line_at (newest ∷ records) number
line_after next records newest number last others within (inl (is, at)) = last at ∙ sym (line_of_newest newest records number is)
line_after next records newest number last others within (inr (is, other)) =
    let before : number ≤ length records = grind arith in
    others before ∙ sym (line_of_other newest records number is)

-- all runs begin at the newest record or before it
all_before : (records : List Noted) (count : ℕ) (runs : List Run) (number : ℕ) → AreRuns records count runs → length records ≤ number → EndsBefore number runs (length runs)
all_before records count runs number are least = ((λ k d from before. omega (arith, are.within k d before, least)), (λ k d from among. absurd (omega (arith, from, among))))

-- it stands right behind those of the last run
same_runs : (records : List Noted) (count : ℕ) (runs : List Run) (newest : Noted) (d : Run) → AreRuns records count runs → behind d runs (length runs) (count + 1) ≡ newest.line
    → AreRuns (newest ∷ records) (count + 1) runs
same_runs records count runs newest d are is =
    record {
      count_is = omega (arith, are.count_is);
      order = are.order;
      within = λ n e among. omega (arith, are.within n e among);
      line = λ number some most.
          let last : number ≡ suc (length records) → line_by 0 runs number ≡ newest.line =
          λ at. line_by_place d runs (length runs) number (all_before records count runs number are (omega (arith, at))) (omega arith)
          ∙ ap (behind d runs (length runs)) (omega (arith, at, are.count_is)) ∙ is in
          line_after runs records newest number last (λ before. are.line number some before) most (eqb_tells number (suc (length records)));
    }

-- or begins a run
new_run : (records : List Noted) (count : ℕ) (runs : List Run) (newest : Noted) → AreRuns records count runs → newest.line < 2 ^ 64
    → AreRuns (newest ∷ records) (count + 1) (runs ++ run_at (count + 1) newest.line ∷ [])
new_run records count runs newest are less =
    let run = run_at (count + 1) newest.line in
    record {
      count_is = omega (arith, are.count_is);
      order = IsNonDecreasingBy-push (λ (r : Run). r.first) runs run are.order (λ d some. omega (arith, are.within (length runs - 1) d (omega (arith, some)), are.count_is));
      within = λ n e among. first_within n e among (cases_lt n (length runs));
      line = λ number some most.
          let last : number ≡ suc (length records) → line_by 0 (runs ++ run ∷ []) number ≡ newest.line =
          λ at. by_last 0 runs run number (omega (arith, at, are.count_is)) ∙ ap (line_from run) (omega (arith, at, are.count_is)) ∙ first_line (count + 1) newest.line less in
          let others : number ≤ length records → line_by 0 (runs ++ run ∷ []) number ≡ line_at records number =
          λ before. by_others 0 runs run number (omega (arith, before, are.count_is)) ∙ are.line number some before in
          line_after (runs ++ run ∷ []) records newest number last others most (eqb_tells number (suc (length records)));
    }
  where
    first_within : (n : ℕ) (e : Run) → n < length (runs ++ run_at (count + 1) newest.line ∷ []) → (n < length runs) ⊎ (length runs ≤ n)
        → (get_or (runs ++ run_at (count + 1) newest.line ∷ []) n e).first ≤ suc (length records)
    first_within n e among (inl early) =
        omega (arith, ap (λ (r : Run). r.first) (get_or_append_left runs (run_at (count + 1) newest.line ∷ []) e n early), are.within n e early)
    first_within n e among (inr late) =
        let long : length (runs ++ run_at (count + 1) newest.line ∷ []) ≡ length runs + 1 = length-append runs (run_at (count + 1) newest.line ∷ []) in
        omega (arith, ap (λ (r : Run). r.first) (get_or_push runs (run_at (count + 1) newest.line) e n (omega (arith, long, late, among))), are.count_is)

abbrev no_run : Run
no_run = run_at 0 0

pub same_row : (records : List Noted) (count number : ℕ) (runs : List Run) (newest : Noted) (found place : ℕ) → AreRuns records count runs → number ≡ count + 1 → place ≡ length runs
    → ((d : Run) → found ≡ behind d runs place number) → found ≡ newest.line → AreRuns (newest ∷ records) number runs
same_row records count number runs newest found place are counts last by is =
    let at : behind no_run runs (length runs) (count + 1) ≡ newest.line = (λ j. behind no_run runs (sym last j) (sym counts j)) ∙ sym (by no_run) ∙ is in
    subst (λ n. AreRuns (newest ∷ records) n runs) (sym counts) (same_runs records count runs newest no_run are at)

pub new_row : (records : List Noted) (count number : ℕ) (runs next : List Run) (newest : Noted) → AreRuns records count runs → number ≡ count + 1 → next ≡ runs ++ run_at number newest.line ∷ []
    → newest.line < 2 ^ 64 → AreRuns (newest ∷ records) number next
new_row records count number runs next newest are counts is less =
    let same : runs ++ run_at (count + 1) newest.line ∷ [] ≡ next = ap (λ n. runs ++ run_at n newest.line ∷ []) (sym counts) ∙ sym is in
    subst (λ n. AreRuns (newest ∷ records) n next) (sym counts) (subst (AreRuns (newest ∷ records) (count + 1)) same (new_run records count runs newest are less))

-- ---- the line right behind the last run

line_from_next : (run : Run) (number line : ℕ) → run.first ≤ number → line_from run number ≡ line → (line + 1) % 2 ^ 64 ≡ line_from run (number + 1)
unfolding line_from
line_from_next run number line begun is =
    let more : run.line + (number - run.first) + 1 ≡ run.line + (number + 1 - run.first) = omega (arith, begun) in
    ap (λ n. (n + 1) % 2 ^ 64) (sym is) ∙ mod-add-mod (run.line + (number - run.first)) (2 ^ 64) 1 ∙ ap (λ n. n % 2 ^ 64) more

behind_next : (d : Run) (runs : List Run) (place number line : ℕ) → 0 < place → ((n : ℕ) → n < place → (get_or runs n d).first ≤ number) → behind d runs place number ≡ line
    → (line + 1) % 2 ^ 64 ≡ behind d runs place (number + 1)
behind_next d runs zero number line some begun is = absurd (omega (arith, some))
behind_next d runs (suc place) number line some begun is = line_from_next (get_or runs place d) number line (begun place (omega arith)) is

-- the newest record stands on the line of the last run
behind_newest : (records : List Noted) (count : ℕ) (runs : List Run) (newest : Noted) (d : Run) → AreRuns (newest ∷ records) count runs → behind d runs (length runs) count ≡ newest.line
behind_newest records count runs newest d are =
    let last : eqb count (suc (length records)) ≡ true = grind (arith, nat_tests, are.count_is) in
    sym (line_by_place d runs (length runs) count (all_before (newest ∷ records) count runs count are (omega (arith, are.count_is))) (omega arith))
    ∙ are.line count (omega (arith, are.count_is)) (omega (arith, are.count_is)) ∙ line_of_newest newest records count last

pub is_next : (records : List Noted) (count line : ℕ) (runs : List Run) (newest : Noted) → AreRuns (newest ∷ records) count runs → newest.line ≡ line → IsNext ((line + 1) % 2 ^ 64) count runs
is_next records count line runs newest are is = λ d some.
    behind_next d runs (length runs) count line some (λ n among. omega (arith, are.within n d among, are.count_is)) (behind_newest records count runs newest d are ∙ is)

pub next_row : (records : List Noted) (count number next : ℕ) (runs : List Run) (newest : Noted) → AreRuns records count runs → IsNext next count runs → number ≡ count + 1 → 0 < length runs
    → next ≡ newest.line → AreRuns (newest ∷ records) number runs
next_row records count number next runs newest are is counts some at =
    subst (λ n. AreRuns (newest ∷ records) n runs) (sym counts) (same_runs records count runs newest no_run are (sym (is no_run some) ∙ at))

-- the line that a search finds
pub line_found : (records : List Noted) (count : ℕ) (runs : List Run) (place number line : ℕ) → AreRuns records count runs → (IsNonDecreasingBy (λ (r : Run). r.first) runs → EndsBefore number runs place)
    → place ≤ length runs → ((d : Run) → line ≡ behind d runs place number) → 0 < number → number ≤ count → line ≡ line_at records number
line_found records count runs place number line are ends within by some most =
    by no_run ∙ sym (line_by_place no_run runs place number (ends are.order) within) ∙ are.line number some (omega (arith, most, are.count_is))
