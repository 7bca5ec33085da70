-- What the log has of a trace.
use Rattle.std.proofs.Common.{◌≡◌, ◌∙◌, ℕ, Bool, true, false, ◌-◌, ◌<◌, ◌≤◌, List, [], ◌∷◌, Option, Some, None, ap, sym, subst, refl, inl, inr, arith, length, take, filter}
use Rattle.std.specs.Prelude.{cond, find, nat_lt, suc, take_while}
use Rattle.std.specs.List.{before_first}
use Rattle.std.proofs.lemmas.Bool.{cases_Bool, le-ltb, lt-ltb, ltb-false, ltb-true}
use Rattle.std.proofs.lemmas.List.{take_all}
use Rattle.watch.specs.declared.trace.Record.{Record}
use Rattle.watch.specs.Trace.{Trace}
use Rattle.watch_causes.specs.declared.log.Numbered.{Numbered}
use Rattle.watch_causes.specs.Logs.{is_after, numbered, records}
use Rattle.watch_causes.specs.Reasons.{made_after}
use Rattle.watch_causes.proofs.Lists.{before-fails, before-passes, while-fails, while-passes}

-- ---- the records after the first so many

pub after-more : (count : ℕ) (newest : Record) (trace : Trace) → nat_lt count (length (newest ∷ trace)) ≡ true → made_after count (newest ∷ trace) ≡ newest ∷ made_after count trace
after-more count newest trace is =
    let low : count < length (newest ∷ trace) = ltb-true count (length (newest ∷ trace)) is in
    let e : length (newest ∷ trace) - count ≡ suc (length trace - count) = omega arith in
    ap (λ n. take n (newest ∷ trace)) e

pub after-all : (count : ℕ) (trace : Trace) → length trace ≤ count → made_after count trace ≡ []
after-all count trace high =
    let e : length trace - count ≡ 0 = omega arith in
    ap (λ n. take n trace) e

-- ---- what the log has of them

module _ (test : Record → Bool) where
  abbrev one : Record → Trace → Numbered
  one newest trace = record { number = length (newest ∷ trace); made = newest }

  pub none-after : (count : ℕ) (trace : Trace) → length trace ≤ count → take_while (is_after count) (numbered test trace) ≡ []
  none-after count [] high = refl
  none-after count (newest ∷ trace) high =
      elim (test newest) as (λ b. take_while (is_after count) (cond b (one newest trace ∷ numbered test trace) (numbered test trace)) ≡ []) [
        | true ↦ while-fails (is_after count) (one newest trace) (numbered test trace) (le-ltb count (length (newest ∷ trace)) high)
        | false ↦ none-after count trace (omega arith)
      ]

  pub records-after : (count : ℕ) (trace : Trace) → records (take_while (is_after count) (numbered test trace)) ≡ filter test (made_after count trace)
  records-after count [] = sym (ap (filter test) (after-all count [] (omega arith)))
  records-after count (newest ∷ trace) =
      let late : nat_lt count (length (newest ∷ trace)) ≡ true → records (take_while (is_after count) (numbered test (newest ∷ trace))) ≡ filter test (made_after count (newest ∷ trace)) =
      λ is.
      (elim (test newest) as (λ b. records (take_while (is_after count) (cond b (one newest trace ∷ numbered test trace) (numbered test trace))) ≡ cond b (newest ∷ filter test (made_after count trace)) (filter test (made_after count trace))) [
        | true ↦ ap records (while-passes (is_after count) (one newest trace) (numbered test trace) is) ∙ ap (λ rs. newest ∷ rs) (records-after count trace)
        | false ↦ records-after count trace
      ])
      ∙ sym (ap (filter test) (after-more count newest trace is)) in
      let early : nat_lt count (length (newest ∷ trace)) ≡ false → records (take_while (is_after count) (numbered test (newest ∷ trace))) ≡ filter test (made_after count (newest ∷ trace)) =
      λ is.
      ap records (none-after count (newest ∷ trace) (ltb-false count (length (newest ∷ trace)) is))
      ∙ sym (ap (filter test) (after-all count (newest ∷ trace) (ltb-false count (length (newest ∷ trace)) is))) in
      elim (cases_Bool (nat_lt count (length (newest ∷ trace)))) [ inl is ↦ late is | inr is ↦ early is ]

  pub all-after : (trace : Trace) → take_while (is_after 0) (numbered test trace) ≡ numbered test trace
  all-after [] = refl
  all-after (newest ∷ trace) =
      elim (test newest) as (λ b. take_while (is_after 0) (cond b (one newest trace ∷ numbered test trace) (numbered test trace)) ≡ cond b (one newest trace ∷ numbered test trace) (numbered test trace)) [
        | true ↦ while-passes (is_after 0) (one newest trace) (numbered test trace) (lt-ltb 0 (length (newest ∷ trace)) (omega arith)) ∙ ap (λ ns. one newest trace ∷ ns) (all-after trace)
        | false ↦ all-after trace
      ]

  -- the newest flush that a test finds: itself, and what was made since
  module _ (found : Record → Bool) (narrow : (r : Record) → found r ≡ true → test r ≡ true) where
    abbrev pub finds : List Numbered → Option Numbered
    finds ns = find (λ n. found n.made) ns

    abbrev pub Finds : ℕ → Trace → Option Numbered → Type 0
    Finds count trace None = find found (made_after count trace) ≡ None
    Finds count trace (Some n) =
        (n.number ≤ length trace) × (find found (made_after count trace) ≡ Some n.made) × (before_first found (made_after count trace) ≡ made_after n.number trace)

    next-made : (count : ℕ) (newest : Record) (trace : Trace) → nat_lt count (length (newest ∷ trace)) ≡ true → found newest ≡ false
        → (o : Option Numbered) → Finds count trace o → Finds count (newest ∷ trace) o
    next-made count newest trace is other None none =
        ap (find found) (after-more count newest trace is) ∙ (ap (λ b. cond b (Some newest) (find found (made_after count trace))) other ∙ none)
    next-made count newest trace is other (Some n) some =
        let low : n.number < length (newest ∷ trace) = omega (arith, some.0) in (
          (omega (arith, some.0)),
          (ap (find found) (after-more count newest trace is) ∙ (ap (λ b. cond b (Some newest) (find found (made_after count trace))) other ∙ some.1)),
          (ap (before_first found) (after-more count newest trace is)
              ∙ (before-fails found newest (made_after count trace) other
              ∙ (ap (λ rs. newest ∷ rs) some.2 ∙ sym (after-more n.number newest trace (lt-ltb n.number (length (newest ∷ trace)) low))))),
        )

    first-made : (count : ℕ) (newest : Record) (trace : Trace) → nat_lt count (length (newest ∷ trace)) ≡ true → found newest ≡ true
        → Finds count (newest ∷ trace) (Some (one newest trace))
    first-made count newest trace is this = (
      (omega arith),
      (ap (find found) (after-more count newest trace is) ∙ ap (λ b. cond b (Some newest) (find found (made_after count trace))) this),
      (ap (before_first found) (after-more count newest trace is)
          ∙ (before-passes found newest (made_after count trace) this ∙ sym (after-all (length (newest ∷ trace)) (newest ∷ trace) (omega arith)))),
    )

    pub finds-after : (count : ℕ) (trace : Trace) → Finds count trace (finds (take_while (is_after count) (numbered test trace)))
    finds-after count [] = ap (find found) (after-all count [] (omega arith))
    finds-after count (newest ∷ trace) =
        let rest : List Numbered = take_while (is_after count) (numbered test trace) in
        let whole : List Numbered = take_while (is_after count) (numbered test (newest ∷ trace)) in
        let G : Option Numbered → Type 0 = Finds count (newest ∷ trace) in
        let late : nat_lt count (length (newest ∷ trace)) ≡ true → G (finds whole) =
        λ is. elim (cases_Bool (found newest)) [
          | inl this ↦
              let e : whole ≡ one newest trace ∷ rest =
              ap (λ b. take_while (is_after count) (cond b (one newest trace ∷ numbered test trace) (numbered test trace))) (narrow newest this)
              ∙ while-passes (is_after count) (one newest trace) (numbered test trace) is in
              subst G (sym (ap finds e ∙ ap (λ b. cond b (Some (one newest trace)) (finds rest)) this)) (first-made count newest trace is this)
          | inr other ↦
              let e : finds whole ≡ finds rest =
              elim (test newest) as (λ b. finds (take_while (is_after count) (cond b (one newest trace ∷ numbered test trace) (numbered test trace))) ≡ finds rest) [
                | true ↦ ap finds (while-passes (is_after count) (one newest trace) (numbered test trace) is) ∙ ap (λ b. cond b (Some (one newest trace)) (finds rest)) other
                | false ↦ refl
              ] in
              subst G (sym e) (next-made count newest trace is other (finds rest) (finds-after count trace))
        ] in
        let early : nat_lt count (length (newest ∷ trace)) ≡ false → G (finds whole) =
        λ is.
        let high : length (newest ∷ trace) ≤ count = ltb-false count (length (newest ∷ trace)) is in
        subst G (sym (ap finds (none-after count (newest ∷ trace) high))) (ap (find found) (after-all count (newest ∷ trace) high)) in
        elim (cases_Bool (nat_lt count (length (newest ∷ trace)))) [ inl is ↦ late is | inr is ↦ early is ]

pub after-none : (trace : Trace) → made_after 0 trace ≡ trace
after-none trace =
    let e : length trace - 0 ≡ length trace = omega arith in
    ap (λ n. take n trace) e ∙ take_all (length trace) trace (omega arith)
