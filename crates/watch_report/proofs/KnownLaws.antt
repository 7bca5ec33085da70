-- The laws of what is known.
use Rattle.std.proofs.Common.{◌≡◌, ◌||◌, Bool, true, false, List, [], ◌∷◌, length, nat_lt, lt-ltb, refl, sym, ap, subst, arith}
use Rattle.std.proofs.lemmas.Bool.{false≢true}
use Rattle.pte.specs.declared.scheme.Scheme.{Scheme}
use Rattle.watch_causes.specs.KnownFindings.{KnownEntry, Sourced}
use Rattle.watch_engine.specs.declared.warning.Warning.{Warning}
use Rattle.watch_report.specs.declared.filter.Filter.{Filter}
use Rattle.watch_report.specs.KnownVerdicts.{has_verdict, unknown, unknown_at, verdicts_so_far}
use Rattle.watch_report.specs.Reports.{TellsVerdict, Told}
use Rattle.watch_report.specs.TraceText.{Noted, trace_of}
use Rattle.watch_report.specs.VerdictLines.{AreTakenBy, GivesVerdict}
use Rattle.watch_report.proofs.KnownLemmas.{none_dropped}
use Rattle.watch_report.proofs.VerdictLemmas.{taken_say}

-- ---- without entries

pub without_entries : (filter : Filter) (scheme : Scheme) (records : List Noted) (taken : List (List Warning)) → AreTakenBy filter scheme records taken → unknown [] scheme records taken ≡ taken
without_entries filter scheme records taken are =
    subst (λ (t : List (List Warning)). unknown [] scheme records t ≡ t) (sym are.2) (none_dropped filter scheme records are.0 are.1)

-- ---- what is told is due

or_true : (a b : Bool) → b ≡ true → a || b ≡ true
or_true true b e = refl
or_true false b e = e

or_weaker : (a b c d : Bool) → (a ≡ true → c ≡ true) → (b ≡ true → d ≡ true) → a || b ≡ true → c || d ≡ true
or_weaker true b c d f g e = ap (λ (x : Bool). x || d) (f refl)
or_weaker false b c d f g e = or_true c d (g e)

some_at : (known : List KnownEntry) (scheme : Scheme) (newest : Noted) (records : List Noted) (warnings : List Warning) (before : List Sourced) → nat_lt 0 (length (unknown_at known scheme newest records warnings before)) ≡ true
    → nat_lt 0 (length warnings) ≡ true
some_at known scheme newest records [] before e = absurd (false≢true e)
some_at known scheme newest records (w ∷ warnings) before e = lt-ltb 0 (length (w ∷ warnings)) (omega arith)

some_taken : (known : List KnownEntry) (scheme : Scheme) (records : List Noted) (taken : List (List Warning)) → has_verdict (unknown known scheme records taken) ≡ true → has_verdict taken ≡ true
some_taken known scheme [] taken e = absurd (false≢true e)
some_taken known scheme (newest ∷ records) [] e = absurd (false≢true e)
some_taken known scheme (newest ∷ records) (warnings ∷ taken) e =
    or_weaker (nat_lt 0 (length (unknown_at known scheme newest records warnings (verdicts_so_far scheme records taken)))) (has_verdict (unknown known scheme records taken)) (nat_lt 0 (length warnings)) (has_verdict taken)
    (some_at known scheme newest records warnings (verdicts_so_far scheme records taken)) (some_taken known scheme records taken) e

pub told_is_due : (known : List KnownEntry) (filter : Filter) (scheme : Scheme) (records : List Noted) (taken : List (List Warning)) → AreTakenBy filter scheme records taken
    → has_verdict (unknown known scheme records taken) ≡ true → GivesVerdict filter scheme (trace_of records)
told_is_due known filter scheme records taken are e = (taken_say filter scheme records taken are).0 (some_taken known scheme records taken e)

pub tells_due : (told : Told) (scheme : Scheme) (records : List Noted) → TellsVerdict told scheme records → GivesVerdict told.options.filter scheme (trace_of records)
tells_due told scheme records (taken, are, e) = told_is_due told.known.entries told.options.filter scheme records taken are e
