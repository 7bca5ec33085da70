-- The lines of a list of what is known, one after the other.
use Rattle.std.proofs.Common.{◌≡◌, ℕ, ◌==◌, Bool, true, false, arith, if◌then◌else◌, List, [], ◌∷◌, ◌++◌, length, Some, None, Result, Ok, Err, refl, sym, ap, ap₂, ◌∙◌, append_assoc, append-nil}
use Rattle.std.proofs.lemmas.Bool.{eqb-true, false≢true, true≢false}
use Rattle.std.specs.List.{filter as kept_by, sum}
use Rattle.pte.specs.declared.scheme.Scheme.{Scheme}
use Rattle.watch.specs.declared.trace.AddressRange.{AddressRange}
use Rattle.watch_causes.specs.KnownFindings.{KnownEntry, Sourced, sourced}
use Rattle.watch_causes.specs.KnownSoFar.{HasKnown}
use Rattle.watch_causes.specs.declared.known_findings.KnownFindings.{KnownFindings}
use Rattle.watch.specs.declared.trace.Record.{Record}
use Rattle.watch.specs.Trace.{Trace}
use Rattle.watch_report.specs.declared.filter.Filter.{Filter}
use Rattle.watch_report.specs.Filters.{taken, takes}
use Rattle.watch_report.specs.VerdictLines.{AreGiven}
use Rattle.watch_engine.specs.declared.warning.Warning.{Warning}
use Rattle.watch_report.specs.declared.known_fault.KnownFault.{KnownFault}
use Rattle.watch_report.specs.declared.known_fault.KnownReason.TheVariants.{Excess}
use Rattle.watch_report.specs.Fields.{fields_of}
use Rattle.watch_report.specs.KnownLists.{design_sum}
use Rattle.watch_report.specs.KnownTexts.{◌>>=◌, if_last}
use Rattle.watch_report.specs.KnownVerdicts.{is_by_design, sourced_at, unknown, unknown_at, verdicts_so_far, with_verdicts}
use Rattle.watch_report.specs.TraceText.{Noted, note_at, trace_of}
use Rattle.watch_report.proofs.Positions.{some_field}

-- what is read behind these entries
abbrev pub after : List KnownEntry → Result (List KnownEntry) KnownFault → Result (List KnownEntry) KnownFault
after front read = read >>= λ more. Ok (front ++ more)

-- ---- words

last_of : (range : AddressRange) (words : List (List ℕ)) → (length words == 0) ≡ false → if_last range words ≡ Err Excess
last_of range [] e = absurd (false≢true (sym e))
last_of range (word ∷ words) e = refl

pub excess : (range : AddressRange) (text : List ℕ) → if_last range (fields_of text) ≡ Err Excess
excess range text = last_of range (fields_of text) (some_field text)

-- ---- one verdict more

kept_if : (b : Bool) (w : Warning) (front rest : List Warning) → front ++ (if b then rest else w ∷ rest) ≡ (front ++ (if b then [] else w ∷ [])) ++ rest
kept_if true w front rest = ap (λ (l : List Warning). l ++ rest) (sym (append-nil front))
kept_if false w front rest = sym (append_assoc front (w ∷ []) rest)

pub unknown_more : (entries : List KnownEntry) (scheme : Scheme) (newest : Noted) (records : List Noted) (warnings rest : List Warning) (w : Warning) (by : List ℕ) (now : List Sourced) (front new all : List Warning) (b : Bool)
    → warnings ≡ w ∷ rest → by ≡ note_at records w.stale_since → b ≡ is_by_design entries (sourced scheme newest.made (trace_of records) w by) now → new ≡ front ++ (if b then [] else w ∷ [])
    → front ++ unknown_at entries scheme newest records warnings now ≡ all
    → new ++ unknown_at entries scheme newest records rest (sourced scheme newest.made (trace_of records) w by ∷ now) ≡ all
unknown_more entries scheme newest records warnings rest w by now front new all b is note known e h =
    let s : List ℕ → Sourced = sourced scheme newest.made (trace_of records) w in
    let others : List ℕ → List Warning = λ note. unknown_at entries scheme newest records rest (s note ∷ now) in
    ap (λ (l : List Warning). l ++ others by) e
    ∙ sym (kept_if b w front (others by))
    ∙ ap (λ (k : Bool). front ++ (if k then others by else w ∷ others by)) known
    ∙ ap (λ (note : List ℕ). front ++ (if is_by_design entries (s note) now then others note else w ∷ others note)) note
    ∙ ap (λ (ws : List Warning). front ++ unknown_at entries scheme newest records ws now) (sym is)
    ∙ h

pub verdicts_more : (scheme : Scheme) (newest : Noted) (records : List Noted) (warnings rest : List Warning) (w : Warning) (by : List ℕ) (now all : List Sourced)
    → warnings ≡ w ∷ rest → by ≡ note_at records w.stale_since → with_verdicts scheme newest records warnings now ≡ all
    → with_verdicts scheme newest records rest (sourced scheme newest.made (trace_of records) w by ∷ now) ≡ all
verdicts_more scheme newest records warnings rest w by now all is note h =
    ap (λ (n : List ℕ). with_verdicts scheme newest records rest (sourced scheme newest.made (trace_of records) w n ∷ now)) note
    ∙ ap (λ (ws : List Warning). with_verdicts scheme newest records ws now) (sym is)
    ∙ h

-- ---- no entry

none_is_known : (scheme : Scheme) (newest : Noted) (records : List Noted) (warnings : List Warning) (before : List Sourced) → warnings ≡ unknown_at [] scheme newest records warnings before
none_is_known scheme newest records [] before = refl
none_is_known scheme newest records (w ∷ warnings) before =
    ap (λ (ws : List Warning). w ∷ ws) (none_is_known scheme newest records warnings (sourced_at scheme newest records w ∷ before))

pub all_unknown : (entries : List KnownEntry) (scheme : Scheme) (newest : Noted) (records : List Noted) (warnings : List Warning) (before : List Sourced) → (length entries == 0) ≡ true
    → warnings ≡ unknown_at entries scheme newest records warnings before
all_unknown [] scheme newest records warnings before e = none_is_known scheme newest records warnings before
all_unknown (entry ∷ entries) scheme newest records warnings before e = let none = eqb-true (length (entry ∷ entries)) 0 e in absurd (omega (arith, none))

pub still_none : (entries : List KnownEntry) (scheme : Scheme) (trace : Trace) (made : Record) (before now : List Sourced) (k : KnownFindings) → (length entries == 0) ≡ true → HasKnown entries scheme trace before k
    → HasKnown entries scheme (made ∷ trace) now k
still_none [] scheme trace made before now k e has =
    record {
      entries = has.entries;
      under = has.under;
      log = λ less. absurd (omega (arith, less));
      findings = λ less. absurd (omega (arith, less));
      counts = has.counts;
    }
still_none (entry ∷ entries) scheme trace made before now k e has = let none = eqb-true (length (entry ∷ entries)) 0 e in absurd (omega (arith, none))

pub design_none : (entries : List KnownEntry) (counts : List ℕ) → (length entries == 0) ≡ true → None ≡ design_sum entries counts
design_none [] counts e = refl
design_none (entry ∷ entries) counts e = let none = eqb-true (length (entry ∷ entries)) 0 e in absurd (omega (arith, none))

pub design_some : (entries : List KnownEntry) (counts : List ℕ) (n : ℕ) → (length entries == 0) ≡ false → n ≡ sum counts → Some n ≡ design_sum entries counts
design_some [] counts n e is = absurd (true≢false e)
design_some (entry ∷ entries) counts n e is = ap Some is

-- no verdict is dropped
pub none_dropped : (filter : Filter) (scheme : Scheme) (records : List Noted) (given : List (List Warning)) → AreGiven scheme records given → unknown [] scheme records (taken filter given) ≡ taken filter given
none_dropped filter scheme [] [] are = refl
none_dropped filter scheme [] (warnings ∷ given) are = absurd are
none_dropped filter scheme (newest ∷ records) [] are = absurd are
none_dropped filter scheme (newest ∷ records) (warnings ∷ given) are =
    ap₂ (λ (w : List Warning) (g : List (List Warning)). w ∷ g)
    (sym (none_is_known scheme newest records (kept_by (takes filter) warnings) (verdicts_so_far scheme records (taken filter given))))
    (none_dropped filter scheme records given are.1)
