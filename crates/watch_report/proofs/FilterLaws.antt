-- The laws of filters.
use Rattle.std.proofs.Common.{◌≡◌, ◌↔◌, ℕ, zero, suc, Bool, true, false, List, [], ◌∷◌, ◌++◌, cond, codes, drop, Option, Some, None, option_map, refl, sym, ap, ap₂, subst, ◌∙◌, append_assoc}
use Rattle.std.specs.List.{filter as kept_by, find}
use Rattle.std.specs.Option.{is_none, option_or, unwrap_or}
use Rattle.std.specs.Str.{bytes_eq}
use Rattle.std.proofs.lemmas.Bool.{and_parts, eqb-true, false≢true, true≢false}
use Rattle.std.proofs.lemmas.List.Kept.{AllPairs-filter}
use Rattle.std.proofs.lemmas.Slice.Eq.{bytes_eq-Decides}
use Rattle.pte.specs.declared.scheme.Scheme.{Scheme}
use Rattle.watch.specs.declared.trace.Record.{Record}
use Rattle.watch.specs.declared.trace.Verdict.{Verdict}
use Rattle.watch.specs.declared.trace.Verdict.TheVariants.{Free, Reuse, Claimed, Used}
use Rattle.watch.specs.Computed.{is_same}
use Rattle.watch.specs.Trace.{Trace}
use Rattle.watch_causes.specs.Findings.{is_same_verdict, verdict_number}
use Rattle.watch_engine.specs.declared.warning.Warning.{Warning}
use Rattle.watch_engine.specs.Warnings.{AreApart, AreWarnings}
use Rattle.watch_report.specs.declared.filter.Filter.{Filter}
use Rattle.watch_report.specs.declared.filter.Kind.{Kind}
use Rattle.watch_report.specs.declared.warning.Warning.{Warning as PrintedWarning}
use Rattle.watch_report.specs.Filters.{AreTakenAt, has_kind, kind_in, kind_of, kind_text, no_filter, takes, verdict_in}
use Rattle.watch_report.specs.TraceText.{Noted, trace_of}
use Rattle.watch_report.specs.VerdictLines.{AreGiven, AreInOrder, AreTakenBy}
use Rattle.watch_report.specs.Orders.{IsInOrder}
use Rattle.watch_report.specs.Warnings.{owner_prefix, place_text, verdict_of, verdict_part, verdict_text}
use Rattle.watch_report.proofs.FilterLemmas.{all_taken, from_kept, same_taken, to_kept}

-- ---- what is told of

pub told_is_given : (scheme : Scheme) (records : List Noted) (given : List (List Warning)) → AreTakenBy no_filter scheme records given ↔ AreGiven scheme records given × AreInOrder given
told_is_given scheme records given = (
  λ told. (subst (λ (g : List (List Warning)). AreGiven scheme records g) (sym (told.2 ∙ all_taken told.0)) told.1, told.3),
  λ are. (given, are.0, sym (all_taken given), are.1),
)

pub taken_at : (filter : Filter) (scheme : Scheme) (newest : Record) (trace : Trace) (warnings : List Warning) → AreWarnings scheme newest trace warnings → AreTakenAt filter scheme newest trace (kept_by (takes filter) warnings)
taken_at filter scheme newest trace warnings are =
    record {
      each = λ w among.
          let from = from_kept (takes filter) warnings w among in
          let due = are.each w from.0 in
          (due.0, due.1, from.1);
      all = λ verdict hart x due passes.
          let w = are.all verdict hart x due in
          (w.0, to_kept (takes filter) warnings w.0 w.1 (same_taken filter w.0 verdict hart x w.2 w.3 w.4 ∙ passes), w.2, w.3, w.4);
      once = AllPairs-filter AreApart (takes filter) warnings are.once;
    }

pub told_before : (filter : Filter) (scheme : Scheme) (newest : Noted) (records : List Noted) (warnings : List Warning) (told : List (List Warning)) → AreTakenBy filter scheme (newest ∷ records) (warnings ∷ told)
    → AreTakenBy filter scheme records told
told_before filter scheme newest records warnings told ([], are, is, order) = absurd are
told_before filter scheme newest records warnings told (all ∷ given, are, is, order) = (given, are.1, ap (drop 1) is, order.1)

pub told_is_taken : (filter : Filter) (scheme : Scheme) (newest : Noted) (records : List Noted) (warnings : List Warning) (told : List (List Warning)) → AreTakenBy filter scheme (newest ∷ records) (warnings ∷ told)
    → AreTakenAt filter scheme newest.made (trace_of records) warnings × IsInOrder warnings
told_is_taken filter scheme newest records warnings told ([], are, is, order) = absurd are
told_is_taken filter scheme newest records warnings told (all ∷ given, are, is, order) =
    (subst (AreTakenAt filter scheme newest.made (trace_of records)) (sym (ap (first_of_all warnings) is)) (taken_at filter scheme newest.made (trace_of records) all are.0), order.0)
  where
    first_of_all : List Warning → List (List Warning) → List Warning
    first_of_all other [] = other
    first_of_all other (first ∷ rest) = first

-- ---- kinds

abbrev verdict_at : ℕ → Verdict
verdict_at zero = Free
verdict_at (suc zero) = Reuse
verdict_at (suc (suc zero)) = Claimed
verdict_at (suc (suc (suc n))) = Used

at_number : (verdict : Verdict) → verdict_at (verdict_number verdict) ≡ verdict
at_number Free = refl
at_number Reuse = refl
at_number Claimed = refl
at_number Used = refl

same_verdicts : (a b : Verdict) → is_same_verdict a b ≡ true → a ≡ b
same_verdicts a b t =
    let same : verdict_number a ≡ verdict_number b = eqb-true (verdict_number a) (verdict_number b) t in
    sym (at_number a) ∙ ap verdict_at same ∙ at_number b

same_globals : (a b : Bool) → is_same a b ≡ true → a ≡ b
same_globals true true t = refl
same_globals true false t = absurd (false≢true t)
same_globals false true t = absurd (false≢true t)
same_globals false false t = refl

of_itself : (verdict : Verdict) (global : Bool) → has_kind verdict global (kind_of global verdict) ≡ true
of_itself Free true = refl
of_itself Free false = refl
of_itself Reuse true = refl
of_itself Reuse false = refl
of_itself Claimed true = refl
of_itself Claimed false = refl
of_itself Used true = refl
of_itself Used false = refl

pub kind_is_had : (verdict : Verdict) (global : Bool) (kind : Kind) → (has_kind verdict global kind ≡ true) ↔ (kind ≡ kind_of global verdict)
kind_is_had verdict global kind = (
  λ t.
      let parts = and_parts (is_same_verdict kind.verdict verdict) (is_same kind.global global) t in
      ap₂ kind_of (same_globals kind.global global parts.1) (same_verdicts kind.verdict verdict parts.0),
  λ is. subst (λ (k : Kind). has_kind verdict global k ≡ true) (sym is) (of_itself verdict global),
)

pub word_is_printed : (file : List ℕ) (w : PrintedWarning) → verdict_part file w ≡ place_text file w.line ++ kind_text (kind_of w.entry.global (verdict_of w.trigger)) ++ codes " hart "
word_is_printed file w =
    ap (λ (l : List ℕ). l ++ codes " hart ") (append_assoc (place_text file w.line) (owner_prefix w.entry.global) (verdict_text (verdict_of w.trigger)))

by_parts : (global : Bool) (verdict : Verdict) → kind_in (kind_text (kind_of global verdict)) ≡ Some (kind_of global verdict)
by_parts true Free = refl
by_parts true Reuse = refl
by_parts true Claimed = refl
by_parts true Used = refl
by_parts false Free = refl
by_parts false Reuse = refl
by_parts false Claimed = refl
by_parts false Used = refl

pub word_is_read : (kind : Kind) → kind_in (kind_text kind) ≡ Some kind
word_is_read kind = by_parts kind.global kind.verdict

-- what is found passes the test
by_head : (b : Bool) (test : Verdict → Bool) (first verdict : Verdict) (rest : Option Verdict) → test first ≡ b → cond b (Some first) rest ≡ Some verdict → (rest ≡ Some verdict → test verdict ≡ true) → test verdict ≡ true
by_head true test first verdict rest t is passes = subst (λ (v : Verdict). test v ≡ true) (ap (λ (o : Option Verdict). unwrap_or o first) is) t
by_head false test first verdict rest t is passes = passes is

found_passes : (test : Verdict → Bool) (verdicts : List Verdict) (verdict : Verdict) → find test verdicts ≡ Some verdict → test verdict ≡ true
found_passes test [] verdict is = absurd (true≢false (ap is_none is))
found_passes test (first ∷ verdicts) verdict is = by_head (test first) test first verdict (find test verdicts) refl is (found_passes test verdicts verdict)

abbrev Is : List ℕ → Kind → Type 0
Is word kind = bytes_eq word (kind_text kind) ≡ true

of_either : (word : List ℕ) (kind : Kind) (user kernel : Option Verdict) → ((v : Verdict) → user ≡ Some v → Is word (kind_of false v)) → ((v : Verdict) → kernel ≡ Some v → Is word (kind_of true v))
    → option_or (option_map (kind_of false) user) (option_map (kind_of true) kernel) ≡ Some kind → Is word kind
of_either word kind (Some v) kernel a b is = subst (Is word) (ap (λ (o : Option Kind). unwrap_or o kind) is) (a v refl)
of_either word kind None (Some v) a b is = subst (Is word) (ap (λ (o : Option Kind). unwrap_or o kind) is) (b v refl)
of_either word kind None None a b is = absurd (true≢false (ap is_none is))

pub word_is_of_kind : (word : List ℕ) (kind : Kind) → kind_in word ≡ Some kind → kind_text kind ≡ word
word_is_of_kind word kind is =
    let test : Bool → Verdict → Bool = λ global verdict. bytes_eq word (kind_text (kind_of global verdict)) in
    let verdicts : List Verdict = Free ∷ Reuse ∷ Claimed ∷ Used ∷ [] in
    sym ((bytes_eq-Decides word (kind_text kind)).0
    (of_either word kind (verdict_in false word) (verdict_in true word) (λ v found. found_passes (test false) verdicts v found) (λ v found. found_passes (test true) verdicts v found) is))
