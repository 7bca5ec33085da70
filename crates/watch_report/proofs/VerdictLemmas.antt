-- The verdicts on a trace, one record after the other.
use Rattle.std.proofs.Common.{◌≡◌, ◌↔◌, inl, inr, ℕ, zero, suc, ◌+◌, ◌<◌, ◌≤◌, Bool, true, false, List, [], ◌∷◌, ◌++◌, length, Option, None, Some, nat_lt, ltb-true, lt-ltb, refl, sym, ap, ap₂, subst, ◌∙◌, arith, ◌||◌, append_assoc}
use Rattle.std.specs.List.{filter as kept_by}
use Rattle.std.proofs.Math.Nat.{min-le_right}
use Rattle.std.proofs.Math.Seq.{take-nil}
use Rattle.std.proofs.lemmas.List.{drop_all, length-take}
use Rattle.std.specs.Io.KnownBytes.{Appends}
use Rattle.pte.specs.declared.scheme.Scheme.{Scheme}
use Rattle.watch.specs.declared.trace.Record.{Record}
use Rattle.watch.specs.declared.trace.Verdict.{Verdict}
use Rattle.watch.specs.declared.trace.Verdict.TheVariants.{Free, Reuse, Claimed, Used}
use Rattle.watch.specs.Trace.{Trace}
use Rattle.watch_causes.specs.declared.tally.Tally.{Tally}
use Rattle.watch_causes.specs.KnownSoFar.{HasKnown}
use Rattle.watch_engine.specs.declared.warning.Warning.{Warning}
use Rattle.watch_engine.specs.Warnings.{AreWarnings, shown_of}
use Rattle.watch_engine.specs.Watching.{Follows}
use Rattle.watch_tables.specs.Words.{since, words}
use Rattle.watch_report.specs.declared.counts.VerdictCounts.{VerdictCounts}
use Rattle.watch_report.specs.declared.filter.Filter.{Filter}
use Rattle.watch_report.specs.declared.options.Form.{Form}
use Rattle.watch_report.specs.declared.options.Options.{Options}
use Rattle.watch_report.specs.KnownLists.{design_sum, known_text}
use Rattle.watch_report.specs.KnownVerdicts.{has_verdict, unknown_at, verdicts_so_far, with_verdicts}
use Rattle.watch_report.specs.declared.header.Header.{Header}
use Rattle.watch_report.specs.Filters.{taken, takes}
use Rattle.watch_report.specs.Forms.{at_most, left_after, summary_as}
use Rattle.watch_report.specs.Warnings.{sum_of}
use Rattle.watch_report.specs.TraceLines.{line_in, record_of}
use Rattle.watch_report.specs.declared.reading_fault.ReadingFault.{ReadingFault}
use Rattle.watch_report.specs.declared.reading_fault.ReadingFault.TheVariants.{Unreadable, Output, BrokenPipe, BrokenPipeWarned, NoMemory}
use Rattle.watch_report.specs.declared.output.WriteFault.{WriteFault}
use Rattle.watch_report.specs.declared.output.WriteFault.TheVariants as write
use Rattle.watch_report.specs.declared.detail.Detail.TheVariants.{Causes, Counts, Verdicts}
use Rattle.watch_report.specs.declared.warning.Trigger.{Trigger}
use Rattle.watch_report.specs.declared.reading.Reading.{Reading}
use Rattle.watch_report.specs.Past.{ArePast}
use Rattle.watch_report.specs.Output.{AppendsFront}
use Rattle.watch_report.specs.Reading.{FailsAtEnd, FailsAtLine, FailsAtRecord, HasSeen, next_text, unwritten}
use Rattle.watch_report.specs.TraceText.{Noted, trace_of}
use Rattle.watch_report.specs.declared.detail.Detail.{Detail}
use Rattle.watch_report.specs.Reports.{Told, WholeText, blocks_by, tallies_after, told_at, told_by, told_text, totals_by, counts_by, told_of_taken}
use Rattle.watch_report.specs.Telling.{IsTelling}
use Rattle.watch_report.specs.VerdictLines.{AreGiven, GivesAt, GivesVerdict, counted, counts_after, counts_of, lines_by, trigger_of, verdicts_in, with_verdict, AreTakenBy}
use Rattle.watch_report.specs.Orders.{IsInOrder}
use Rattle.watch_report.proofs.OrderLemmas.{kept_in_order}
use Rattle.watch_report.proofs.OutputLemmas.{front_after}
use Rattle.watch_report.proofs.FilterLemmas.{first_of, from_kept, same_taken, to_kept}

-- ---- one record more

-- with the warnings that are kept of those at it
pub taken_more : (filter : Filter) (scheme : Scheme) (newest : Noted) (records : List Noted) (taken : List (List Warning)) (kept warnings : List Warning) → AreWarnings scheme newest.made (trace_of records) warnings
    → kept ≡ kept_by (takes filter) warnings → IsInOrder warnings → AreTakenBy filter scheme records taken → AreTakenBy filter scheme (newest ∷ records) (kept ∷ taken)
taken_more filter scheme newest records taken kept warnings new is order old =
    (warnings ∷ old.0, (new, old.1), ap₂ (λ (w : List Warning) (g : List (List Warning)). w ∷ g) is old.2, (subst IsInOrder (sym is) (kept_in_order (takes filter) warnings order), old.3))

pub seen_more : (told : Told) (r new : Reading) (records : List Noted) (taken : List (List Warning)) (newest : Noted) (warnings unknown : List Warning)
    → HasSeen told.options told.known records taken r → new.header ≡ r.header → new.options ≡ r.options → new.watch.scheme ≡ r.watch.scheme → Follows words since (newest.made ∷ trace_of records) new.watch
    → AreTakenBy told.options.filter r.header.scheme (newest ∷ records) (warnings ∷ taken) → new.records ≡ r.records + 1 → ArePast (newest ∷ records) new.past
    → unknown ≡ unknown_at told.known.entries r.header.scheme newest records warnings (verdicts_so_far r.header.scheme records taken)
    → HasKnown told.known.entries r.header.scheme (newest.made ∷ trace_of records) (with_verdicts r.header.scheme newest records warnings (verdicts_so_far r.header.scheme records taken)) new.known
    → IsTelling told.options r.header.scheme (newest ∷ records) (unknown ∷ told_of_taken told r.header.scheme records taken) new.telling
    → new.user ≡ counts_after false r.user unknown → new.kernel ≡ counts_after true r.kernel unknown
    → HasSeen told.options told.known (newest ∷ records) (warnings ∷ taken) new
seen_more told r new records taken newest warnings unknown seen header kept scheme follows are number past is known telling user kernel =
    let same = sym header in
    let all : List Warning → List (List Warning) = λ some. some ∷ told_of_taken told r.header.scheme records taken in
    record {
      follows = follows;
      scheme = scheme ∙ seen.scheme ∙ ap (λ (h : Header). h.scheme) same;
      options_are = kept ∙ seen.options_are;
      are = subst (λ (h : Header). AreTakenBy told.options.filter h.scheme (newest ∷ records) (warnings ∷ taken)) same are;
      number = omega (arith, number, seen.number);
      past = past;
      has_known = subst (λ (h : Header). HasKnown told.known.entries h.scheme (newest.made ∷ trace_of records) (with_verdicts h.scheme newest records warnings (verdicts_so_far h.scheme records taken)) new.known) same known;
      telling = subst (λ (h : Header). IsTelling told.options h.scheme (newest ∷ records) (told_of_taken told h.scheme (newest ∷ records) (warnings ∷ taken)) new.telling) same
          (subst (λ (some : List Warning). IsTelling told.options r.header.scheme (newest ∷ records) (all some) new.telling) is telling);
      user = subst (λ (h : Header). new.user ≡ counts_of false (told_of_taken told h.scheme (newest ∷ records) (warnings ∷ taken))) same
          (user ∙ ap₂ (λ (counts : VerdictCounts) (some : List Warning). counts_after false counts some) seen.user is);
      kernel = subst (λ (h : Header). new.kernel ≡ counts_of true (told_of_taken told h.scheme (newest ∷ records) (warnings ∷ taken))) same
          (kernel ∙ ap₂ (λ (counts : VerdictCounts) (some : List Warning). counts_after true counts some) seen.kernel is);
    }

-- ---- how many verdicts there are

more_verdicts : (verdict : Verdict) (counts : VerdictCounts) → sum_of (with_verdict verdict counts) ≡ sum_of counts + 1
more_verdicts Free counts = omega arith
more_verdicts Reuse counts = omega arith
more_verdicts Claimed counts = omega arith
more_verdicts Used counts = omega arith

one_counted : (b : Bool) (w : Warning) (user kernel : VerdictCounts) → w.entry.global ≡ b → sum_of (counted false w user) + sum_of (counted true w kernel) ≡ sum_of user + sum_of kernel + 1
one_counted true w user kernel e = rw e (omega (arith, more_verdicts w.verdict kernel))
one_counted false w user kernel e = rw e (omega (arith, more_verdicts w.verdict user))

each_counted : (warnings : List Warning) (user kernel : VerdictCounts) → sum_of (counts_after false user warnings) + sum_of (counts_after true kernel warnings) ≡ sum_of user + sum_of kernel + length warnings
each_counted [] user kernel = omega arith
each_counted (w ∷ warnings) user kernel = omega (arith, each_counted warnings (counted false w user) (counted true w kernel), one_counted w.entry.global w user kernel refl)

abbrev pub count_in : List (List Warning) → ℕ
count_in given = sum_of (counts_of false given) + sum_of (counts_of true given)

one_more : (warnings : List Warning) (given : List (List Warning)) → count_in (warnings ∷ given) ≡ count_in given + length warnings
one_more warnings given = each_counted warnings (counts_of false given) (counts_of true given)

-- ---- whether there is one

some_given : (filter : Filter) (scheme : Scheme) (newest : Record) (trace : Trace) (warnings : List Warning) → AreWarnings scheme newest trace warnings → 0 < length (kept_by (takes filter) warnings)
    → GivesAt filter scheme newest trace
some_given filter scheme newest trace warnings are some =
    let first = first_of (kept_by (takes filter) warnings) some in
    let from = from_kept (takes filter) warnings first.0 first.1 in
    (first.0.verdict, first.0.hart, shown_of first.0, (are.each first.0 from.0).0, from.1)

pub given_is_some : (filter : Filter) (scheme : Scheme) (newest : Record) (trace : Trace) (warnings : List Warning) → AreWarnings scheme newest trace warnings → GivesAt filter scheme newest trace
    → 0 < length (kept_by (takes filter) warnings)
given_is_some filter scheme newest trace warnings are gives =
    let w = are.all gives.0 gives.1 gives.2 gives.3 in
    let among = to_kept (takes filter) warnings w.0 w.1 (same_taken filter w.0 gives.0 gives.1 gives.2 w.2 w.3 w.4 ∙ gives.4) in
    omega (arith, among.1)

gives_more : (filter : Filter) (scheme : Scheme) (newest : Record) (trace : Trace) (warnings : List Warning) (n m : ℕ) → AreWarnings scheme newest trace warnings → (0 < n → GivesVerdict filter scheme trace)
    → length (kept_by (takes filter) warnings) ≡ m → 0 < n + m → GivesVerdict filter scheme (newest ∷ trace)
gives_more filter scheme newest trace warnings n zero are rest is some = inr (rest (omega (arith, some)))
gives_more filter scheme newest trace warnings n (suc m) are rest is some = inl (some_given filter scheme newest trace warnings are (omega (arith, is)))

gives_some : (filter : Filter) (scheme : Scheme) (records : List Noted) (given : List (List Warning)) → AreGiven scheme records given → 0 < count_in (taken filter given) → GivesVerdict filter scheme (trace_of records)
gives_some filter scheme [] [] are some = absurd (omega (arith, some))
gives_some filter scheme [] (warnings ∷ given) are some = absurd are
gives_some filter scheme (newest ∷ records) [] are some = absurd are
gives_some filter scheme (newest ∷ records) (warnings ∷ given) are some =
    gives_more filter scheme newest.made (trace_of records) warnings (count_in (taken filter given)) _ are.0 (gives_some filter scheme records given are.1) refl
    (omega (arith, some, one_more (kept_by (takes filter) warnings) (taken filter given)))

count_positive : (filter : Filter) (scheme : Scheme) (records : List Noted) (given : List (List Warning)) → AreGiven scheme records given → GivesVerdict filter scheme (trace_of records) → 0 < count_in (taken filter given)
count_positive filter scheme [] [] are gives = absurd gives
count_positive filter scheme [] (warnings ∷ given) are gives = absurd are
count_positive filter scheme (newest ∷ records) [] are gives = absurd are
count_positive filter scheme (newest ∷ records) (warnings ∷ given) are (inl gives) =
    omega (arith, given_is_some filter scheme newest.made (trace_of records) warnings are.0 gives, one_more (kept_by (takes filter) warnings) (taken filter given))
count_positive filter scheme (newest ∷ records) (warnings ∷ given) are (inr gives) =
    omega (arith, count_positive filter scheme records given are.1 gives, one_more (kept_by (takes filter) warnings) (taken filter given))

-- there is a verdict just where one is counted
either_positive : (n m : ℕ) → nat_lt 0 (n + m) ≡ nat_lt 0 m || nat_lt 0 n
either_positive n zero = let same : n + zero ≡ n = omega arith in ap (nat_lt 0) same
either_positive n (suc m) =
    lt-ltb 0 (n + suc m) (omega arith) ∙ sym (ap (λ (b : Bool). b || nat_lt 0 n) (lt-ltb 0 (suc m) (omega arith)))

pub counts_say : (given : List (List Warning)) → nat_lt 0 (count_in given) ≡ has_verdict given
counts_say [] = refl
counts_say (warnings ∷ given) =
    ap (nat_lt 0) (one_more warnings given) ∙ either_positive (count_in given) (length warnings)
    ∙ ap (λ (b : Bool). nat_lt 0 (length warnings) || b) (counts_say given)

pub taken_say : (filter : Filter) (scheme : Scheme) (records : List Noted) (all : List (List Warning)) → AreTakenBy filter scheme records all → (has_verdict all ≡ true) ↔ GivesVerdict filter scheme (trace_of records)
taken_say filter scheme records all are =
    let kept : List (List Warning) = taken filter are.0 in
    subst (λ (t : List (List Warning)). (has_verdict t ≡ true) ↔ GivesVerdict filter scheme (trace_of records)) (sym are.2) (
      λ t. gives_some filter scheme records are.0 are.1 (ltb-true 0 (count_in kept) (counts_say kept ∙ t)),
      λ gives. sym (counts_say kept) ∙ lt-ltb 0 (count_in kept) (count_positive filter scheme records are.0 are.1 gives),
    )

-- ---- the last lines

pub last_parts : (none first second third written totals lines summary : List ℕ) → none ≡ [] → first ≡ none ++ totals → second ≡ first ++ lines → third ≡ second ++ summary → written ≡ third
    → written ≡ totals ++ (lines ++ summary)
last_parts none first second third written totals lines summary a b c d e =
    e ∙ d ∙ ap (λ (l : List ℕ). l ++ summary) (c ∙ ap (λ (l : List ℕ). l ++ lines) (b ∙ ap (λ (l : List ℕ). l ++ totals) a))
    ∙ append_assoc totals lines summary

pub whole_text : (told : Told) (wrong : Option ℕ) (scheme : Scheme) (records : List Noted) (taken : List (List Warning)) (some : Bool) (user kernel : VerdictCounts) (number : ℕ) (design : Option ℕ) → AreTakenBy told.options.filter scheme records taken
    → some ≡ nat_lt 0 (sum_of user + sum_of kernel) → user ≡ counts_of false (told_of_taken told scheme records taken) → kernel ≡ counts_of true (told_of_taken told scheme records taken) → number ≡ length records
    → design ≡ design_sum told.known.entries (counts_by told scheme records taken)
    → WholeText told wrong scheme records some (told_text told scheme records (told_of_taken told scheme records taken)
    ++ (totals_by told.options told.file scheme records (told_of_taken told scheme records taken)
    ++ (known_text told.options.form told.options.detail told.known (counts_by told scheme records taken) ++ summary_as told.options.form told.file number wrong user kernel design)))
whole_text told wrong scheme records taken some user kernel number design are is a b n d =
    let same : some ≡ has_verdict (told_of_taken told scheme records taken) =
    is ∙ (ap₂ (λ (u k : VerdictCounts). nat_lt 0 (sum_of u + sum_of k)) a b ∙ counts_say (told_of_taken told scheme records taken)) in
    rw (a, b, n, d) (taken, are, refl, same)

-- ---- where a write fails

lines_of_none : (form : Form) (file : List ℕ) (trigger : Option Trigger) (newest : Noted) (records : List Noted) → lines_by form file trigger newest records [] ≡ []
lines_of_none form file None newest records = refl
lines_of_none form file (Some trigger) newest records = refl

blocks_of_none : (form : Form) (file : List ℕ) (number : ℕ) (trigger : Option Trigger) (newest : Noted) (records : List Noted) → blocks_by form file number trigger newest records [] ≡ []
blocks_of_none form file number None newest records = refl
blocks_of_none form file number (Some trigger) newest records = refl

none_of_none : (most : Option ℕ) → at_most {A = Warning} most [] ≡ []
none_of_none None = refl
none_of_none (Some most) = take-nil most

no_more : (most : Option ℕ) (tallies : List Tally) → length (at_most most tallies) ≤ length tallies
no_more None tallies = omega arith
no_more (Some most) tallies = omega (arith, length-take most tallies, min-le_right most (length tallies))

-- of a record without a verdict nothing is told
none_by : (detail : Detail) (options : Options) (file : List ℕ) (scheme : Scheme) (newest : Noted) (records : List Noted) (given : List (List Warning)) → told_by detail options file scheme newest records [] given ≡ []
none_by Verdicts options file scheme newest records given =
    ap (lines_by options.form file (trigger_of records newest.made) newest records) (none_of_none (left_after options.most (verdicts_in given)))
    ∙ lines_of_none options.form file (trigger_of records newest.made) newest records
none_by Causes options file scheme newest records given =
    let tallies = tallies_after scheme records given in
    ap (blocks_by options.form file (length tallies + 1) (trigger_of records newest.made) newest records) (drop_all (length tallies) (at_most options.most tallies) (no_more options.most tallies))
    ∙ blocks_of_none options.form file (length tallies + 1) (trigger_of records newest.made) newest records
none_by Counts options file scheme newest records given = refl

some_counted : (options : Options) (file : List ℕ) (scheme : Scheme) (newest : Noted) (records : List Noted) (given : List (List Warning)) (warnings : List Warning)
    → 0 < length (told_at options file scheme newest records warnings given) → nat_lt 0 (count_in (warnings ∷ given)) ≡ true
some_counted options file scheme newest records given [] some = absurd (omega (arith, some, ap length (none_by options.detail options file scheme newest records given)))
some_counted options file scheme newest records given (w ∷ warnings) some = lt-ltb 0 (count_in ((w ∷ warnings) ∷ given)) (omega (arith, one_more (w ∷ warnings) given))

-- at what is told of a record
pub fails_at_record : (told : Told) (fault : WriteFault) (some : Bool) (scheme : Scheme) (newest : Noted) (records : List Noted) (taken : List (List Warning)) (warnings : List Warning) (user kernel : VerdictCounts) (start mid out : Option (List ℕ))
    → AreTakenBy told.options.filter scheme (newest ∷ records) (warnings ∷ taken) → some ≡ nat_lt 0 (sum_of user + sum_of kernel)
    → user ≡ counts_of false (told_of_taken told scheme (newest ∷ records) (warnings ∷ taken)) → kernel ≡ counts_of true (told_of_taken told scheme (newest ∷ records) (warnings ∷ taken))
    → Appends start mid (told_text told scheme records (told_of_taken told scheme records taken))
    → 0 < length (next_text told scheme newest records warnings taken) → AppendsFront mid out (next_text told scheme newest records warnings taken)
    → FailsAtRecord (unwritten fault some) told scheme newest records start out
fails_at_record told write.Failed some scheme newest records taken warnings user kernel start mid out are is a b written long front =
    (told_text told scheme (newest ∷ records) (told_of_taken told scheme (newest ∷ records) (warnings ∷ taken)), (warnings ∷ taken, are, refl), front_after start mid out _ _ written front)
fails_at_record told write.BrokenPipe some scheme newest records taken warnings user kernel start mid out are is a b written long front =
    let before : List (List Warning) = told_of_taken told scheme records taken in
    let next : List Warning = unknown_at told.known.entries scheme newest records warnings (verdicts_so_far scheme records taken) in
    let counted = some_counted told.options told.file scheme newest records before next long in
    let is_some : some ≡ true = is ∙ (ap₂ (λ (u k : VerdictCounts). nat_lt 0 (sum_of u + sum_of k)) a b ∙ counted) in
    subst (λ (s : Bool). FailsAtRecord (unwritten write.BrokenPipe s) told scheme newest records start out) (sym is_some) (
      (warnings ∷ taken, are, sym (counts_say (next ∷ before)) ∙ counted),
      (told_text told scheme (newest ∷ records) (next ∷ before), (warnings ∷ taken, are, refl), front_after start mid out _ _ written front),
    )

pub fails_at_line : (fault : ReadingFault) (told : Told) (header : Header) (number : ℕ) (line by : List ℕ) (made : Record) (records : List Noted) (start out : Option (List ℕ))
    → line_in header line ≡ Some (record_of made by) → FailsAtRecord fault told header.scheme (record { made = made; by = by; line = number }) records start out → FailsAtLine fault told header number line records start out
fails_at_line Unreadable told header number line by made records start out e fails = absurd fails
fails_at_line Output told header number line by made records start out e fails = rw e (refl, fails)
fails_at_line BrokenPipe told header number line by made records start out e fails = absurd fails
fails_at_line BrokenPipeWarned told header number line by made records start out e fails = rw e (refl, fails.0, fails.1)
fails_at_line NoMemory told header number line by made records start out e fails = fails

-- at the last lines
pub fails_at_end : (told : Told) (wrong : Option ℕ) (fault : WriteFault) (scheme : Scheme) (records : List Noted) (some : Bool) (before last : List ℕ) (start mid out : Option (List ℕ))
    → WholeText told wrong scheme records some (before ++ last) → Appends start mid before → AppendsFront mid out last → FailsAtEnd (unwritten fault some) told wrong scheme records start out
fails_at_end told wrong write.BrokenPipe scheme records true before last start mid out whole written front =
    (before ++ last, whole, front_after start mid out before last written front)
fails_at_end told wrong write.BrokenPipe scheme records false before last start mid out whole written front =
    (before ++ last, whole, front_after start mid out before last written front)
fails_at_end told wrong write.Failed scheme records some before last start mid out whole written front =
    (some, (before ++ last, whole, front_after start mid out before last written front))
