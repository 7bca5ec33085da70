-- The worked reports, computed.
use Rattle.std.proofs.Common.{◌≡◌, ℕ, zero, suc, get_or, take, codes, true, false, List, [], ◌∷◌, ◌++◌, Option, Some, None, inl, inr, refl, sym, ap, subst, ◌∙◌, length, arith}
use Rattle.std.specs.Fmt.{digits}
use Rattle.std.specs.Str.{bytes_eq}
use Rattle.std.proofs.lemmas.Bool.{false≢true}
use Rattle.pte.specs.declared.scheme.Scheme.{Scheme}
use Rattle.pte.specs.declared.scheme.Scheme.TheVariants.{Sv39, Sv48}
use Rattle.watch.specs.declared.trace.Record.TheVariants.{Use}
use Rattle.watch.specs.declared.trace.Verdict.{Verdict}
use Rattle.watch.specs.declared.trace.Verdict.TheVariants.{Free, Reuse, Claimed, Used}
use Rattle.watch.specs.Holding.{Translation}
use Rattle.watch.specs.Verdicts.{IsGiven}
use Rattle.watch_engine.specs.declared.warning.Warning.{Warning}
use Rattle.watch_engine.specs.Warnings.{AreWarnings, shown_of}
use Rattle.watch_report.specs.declared.line_fault.LineFault.{LineFault}
use Rattle.watch_report.specs.Filters.{no_filter}
use Rattle.watch_report.specs.TraceText.{Noted, body_of, records_of}
use Rattle.watch_report.specs.declared.detail.Detail.TheVariants.{Causes, Counts, Verdicts}
use Rattle.watch_report.specs.Reports.{TellsVerdict, WholeText, end_text, told_of_taken, told_text}
use Rattle.watch_report.specs.Orders.{order_key}
use Rattle.watch_report.specs.VerdictLines.{AreGiven, GivesVerdict}
use Rattle.watch_report.specs.NoteLines.{most_harts}
use Rattle.watch_report.specs.WorkedReports as rows
use Rattle.watch_report.proofs.FilterLemmas.{all_taken}
use Rattle.watch_report.proofs.KnownLaws.{told_is_due}
use Rattle.watch_report.proofs.OrderLemmas.{one_in_order}

-- no verdict at the first record, which is an access
nothing_given : (scheme : Scheme) (verdict : Verdict) (of address hart : ℕ) (x : Translation) → IsGiven scheme verdict (Use of address) [] hart x → ⊥
nothing_given scheme Free of address hart x given = given
nothing_given scheme Reuse of address hart x given = given
nothing_given scheme Claimed of address hart x given = given
nothing_given scheme Used of address hart x given = given.1

none_at_first : (scheme : Scheme) (of address : ℕ) → AreWarnings scheme (Use of address) [] []
none_at_first scheme of address =
    record {
      each = λ w among. absurd (omega (arith, among.1));
      all = λ verdict hart x due. absurd (nothing_given scheme verdict of address hart x due.given);
      once = λ i j d before among. absurd (omega (arith, among));
    }

pub gives_none : (scheme : Scheme) (of address : ℕ) → GivesVerdict no_filter scheme (Use of address ∷ []) → ⊥
gives_none scheme of address (inl (verdict, hart, x, due, passes)) = nothing_given scheme verdict of address hart x due.given
gives_none scheme of address (inr nothing) = nothing

whole : (scheme : Scheme) (of address : ℕ) (by : List ℕ) (line : ℕ) → WholeText (rows.about Verdicts) None scheme (record { made = Use of address; by = by; line = line } ∷ []) false (codes "1 record, no verdict\n")
unfolding digits
whole scheme of address by line = ([] ∷ [], ([] ∷ [], (none_at_first scheme of address, tt), refl, (one_in_order [] (omega arith), tt)), refl, refl)

-- the last line says which line is wrong
before_a_fault : (of address : ℕ) (by : List ℕ) (line : ℕ) → WholeText (rows.about Verdicts) (Some 3) Sv39 (record { made = Use of address; by = by; line = line } ∷ []) false (codes "1 record before line 3, no verdict\n")
unfolding digits
before_a_fault of address by line = ([] ∷ [], ([] ∷ [], (none_at_first Sv39 of address, tt), refl, (one_in_order [] (omega arith), tt)), refl, refl)

-- nor is anything told in another detail
whole_by_causes : (of address : ℕ) (by : List ℕ) (line : ℕ) → WholeText (rows.about Causes) None Sv39 (record { made = Use of address; by = by; line = line } ∷ []) false (codes "1 record, no verdict\n")
unfolding digits
whole_by_causes of address by line = ([] ∷ [], ([] ∷ [], (none_at_first Sv39 of address, tt), refl, (one_in_order [] (omega arith), tt)), refl, refl)

whole_by_counts : (of address : ℕ) (by : List ℕ) (line : ℕ) → WholeText (rows.about Counts) None Sv39 (record { made = Use of address; by = by; line = line } ∷ []) false (codes "1 record, no verdict\n")
unfolding digits
whole_by_counts of address by line = ([] ∷ [], ([] ∷ [], (none_at_first Sv39 of address, tt), refl, (one_in_order [] (omega arith), tt)), refl, refl)

pub done : rows.done
unfolding rows.PrintsBy
done Verdicts = (refl, (_, whole Sv39 1 0x1000 (codes "here") 5, refl))
done Causes = (refl, (_, whole_by_causes 1 0x1000 (codes "here") 5, refl))
done Counts = (refl, (_, whole_by_counts 1 0x1000 (codes "here") 5, refl))

pub done_without_a_feed : rows.done_without_a_feed
unfolding rows.PrintsBy
done_without_a_feed = (refl, (_, whole Sv48 1 0x1000 [] 2, refl))

pub header_alone : rows.header_alone
unfolding digits rows.PrintsBy
header_alone = (refl, (codes "0 records, no verdict\n", ([], ([], tt, refl, tt), refl, refl), refl))

pub no_line : rows.no_line
unfolding rows.PrintsBy
no_line = (refl, refl, ([], (refl, refl), refl))

pub no_header : rows.no_header
unfolding rows.PrintsBy
no_header = (refl, refl, ([], (refl, refl), refl))

pub faulty : rows.faulty
unfolding rows.PrintsBy
faulty = (refl, refl, (_, before_a_fault 0 0x1000 [] 2, refl))

pub torn : rows.torn
unfolding rows.PrintsBy
torn = ([], body_of rows.used_once, refl, ([], ([], ([], tt, refl, tt), refl), refl))

pub cut_off : rows.cut_off
unfolding rows.PrintsBy
cut_off = inr (false, (_, whole Sv39 1 0x1000 (codes "here") 5, (5, refl)))

pub cut_off_at_a_fault : rows.cut_off_at_a_fault
unfolding rows.PrintsBy
cut_off_at_a_fault = inr (false, (_, before_a_fault 0 0x1000 [] 2, (5, refl)))

pub unread : rows.unread
unfolding rows.PrintsBy
unread = (refl, (_, whole Sv39 1 0x1000 (codes "here") 5, (5, refl)))

pub unread_at_a_fault : rows.unread_at_a_fault
unfolding rows.PrintsBy
unread_at_a_fault = (refl, refl, (_, before_a_fault 0 0x1000 [] 2, (5, refl)))

pub ruleset endings = (done, done_without_a_feed, header_alone, no_line, no_header, faulty, torn, cut_off, cut_off_at_a_fault, unread, unread_at_a_fault)

-- ---- what is not so

abbrev number_in : Option ℕ → ℕ
number_in None = 0
number_in (Some n) = n

pub other_line : rows.other_line
unfolding rows.PrintsBy
other_line ends = let same : 3 ≡ 4 = ap number_in ends.0 in omega (arith, same)

abbrev column_in : Option LineFault → ℕ
column_in None = 0
column_in (Some fault) = fault.column

pub other_fault : rows.other_fault
unfolding rows.PrintsBy
other_fault ends = let same : 3 ≡ 4 = ap column_in ends.1 in omega (arith, same)

pub done_with_a_fault : rows.done_with_a_fault
unfolding rows.PrintsBy
done_with_a_fault ends = let same : 3 ≡ 0 = ap number_in ends.0 in omega (arith, same)

pub warned_without_a_verdict : rows.warned_without_a_verdict
unfolding rows.PrintsBy
warned_without_a_verdict (none, (text, (given, are, is, says), written)) = gives_none Sv39 1 0x1000 (told_is_due [] no_filter Sv39 (record { made = Use 1 0x1000; by = codes "here"; line = 5 } ∷ []) given are (sym says))

pub warned_at_a_fault : rows.warned_at_a_fault
unfolding rows.PrintsBy
warned_at_a_fault (number, fault, (text, (given, are, is, says), written)) = gives_none Sv39 0 0x1000 (told_is_due [] no_filter Sv39 (record { made = Use 0 0x1000; by = []; line = 2 } ∷ []) given are (sym says))

pub warned_without_a_header : rows.warned_without_a_header
unfolding rows.PrintsBy
warned_without_a_header (number, fault, (text, (some, is), written)) = false≢true (sym some)

no_bytes : (byte : ℕ) (rest : List ℕ) → [] ≡ byte ∷ rest → ⊥
no_bytes byte rest e = let long = ap length e in omega (arith, long)

pub nothing_printed : rows.nothing_printed
unfolding digits rows.PrintsBy
nothing_printed (none, (text, (given, are, is, says), written)) = no_bytes _ _ (written ∙ is)

abbrev one_use : List Noted
one_use = record { made = Use 0 0x1000; by = []; line = 2 } ∷ []

-- the last line has bytes, whatever stands before it
no_end : (before : List ℕ) (byte : ℕ) (rest : List ℕ) → [] ≡ before ++ byte ∷ rest → ⊥
no_end [] byte rest e = no_bytes byte rest e
no_end (first ∷ before) byte rest e = no_bytes first (before ++ byte ∷ rest) e

pub no_last_line_at_a_fault : rows.no_last_line_at_a_fault
unfolding digits rows.PrintsBy
no_last_line_at_a_fault (number, fault, (text, (given, are, is, says), written)) = no_end (told_text (rows.about Verdicts) Sv39 one_use (told_of_taken (rows.about Verdicts) Sv39 one_use given)) _ _ (written ∙ is)

differ : (told other : List ℕ) → bytes_eq told other ≡ false → bytes_eq other other ≡ true → told ≡ other → ⊥
differ told other is self same = false≢true (sym is ∙ ap (λ (t : List ℕ). bytes_eq t other) same ∙ self)

-- no warnings at the one record give a last line as of a whole trace
never_whole : (given : List (List Warning)) → AreGiven Sv39 one_use given
    → codes "1 record, no verdict\n" ≡ told_text (rows.about Verdicts) Sv39 one_use (told_of_taken (rows.about Verdicts) Sv39 one_use given) ++ end_text (rows.about Verdicts) (Some 3) Sv39 one_use given → ⊥
unfolding digits
never_whole [] are e = are
never_whole ([] ∷ []) are e = differ _ _ refl refl e
never_whole ([] ∷ more ∷ given) are e = are.1
never_whole ((w ∷ warnings) ∷ given) are e =
    gives_none Sv39 0 0x1000 (inl (w.verdict, w.hart, shown_of w, (are.0.each w (0, omega arith, refl)).0, refl))

pub whole_at_a_fault : rows.whole_at_a_fault
unfolding rows.PrintsBy
whole_at_a_fault (number, fault, (text, (given, (all, are, taken, order), is, says), written)) =
    never_whole given (subst (AreGiven Sv39 one_use) (sym (taken ∙ all_taken all)) are) (written ∙ is)

pub unread_before_a_fault : rows.unread_before_a_fault
unfolding rows.PrintsBy
unread_before_a_fault ends = let same : 3 ≡ 0 = ap number_in ends.0 in omega (arith, same)

none_before : (front back : List (List ℕ)) → front ++ back ≡ [] → TellsVerdict (rows.about Verdicts) Sv39 (records_of (record { harts = 2; scheme = Sv39 }) front) → ⊥
none_before [] back e (given, are, says) = false≢true says
none_before (line ∷ front) back e tells = let long = ap length e in omega (arith, long)

pub unread_without_a_verdict : rows.unread_without_a_verdict
unfolding rows.PrintsBy
unread_without_a_verdict (inl (front, back, e, none, gives, written)) = none_before front back e gives
unread_without_a_verdict (inr (none, (text, (given, are, is, says), written))) = false≢true (sym says)

abbrev accessed : List Noted
accessed = record { made = Use 1 0x1000; by = codes "here"; line = 5 } ∷ []

other_first : (k : ℕ) (rest : List ℕ) → codes "no" ≡ take k (49 ∷ rest) → ⊥
other_first zero rest e = no_bytes 110 (codes "o") (sym e)
other_first (suc k) rest e = let same : 110 ≡ 49 = ap (λ (l : List ℕ). get_or l 0 0) e in omega (arith, same)

-- no warnings at the one record give a last line that begins otherwise
never_other : (k : ℕ) (given : List (List Warning)) → AreGiven Sv39 accessed given
    → codes "no" ≡ take k (told_text (rows.about Verdicts) Sv39 accessed (told_of_taken (rows.about Verdicts) Sv39 accessed given) ++ end_text (rows.about Verdicts) None Sv39 accessed given) → ⊥
unfolding digits
never_other k [] are e = are
never_other k ([] ∷ []) are e = other_first k _ e
never_other k ([] ∷ more ∷ given) are e = are.1
never_other k ((w ∷ warnings) ∷ given) are e =
    gives_none Sv39 1 0x1000 (inl (w.verdict, w.hart, shown_of w, (are.0.each w (0, omega arith, refl)).0, refl))

pub unread_other_bytes : rows.unread_other_bytes
unfolding rows.PrintsBy
unread_other_bytes (none, (text, (given, (all, are, taken, order), is, says), (k, written))) =
    never_other k given (subst (AreGiven Sv39 accessed) (sym (taken ∙ all_taken all)) are) (written ∙ ap (take k) is)

pub ruleset refusals = (other_line, other_fault, done_with_a_fault, warned_without_a_verdict, warned_at_a_fault, warned_without_a_header, whole_at_a_fault, no_last_line_at_a_fault, nothing_printed, unread_before_a_fault, unread_without_a_verdict, unread_other_bytes)

-- ---- verdicts

pub lines_of_records : rows.lines_of_records
lines_of_records = refl

pub lines_of_verdicts : rows.lines_of_verdicts
unfolding digits
lines_of_verdicts = (refl, refl)

pub lines_of_cause : rows.lines_of_cause
unfolding digits most_harts
lines_of_cause = (refl, refl)

pub lines_of_causes : rows.lines_of_causes
unfolding digits most_harts
lines_of_causes = (refl, refl)

pub counts_alone : rows.counts_alone
unfolding digits
counts_alone = (refl, refl)

pub ruleset texts = (lines_of_records, lines_of_verdicts, lines_of_cause, lines_of_causes, counts_alone)

pub numbers_of_records : rows.numbers_of_records
unfolding digits
numbers_of_records says = differ _ _ refl refl says.0

pub no_block : rows.no_block
unfolding digits
no_block says = differ _ _ refl refl says.0

pub no_total : rows.no_total
unfolding digits most_harts
no_total says = differ _ _ refl refl says.1

pub block_of_counts : rows.block_of_counts
unfolding digits
block_of_counts says = differ _ _ refl refl says.0

pub ruleset refused = (numbers_of_records, no_block, no_total, block_of_counts)

-- ---- the order at a record

pub by_hart : rows.by_hart
unfolding order_key
by_hart zero d from within = refl
by_hart (suc zero) d from within = refl
by_hart (suc (suc k)) d from within = absurd (omega (arith, within))

pub by_page : rows.by_page
unfolding order_key
by_page zero d from within = refl
by_page (suc k) d from within = absurd (omega (arith, within))

pub by_owner : rows.by_owner
unfolding order_key
by_owner zero d from within = refl
by_owner (suc k) d from within = absurd (omega (arith, within))

pub by_kind : rows.by_kind
unfolding order_key
by_kind zero d from within = refl
by_kind (suc k) d from within = absurd (omega (arith, within))

pub hart_too_late : rows.hart_too_late
unfolding order_key
hart_too_late order = false≢true (sym (order 0 (rows.warning_of Free false) (omega arith) (omega arith)))

pub page_too_late : rows.page_too_late
unfolding order_key
page_too_late order = false≢true (sym (order 0 (rows.warning_of Free false) (omega arith) (omega arith)))

pub kind_too_late : rows.kind_too_late
unfolding order_key
kind_too_late order = false≢true (sym (order 0 (rows.warning_of Free false) (omega arith) (omega arith)))

pub by_size : rows.by_size
unfolding order_key
by_size zero d from within = refl
by_size (suc k) d from within = absurd (omega (arith, within))

pub by_ppn : rows.by_ppn
unfolding order_key
by_ppn zero d from within = refl
by_ppn (suc k) d from within = absurd (omega (arith, within))

pub by_rights : rows.by_rights
unfolding order_key
by_rights zero d from within = refl
by_rights (suc zero) d from within = refl
by_rights (suc (suc zero)) d from within = refl
by_rights (suc (suc (suc k))) d from within = absurd (omega (arith, within))

pub by_root : rows.by_root
unfolding order_key
by_root zero d from within = refl
by_root (suc k) d from within = absurd (omega (arith, within))

pub rights_too_late : rows.rights_too_late
unfolding order_key
rights_too_late order = false≢true (sym (order 0 (rows.warning_of Free false) (omega arith) (omega arith)))

pub root_too_late : rows.root_too_late
unfolding order_key
root_too_late order = false≢true (sym (order 0 (rows.warning_of Free false) (omega arith) (omega arith)))

pub ruleset orders = (by_hart, by_page, by_size, by_ppn, by_rights, by_owner, by_kind, by_root, hart_too_late, page_too_late, rights_too_late, kind_too_late, root_too_late)
