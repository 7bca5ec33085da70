-- How the report of a trace ends.
use Rattle.std.proofs.Common.{◌≡◌, inl, inr, ℕ, ◌+◌, ◌-◌, Bool, true, false, List, [], ◌∷◌, ◌++◌, length, drop, Option, Some, None, IfSome, is_none, Result, Ok, Err, IfOk, IfErr, get_or, cond, nat_lt, option_map, refl, sym, ap, subst, ◌∙◌, arith, append_assoc, append-nil, length-append}
use Rattle.std.specs.List.{position_or_len}
use Rattle.std.proofs.KnownBytes.{Appends-nil}
use Rattle.std.proofs.lemmas.Bool.{false≢true}
use Rattle.std.proofs.lemmas.Bool.Decides.{nat_tests}
use Rattle.std.proofs.lemmas.List.{get_or_at}
use Rattle.pte.specs.declared.scheme.Scheme.{Scheme}
use Rattle.watch_report.specs.declared.header.Header.{Header}
use Rattle.watch_report.specs.declared.line_fault.LineFault.{LineFault}
use Rattle.watch_report.specs.LineFaults.{fault_of, header_fault}
use Rattle.watch_report.specs.TraceLines.{LineText, line_in}
use Rattle.watch_report.specs.declared.fault.ReportFault.{ReportFault}
use Rattle.watch_report.specs.declared.fault.ReportFault.TheVariants as reported
use Rattle.watch_report.specs.declared.reading_fault.ReadingFault.{ReadingFault}
use Rattle.watch_report.specs.declared.reading_fault.ReadingFault.TheVariants.{Unreadable, Output, BrokenPipe, BrokenPipeWarned, NoMemory}
use Rattle.watch_report.specs.declared.reading.Reading.{Reading}
use Rattle.watch_report.specs.Ending.{Ends, EndsBy, IsAtLine, Tells, report_at}
use Rattle.watch_report.specs.Output.{WritesAll, WritesFront}
use Rattle.watch_report.specs.Reading.{FailsAtEnd, FailsAtLine, IsReadFault, Stands, report_fault_of}
use Rattle.watch_report.specs.TraceText.{Noted, body_of, fault_in, faulty_line, has_no_form, header_of, lines_of, records_of, said_first, with_record}
use Rattle.watch_report.specs.Reports.{TellsVerdict, Told, VerdictText, WholeText, told_of_taken, told_text}
use Rattle.watch_report.proofs.ReadLemmas.{AreTaken, IsText, all_formed, more_taken, records_of_all, records_of_front, stops}

-- ---- within the lines after the header

-- of these lines all is written
pub written_of : (told : Told) (start out : Option (List ℕ)) (header : Header) (records : List Noted) (r : Reading) → r.header ≡ header → Stands told start out records r → WritesAll (VerdictText told header.scheme records) start out
written_of told start out header records r e at =
    subst (λ (h : Header). WritesAll (VerdictText told h.scheme records) start out) e (told_text told r.header.scheme records (told_of_taken told r.header.scheme records at.taken), (at.taken, at.seen.are, refl), at.written)

pub ends_within : (told : Told) (header : Header) (read tail : List (List ℕ)) (records : List Noted) (start out : Option (List ℕ)) → AreTaken header read records → WritesAll (VerdictText told header.scheme records) start out
    → EndsBy told (Ok header) (read ++ tail) (Err reported.NoMemory) start out
ends_within told header read tail records start out at written =
    (read, tail, refl, subst (λ (r : List Noted). WritesAll (VerdictText told header.scheme r) start out) (sym (records_of_all header read records at)) written)

-- at a line that was not read
pub ends_unread : (told : Told) (fault : ReadingFault) (header : Header) (read tail : List (List ℕ)) (records : List Noted) (start out : Option (List ℕ)) → IsReadFault fault → AreTaken header read records
    → WritesAll (VerdictText told header.scheme records) start out → EndsBy told (Ok header) (read ++ tail) (Err (report_fault_of fault)) start out
ends_unread told Unreadable header read tail records start out is at written = ends_within told header read tail records start out at written
ends_unread told Output header read tail records start out is at written = absurd is
ends_unread told BrokenPipe header read tail records start out is at written = absurd is
ends_unread told BrokenPipeWarned header read tail records start out is at written = absurd is
ends_unread told NoMemory header read tail records start out is at written = ends_within told header read tail records start out at written

pub faultless : (header : Header) (lines : List (List ℕ)) (records : List Noted) → AreTaken header lines records → faulty_line (Ok header) lines ≡ None
faultless header lines records at =
    let most : nat_lt (length lines) (length lines) ≡ false = grind (arith, nat_tests) in
    ap (λ n. option_map (λ k. k + 2) (cond (nat_lt n (length lines)) (Some n) None)) (all_formed header lines records at)
    ∙ ap (λ b. option_map (λ k. k + 2) (cond b (Some (length lines)) None)) most

-- what is said of no wrong line is said of these lines
all_told : (header : Header) (lines : List (List ℕ)) (records : List Noted) (Says : Option ℕ → List Noted → Type 0) → AreTaken header lines records → Says None records
    → Says (faulty_line (Ok header) lines) (records_of header lines)
all_told header lines records Says at says =
    subst (λ (wrong : Option ℕ). Says wrong (records_of header lines)) (sym (faultless header lines records at)) (subst (Says None) (sym (records_of_all header lines records at)) says)

-- at a line that was read
pub ends_at_line : (told : Told) (fault : ReadingFault) (header : Header) (number : ℕ) (read tail : List (List ℕ)) (line : List ℕ) (records : List Noted) (start out : Option (List ℕ)) → number ≡ length read + 2
    → AreTaken header read records → FailsAtLine fault told header number line records start out → EndsBy told (Ok header) (read ++ line ∷ tail) (Err (report_fault_of fault)) start out
ends_at_line told Unreadable header number read tail line records start out e at fails = absurd fails
ends_at_line told Output header number read tail line records start out e at fails =
    inl (
      read ++ line ∷ [],
      tail,
      append_assoc read (line ∷ []) tail,
      subst (λ (r : List Noted). WritesFront (VerdictText told header.scheme r) start out) (sym (records_of_all header (read ++ line ∷ []) _ (more_taken header read number line records e at fails.0))) fails.1,
    )
ends_at_line told BrokenPipe header number read tail line records start out e at fails = absurd fails
ends_at_line told BrokenPipeWarned header number read tail line records start out e at fails =
    let front : List (List ℕ) = read ++ line ∷ [] in
    let taken = more_taken header read number line records e at fails.0 in
    let all = sym (records_of_all header front _ taken) in
    inl (
      front,
      tail,
      append_assoc read (line ∷ []) tail,
      faultless header front _ taken,
      subst (λ (r : List Noted). TellsVerdict told header.scheme r) all fails.1,
      subst (λ (r : List Noted). WritesFront (VerdictText told header.scheme r) start out) all fails.2,
    )
ends_at_line told NoMemory header number read tail line records start out e at fails = ends_within told header read (line ∷ tail) records start out at fails

-- ---- at a line that has no form

pub faulty_at : (header : Header) (read tail : List (List ℕ)) (line : List ℕ) (records : List Noted) → AreTaken header read records → has_no_form header line ≡ true
    → faulty_line (Ok header) (read ++ line ∷ tail) ≡ Some (length read + 2)
faulty_at header read tail line records at none =
    let place : position_or_len (has_no_form header) (read ++ line ∷ tail) ≡ length read = omega (arith, at.formed (line ∷ tail), stops (has_no_form header) line tail none) in
    let less : nat_lt (length read) (length (read ++ line ∷ tail)) ≡ true = grind (arith, nat_tests, length-append read (line ∷ tail)) in
    ap (λ n. option_map (λ k. k + 2) (cond (nat_lt n (length (read ++ line ∷ tail))) (Some n) None)) place
    ∙ ap (λ b. option_map (λ k. k + 2) (cond b (Some (length read)) None)) less

line_at : (read tail : List (List ℕ)) (line : List ℕ) (place : ℕ) → place ≡ length read → get_or (read ++ line ∷ tail) place [] ≡ line
line_at read tail line place e = get_or_at read line tail [] place (sym e)

-- the lines before it have these records
front_told : (header : Header) (read tail : List (List ℕ)) (line : List ℕ) (records : List Noted) (Says : List Noted → Type 0) → AreTaken header read records → has_no_form header line ≡ true → Says records
    → Says (records_of header (read ++ line ∷ tail))
front_told header read tail line records Says at none says =
    subst Says (sym (records_of_front header read (line ∷ tail) records at (stops (has_no_form header) line tail none))) says

-- what is said of the last lines there is said of these lines
wrong_told : (header : Header) (number : ℕ) (read tail : List (List ℕ)) (line : List ℕ) (records : List Noted) (Says : Option ℕ → List Noted → Type 0) → number ≡ length read + 2 → AreTaken header read records
    → has_no_form header line ≡ true → Says (Some number) records → Says (faulty_line (Ok header) (read ++ line ∷ tail)) (records_of header (read ++ line ∷ tail))
wrong_told header number read tail line records Says e at none says =
    subst (λ (wrong : Option ℕ). Says wrong (records_of header (read ++ line ∷ tail))) (sym (faulty_at header read tail line records at none ∙ ap Some (sym e)))
    (front_told header read tail line records (Says (Some number)) at none says)

pub fault_there : (header : Header) (number : ℕ) (read tail : List (List ℕ)) (line : List ℕ) (fault : LineFault) → number ≡ length read + 2 → fault_of header line ≡ Some fault
    → fault_in (Ok header) (read ++ line ∷ tail) number ≡ Some fault
fault_there header number read tail line fault e is =
    ap (fault_of header) (line_at read tail line (number - 2) (omega (arith, e))) ∙ is

pub failed_end : (told : Told) (wrong : Option ℕ) (fault : ReadingFault) (old header : Header) (records : List Noted) (start out : Option (List ℕ)) → old ≡ header → FailsAtEnd fault told wrong old.scheme records start out
    → FailsAtEnd fault told wrong header.scheme records start out
failed_end told wrong fault old header records start out e fails = subst (λ (h : Header). FailsAtEnd fault told wrong h.scheme records start out) e fails

pub written_end : (told : Told) (wrong : Option ℕ) (some : Bool) (old header : Header) (records : List Noted) (start out : Option (List ℕ)) → old ≡ header → WritesAll (WholeText told wrong old.scheme records some) start out
    → WritesAll (WholeText told wrong header.scheme records some) start out
written_end told wrong some old header records start out e written = subst (λ (h : Header). WritesAll (WholeText told wrong h.scheme records some) start out) e written

-- how the last lines were written
abbrev pub Finishes : Told → Option ℕ → Scheme → List Noted → Option (List ℕ) → Option (List ℕ) → Result Bool ReadingFault → Type 0
Finishes told wrong scheme records start out (Ok some) = WritesAll (WholeText told wrong scheme records some) start out
Finishes told wrong scheme records start out (Err fault) = FailsAtEnd fault told wrong scheme records start out

pub finishes : (told : Told) (wrong : Option ℕ) (old header : Header) (records : List Noted) (start out : Option (List ℕ)) (finished : Result Bool ReadingFault) → old ≡ header
    → IfOk finished (λ some. WritesAll (WholeText told wrong old.scheme records some) start out) → IfErr finished (λ fault. FailsAtEnd fault told wrong old.scheme records start out)
    → Finishes told wrong header.scheme records start out finished
finishes told wrong old header records start out (Ok some) e written fails = written_end told wrong some old header records start out e written
finishes told wrong old header records start out (Err fault) e written fails = failed_end told wrong fault old header records start out e fails

pub ends_at_fault : (told : Told) (finished : Result Bool ReadingFault) (r : ReportFault) (header : Header) (number : ℕ) (read tail : List (List ℕ)) (line : List ℕ) (records : List Noted) (start out : Option (List ℕ))
    → number ≡ length read + 2 → AreTaken header read records → has_no_form header line ≡ true → IsAtLine number (fault_of header line) finished r
    → Finishes told (Some number) header.scheme records start out finished → EndsBy told (Ok header) (read ++ line ∷ tail) (Err r) start out
ends_at_fault told finished r header number read tail line records start out e at none is does =
    subst (λ (f : ReportFault). EndsBy told (Ok header) (read ++ line ∷ tail) (Err f) start out) (sym is.2) (by finished does)
  where
    faulty : faulty_line (Ok header) (read ++ line ∷ tail) ≡ Some number
    faulty = faulty_at header read tail line records at none ∙ ap Some (sym e)

    there : fault_in (Ok header) (read ++ line ∷ tail) number ≡ Some is.0
    there = fault_there header number read tail line is.0 e is.1

    said : (Says : Option ℕ → List Noted → Type 0) → Says (Some number) records → Says (faulty_line (Ok header) (read ++ line ∷ tail)) (records_of header (read ++ line ∷ tail))
    said Says says = wrong_told header number read tail line records Says e at none says

    by : (done : Result Bool ReadingFault) → Finishes told (Some number) header.scheme records start out done → EndsBy told (Ok header) (read ++ line ∷ tail) (Err (report_at number is.0 done)) start out
    by (Ok some) written =
        (faulty, there, said (λ (wrong : Option ℕ) (r : List Noted). WritesAll (WholeText told wrong header.scheme r some) start out) written)
    by (Err BrokenPipe) fails =
        (faulty, there, said (λ (wrong : Option ℕ) (r : List Noted). WritesFront (WholeText told wrong header.scheme r false) start out) fails)
    by (Err BrokenPipeWarned) fails =
        (faulty, there, said (λ (wrong : Option ℕ) (r : List Noted). WritesFront (WholeText told wrong header.scheme r true) start out) fails)
    by (Err Unreadable) fails = absurd fails
    by (Err Output) fails =
        inr (fails.0, said (λ (wrong : Option ℕ) (r : List Noted). WritesFront (WholeText told wrong header.scheme r fails.0) start out) fails.1)
    by (Err NoMemory) fails = ends_within told header read (line ∷ tail) records start out at fails

-- ---- at the end

pub ends_done : (told : Told) (some : Bool) (header : Header) (lines : List (List ℕ)) (records : List Noted) (start out : Option (List ℕ)) → AreTaken header lines records
    → WritesAll (WholeText told None header.scheme records some) start out → EndsBy told (Ok header) lines (Ok some) start out
ends_done told some header lines records start out at written =
    (faultless header lines records at, all_told header lines records (λ (wrong : Option ℕ) (r : List Noted). WritesAll (WholeText told wrong header.scheme r some) start out) at written)

pub ends_undone : (told : Told) (fault : ReadingFault) (header : Header) (lines : List (List ℕ)) (records : List Noted) (start out : Option (List ℕ)) → AreTaken header lines records
    → FailsAtEnd fault told None header.scheme records start out → EndsBy told (Ok header) lines (Err (report_fault_of fault)) start out
ends_undone told Unreadable header lines records start out at fails = absurd fails
ends_undone told Output header lines records start out at fails =
    inr (fails.0, all_told header lines records (λ (wrong : Option ℕ) (r : List Noted). WritesFront (WholeText told wrong header.scheme r fails.0) start out) at fails.1)
ends_undone told BrokenPipe header lines records start out at fails =
    (faultless header lines records at, all_told header lines records (λ (wrong : Option ℕ) (r : List Noted). WritesFront (WholeText told wrong header.scheme r false) start out) at fails)
ends_undone told BrokenPipeWarned header lines records start out at fails =
    inr (faultless header lines records at, all_told header lines records (λ (wrong : Option ℕ) (r : List Noted). WritesFront (WholeText told wrong header.scheme r true) start out) at fails)
ends_undone told NoMemory header lines records start out at fails =
    subst (λ (l : List (List ℕ)). EndsBy told (Ok header) l (Err reported.NoMemory) start out) (append-nil lines) (ends_within told header lines [] records start out at fails)

-- ---- what a step says, of the header and of the line that it was called for

pub formed_line : (b : Bool) (old header : Header) (given line : List ℕ) → old ≡ header → given ≡ line → has_no_form old given ≡ b → has_no_form header line ≡ b
formed_line b old header given line e f is =
    subst (λ (h : Header). has_no_form h line ≡ b) e (subst (λ (l : List ℕ). has_no_form old l ≡ b) f is)

pub took_line : (told : Told) (old header : Header) (number : ℕ) (given line : List ℕ) (records : List Noted) (start out : Option (List ℕ)) (r : Reading) → old ≡ header → given ≡ line
    → Stands told start out (with_record (line_in old given) number records) r → Stands told start out (with_record (line_in header line) number records) r
took_line told old header number given line records start out r e f took =
    subst (λ (h : Header). Stands told start out (with_record (line_in h line) number records) r) e
    (subst (λ (l : List ℕ). Stands told start out (with_record (line_in old l) number records) r) f took)

pub failed_line : (told : Told) (fault : ReadingFault) (old header : Header) (number : ℕ) (given line : List ℕ) (records : List Noted) (start out : Option (List ℕ)) → old ≡ header → given ≡ line
    → FailsAtLine fault told old number given records start out → FailsAtLine fault told header number line records start out
failed_line told fault old header number given line records start out e f fails =
    subst (λ (h : Header). FailsAtLine fault told h number line records start out) e (subst (λ (l : List ℕ). FailsAtLine fault told old number l records start out) f fails)

pub told_line : (number : ℕ) (header : Header) (given line : List ℕ) (finished : Result Bool ReadingFault) (r : ReportFault) → given ≡ line → IsAtLine number (fault_of header given) finished r
    → IsAtLine number (fault_of header line) finished r
told_line number header given line finished r e is = subst (λ (l : List ℕ). IsAtLine number (fault_of header l) finished r) e is

-- nothing was taken of a line that has no form
pub took_none : (told : Told) (header : Header) (number : ℕ) (line : List ℕ) (records : List Noted) (start out : Option (List ℕ)) (r : Reading) → has_no_form header line ≡ true
    → Stands told start out (with_record (line_in header line) number records) r → Stands told start out records r
took_none told header number line records start out r none took = by_line (line_in header line) none took
  where
    by_line : (said : Option LineText) → is_none said ≡ true → Stands told start out (with_record said number records) r → Stands told start out records r
    by_line None none took = took
    by_line (Some text) none took = absurd (false≢true none)

-- the text has these lines
pub with_text : (told : Told) (left : Option (List ℕ)) (lines : List (List ℕ)) (said : Result Header (List ℕ)) (r : Result Bool ReportFault) (start out : Option (List ℕ)) → IsText left lines → EndsBy told said lines r start out
    → (text : List ℕ) × IfSome left (λ all. text ≡ all) × EndsBy told said (lines_of text) r start out
with_text told left lines said r start out whole ends =
    (whole.text, whole.is_left, subst (λ (l : List (List ℕ)). EndsBy told said l r start out) (sym whole.has) ends)

-- ---- with the first line

ends_from : (told : Told) (text first : List ℕ) (lines : List (List ℕ)) (said : Result Header (List ℕ)) (r : Result Bool ReportFault) (start out : Option (List ℕ)) → lines_of text ≡ first ∷ lines
    → said_first first ≡ said → EndsBy told said lines r start out → Ends told text r start out
ends_from told text first lines said r start out e is ends =
    subst (λ (l : List (List ℕ)). EndsBy told (said_first (get_or l 0 [])) (drop 1 l) r start out) (sym e)
    (subst (λ (h : Result Header (List ℕ)). EndsBy told h lines r start out) (sym is) ends)

-- of no line anything is printed
none_told : (told : Told) (said : Result Header (List ℕ)) → Tells told said [] []
none_told told (Err first) = refl
none_told told (Ok header) = ([], ([], tt, refl, tt), refl)

none_written : (told : Told) (said : Result Header (List ℕ)) (start : Option (List ℕ)) → WritesAll (Tells told said []) start start
none_written told said start = ([], none_told told said, Appends-nil start)

pub ends_unbegun : (told : Told) (fault : ReadingFault) (said : Result Header (List ℕ)) (lines : List (List ℕ)) (start : Option (List ℕ)) → IsReadFault fault → EndsBy told said lines (Err (report_fault_of fault)) start start
ends_unbegun told Unreadable said lines start is = ([], lines, refl, none_written told said start)
ends_unbegun told Output said lines start is = absurd is
ends_unbegun told BrokenPipe said lines start is = absurd is
ends_unbegun told BrokenPipeWarned said lines start is = absurd is
ends_unbegun told NoMemory said lines start is = ([], lines, refl, none_written told said start)

pub ends_without_header : (told : Told) (r : ReportFault) (first : List ℕ) (lines : List (List ℕ)) (start : Option (List ℕ)) → IsAtLine 1 (header_fault first) (Ok false) r → EndsBy told (Err first) lines (Err r) start start
ends_without_header told r first lines start is =
    subst (λ (f : ReportFault). EndsBy told (Err first) lines (Err f) start start) (sym is.2) (refl, is.1, ([], (refl, refl), Appends-nil start))

-- a text with this first line and these lines
pub with_header : (told : Told) (left : Option (List ℕ)) (first : List ℕ) (lines : List (List ℕ)) (said : Result Header (List ℕ)) (r : Result Bool ReportFault) (start out : Option (List ℕ)) → IsText left (first ∷ lines)
    → said_first first ≡ said → EndsBy told said lines r start out → (text : List ℕ) × IfSome left (λ all. text ≡ all) × Ends told text r start out
with_header told left first lines said r start out whole is ends = (whole.text, whole.is_left, ends_from told whole.text first lines said r start out whole.has is ends)

pub without_a_line : (told : Told) (left : Option (List ℕ)) (text : List ℕ) (fault : ReadingFault) (start : Option (List ℕ)) → IfSome left (λ all. text ≡ all) → IsReadFault fault
    → (text : List ℕ) × IfSome left (λ all. text ≡ all) × Ends told text (Err (report_fault_of fault)) start start
without_a_line told left text fault start is_left is = (text, is_left, ends_unbegun told fault (header_of text) (body_of text) start is)
