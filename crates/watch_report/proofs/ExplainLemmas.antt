-- A line of a trace that is explained.
use Rattle.std.proofs.Common.{◌≡◌, ℕ, zero, suc, ◌+◌, ◌-◌, ◌<◌, Bool, true, false, List, [], ◌∷◌, ◌++◌, get_or, drop, length, take, Option, Some, None, IfSome, Result, Ok, Err, refl, sym, ap, subst, ◌∙◌, arith}
use Rattle.std.specs.Option.{unwrap_or}
use Rattle.std.proofs.Math.Seq.{take-append-add}
use Rattle.std.proofs.lemmas.List.{take_all}
use Rattle.watch_report.specs.declared.fault.ReportFault.{ReportFault}
use Rattle.watch_report.specs.declared.fault.ReportFault.TheVariants as reported
use Rattle.watch_report.specs.declared.header.Header.{Header}
use Rattle.watch_report.specs.declared.reading_fault.ReadingFault.{ReadingFault}
use Rattle.watch_report.specs.declared.reading_fault.ReadingFault.TheVariants.{Unreadable, Output, BrokenPipe, BrokenPipeWarned, NoMemory}
use Rattle.watch_report.specs.Ending.{IsAtLine}
use Rattle.watch_report.specs.Explaining.{Asked, HasVerdict, TellsAt, up_to}
use Rattle.watch_report.specs.LineFaults.{fault_of, header_fault}
use Rattle.watch_report.specs.Prefix.{AreBefore, ExplainsLine}
use Rattle.watch_report.specs.Reading.{IsReadFault, report_fault_of}
use Rattle.watch_report.specs.TraceLines.{LineText, record_of}
use Rattle.watch_report.specs.ToldStories.{Finds, FindsBy}
use Rattle.watch_report.specs.TraceText.{Noted, body_of, has_no_form, header_of, lines_of, said_first, with_record}
use Rattle.watch_report.proofs.EndingLemmas.{fault_there, faultless, faulty_at}
use Rattle.watch_report.proofs.ReadLemmas.{AreTaken, IsText, all_text, more_taken, records_of_all}

-- ---- the line that is asked for

none_before : (asked : Asked) (header : Header) (records : List Noted) → AreBefore asked.line records → ¬ HasVerdict asked header records
none_before asked header [] before = λ has. has
none_before asked header (newest ∷ records) before = λ has. omega (arith, before, has.0)

-- ---- the lines up to it

pub before_more : (said : Option LineText) (number line : ℕ) (records : List Noted) → number < line → AreBefore line records → AreBefore line (with_record said number records)
before_more None number line records less before = before
before_more (Some (record_of made by)) number line records less before = less
before_more (Some _) number line records less before = before

pub up_to_line : (asked : ℕ) (read tail : List (List ℕ)) (line : List ℕ) → asked ≡ length read + 2 → up_to asked (read ++ line ∷ tail) ≡ read ++ line ∷ []
up_to_line asked read tail line e =
    let long : asked - 1 ≡ length read + 1 = omega (arith, e) in
    ap (λ n. take n (read ++ line ∷ tail)) long ∙ take-append-add read (line ∷ tail) 1

-- and a line before it
pub up_to_later : (asked number : ℕ) (read tail : List (List ℕ)) (line : List ℕ) → number ≡ length read + 2 → number < asked → up_to asked (read ++ line ∷ tail) ≡ read ++ line ∷ take (asked - number) tail
up_to_later asked number read tail line e less =
    let long : asked - 1 ≡ length read + suc (asked - number) = omega (arith, e, less) in
    ap (λ n. take n (read ++ line ∷ tail)) long ∙ take-append-add read (line ∷ tail) (suc (asked - number))

pub up_to_all : (asked : ℕ) (lines : List (List ℕ)) → length lines < asked → up_to asked lines ≡ lines
up_to_all asked lines less = take_all (asked - 1) lines (omega (arith, less))

-- ---- what is found in the lines up to it

-- where a line was not read
finds_unread : (asked : Asked) (fault : ReadingFault) (said : Result Header (List ℕ)) (lines : List (List ℕ)) (text : List ℕ) → IsReadFault fault → FindsBy asked said lines (Err (report_fault_of fault)) text
finds_unread asked Unreadable said lines text is = tt
finds_unread asked Output said lines text is = absurd is
finds_unread asked BrokenPipe said lines text is = absurd is
finds_unread asked BrokenPipeWarned said lines text is = absurd is
finds_unread asked NoMemory said lines text is = tt

pub finds_none : (asked : Asked) (header : Header) (lines : List (List ℕ)) (records : List Noted) (text : List ℕ) → AreTaken header lines records → AreBefore asked.line records → FindsBy asked (Ok header) lines (Ok false) text
finds_none asked header lines records text at before =
    (faultless header lines records at, subst (λ (rs : List Noted). ¬ HasVerdict asked header rs) (sym (records_of_all header lines records at)) (none_before asked header records before))

pub finds_at : (asked : Asked) (r : Result Bool ReportFault) (header : Header) (read : List (List ℕ)) (line : List ℕ) (records : List Noted) (text : List ℕ) → asked.line ≡ length read + 2 → AreTaken header read records
    → ExplainsLine asked header records line r text → FindsBy asked (Ok header) (read ++ line ∷ []) r text
finds_at asked (Ok true) header read line records text e at says =
    let all = more_taken header read asked.line line records e at says.0 in
    (faultless header _ _ all, subst (λ (rs : List Noted). TellsAt asked header rs text) (sym (records_of_all header _ _ all)) says.1)
finds_at asked (Ok false) header read line records text e at says =
    let all = more_taken header read asked.line line records e at says.0 in
    (faultless header _ _ all, subst (λ (rs : List Noted). ¬ HasVerdict asked header rs) (sym (records_of_all header _ _ all)) says.1)
finds_at asked (Err (reported.Line number fault warned)) header read line records text e at says = (
  faulty_at header read [] line records at says.0 ∙ ap Some (sym (says.1 ∙ e)),
  fault_there header number read [] line fault (says.1 ∙ e) says.2,
  says.3,
)
finds_at asked (Err reported.Unreadable) header read line records text e at says = absurd says
finds_at asked (Err reported.NoMemory) header read line records text e at says = tt
finds_at asked (Err reported.Output) header read line records text e at says = absurd says
finds_at asked (Err (reported.BrokenPipe warned)) header read line records text e at says = absurd says
finds_at asked (Err (reported.BrokenPipeAtLine number fault warned)) header read line records text e at says = absurd says

pub finds_fault : (asked : Asked) (r : ReportFault) (header : Header) (number : ℕ) (read tail : List (List ℕ)) (line : List ℕ) (records : List Noted) (text : List ℕ) → number ≡ length read + 2 → AreTaken header read records
    → has_no_form header line ≡ true → IsAtLine number (fault_of header line) (Ok false) r → FindsBy asked (Ok header) (read ++ line ∷ tail) (Err r) text
finds_fault asked r header number read tail line records text e at none is =
    subst (λ (f : ReportFault). FindsBy asked (Ok header) (read ++ line ∷ tail) (Err f) text) (sym is.2)
    (faulty_at header read tail line records at none ∙ ap Some (sym e), fault_there header number read tail line is.0 e is.1, refl)

-- ---- in a text

-- the text has these lines, of which those up to the one that is asked for are these
pub found_in : (asked : Asked) (left : Option (List ℕ)) (lines front : List (List ℕ)) (header : Header) (r : Result Bool ReportFault) (text : List ℕ) → IsText left lines → up_to asked.line lines ≡ front
    → FindsBy asked (Ok header) front r text → (all : List ℕ) × IfSome left (λ a. all ≡ a) × FindsBy asked (Ok header) (up_to asked.line (lines_of all)) r text
found_in asked left lines front header r text whole is finds =
    (whole.text, whole.is_left, subst (λ (l : List (List ℕ)). FindsBy asked (Ok header) l r text) (sym (ap (up_to asked.line) whole.has ∙ is)) finds)

pub found_unread : (asked : Asked) (fault : ReadingFault) (left : Option (List ℕ)) (lines : List (List ℕ)) (header : Header) (text : List ℕ) → IsText left lines → IsReadFault fault
    → (all : List ℕ) × IfSome left (λ a. all ≡ a) × FindsBy asked (Ok header) (up_to asked.line (lines_of all)) (Err (report_fault_of fault)) text
found_unread asked fault left lines header text whole is = (whole.text, whole.is_left, finds_unread asked fault (Ok header) (up_to asked.line (lines_of whole.text)) text is)

-- of no line after the header anything is found
pub found_early : (asked : Asked) (left : Option (List ℕ)) (header : Header) (text : List ℕ) → asked.line < 2 → (all : List ℕ) × IfSome left (λ a. all ≡ a) × FindsBy asked (Ok header) (up_to asked.line (lines_of all)) (Ok false) text
found_early asked left header text less =
    let none : asked.line - 1 ≡ 0 = omega (arith, less) in
    (unwrap_or left [], all_text left, subst (λ n. FindsBy asked (Ok header) (take n (lines_of (unwrap_or left []))) (Ok false) text) (sym none) (refl, λ has. has))

-- ---- with the first line

-- the text has this first line and these lines
pub found_with : (asked : Asked) (left : Option (List ℕ)) (first : List ℕ) (lines : List (List ℕ)) (said : Result Header (List ℕ)) (r : Result Bool ReportFault) (text : List ℕ) → IsText left (first ∷ lines) → said_first first ≡ said
    → FindsBy asked said (up_to asked.line lines) r text → (all : List ℕ) × IfSome left (λ a. all ≡ a) × Finds asked all r text
found_with asked left first lines said r text whole is finds = (
  whole.text,
  whole.is_left,
  subst (λ (l : List (List ℕ)). FindsBy asked (said_first (get_or l 0 [])) (up_to asked.line (drop 1 l)) r text) (sym whole.has)
      (subst (λ (h : Result Header (List ℕ)). FindsBy asked h (up_to asked.line lines) r text) (sym is) finds),
)

-- the first line is no header
pub found_no_header : (asked : Asked) (left : Option (List ℕ)) (first : List ℕ) (lines : List (List ℕ)) (r : ReportFault) (text : List ℕ) → IsText left (first ∷ lines) → said_first first ≡ Err first
    → IsAtLine 1 (header_fault first) (Ok false) r → (all : List ℕ) × IfSome left (λ a. all ≡ a) × Finds asked all (Err r) text
found_no_header asked left first lines r text whole is told =
    found_with asked left first lines (Err first) (Err r) text whole is
    (subst (λ (f : ReportFault). FindsBy asked (Err first) (up_to asked.line lines) (Err f) text) (sym told.2) (refl, told.1, refl))

-- or was not read
pub found_unbegun : (asked : Asked) (fault : ReadingFault) (left : Option (List ℕ)) (lines : List (List ℕ)) (text : List ℕ) → IsText left lines → IsReadFault fault
    → (all : List ℕ) × IfSome left (λ a. all ≡ a) × Finds asked all (Err (report_fault_of fault)) text
found_unbegun asked fault left lines text whole is = (whole.text, whole.is_left, finds_unread asked fault (header_of whole.text) (up_to asked.line (body_of whole.text)) text is)

-- nothing after the header
pub found_header : (asked : Asked) (left : Option (List ℕ)) (first : List ℕ) (header : Header) (text : List ℕ) → IsText left (first ∷ []) → said_first first ≡ Ok header
    → (all : List ℕ) × IfSome left (λ a. all ≡ a) × Finds asked all (Ok false) text
found_header asked left first header text whole is =
    found_with asked left first [] (Ok header) (Ok false) text whole is
    (subst (λ (l : List (List ℕ)). FindsBy asked (Ok header) l (Ok false) text) (sym (none_up_to (asked.line - 1))) (refl, λ has. has))
  where
    none_up_to : (n : ℕ) → take {A = List ℕ} n [] ≡ []
    none_up_to zero = refl
    none_up_to (suc n) = refl
