use Rattle.std.proofs.Common.{◌≡◌, [], List, ℕ, None, Some, Ok, Err, ap, subst, sym, ◌∙◌, true, false, rules}
use Rattle.std.proofs.KnownBytes.{Appends-nil}
use Rattle.std.proofs.lemmas.Result.{err_from_is_err_and}
use Rattle.watch_report.specs.Fields.{fields_of}
use Rattle.watch_report.specs.Ending.{IsAtLine}
use Rattle.watch_report.specs.LineFaults.{header_fault}
use Rattle.watch_report.specs.TraceLines.{header_in}
use Rattle.watch_report.specs.Reading.{report_fault_of}
use Rattle.watch_report.specs.Reading.{ReadsLine, Stands}
use Rattle.watch_report.specs.TraceText.{lines_of, or_line, said_first}
use Rattle.watch_causes.specs.KnownReaches.{reach_in}
use Rattle.watch_causes.specs.KnownSoFar.{entries_by}
use Rattle.watch_report.specs.TraceReaches.{known_by}
use Rattle.watch_report.specs.Reports.{told_of}
use Rattle.watch_report.specs.declared.fault.ReportFault.TheVariants as reported
use Rattle.watch_report.specs.declared.reading_fault.ReadingFault.TheVariants as Reading
use Rattle.watch_report.proofs.ReadLemmas.{first_text, last_text, line_text, none_read, none_taken, torn_text}
use Rattle.watch_report.proofs.EndingLemmas.{ends_done, ends_unbegun, ends_undone, ends_without_header, failed_end, with_header, without_a_line, written_end}
use Rattle.watch_report.proofs.report.report_all.Goals as goal

pub returns-in_err-more : goal.returns-in_err-more
returns-in_err-more g c =
    let p = err_from_is_err_and c.from_residual.result c.from_residual.ensures.1 in
    let torn = c.in_err-more.ensures.err in
    let whole = torn_text _ _ (g.R.Read.remaining c.read_line.new.input) [] torn.0 (none_read _) torn.1 in
    rw (p.1, p.2) (without_a_line (told_of c.args.options (known_by (reach_in c.args.reaches) c.args.known) c.args.file.now) _ whole.text c.in_err-more.field-0.0 (g.W.Write.contents c.args.out.now) whole.is_left c.in_err-more.ensures.fault)

pub returns-in_default : goal.returns-in_default
returns-in_default g c =
    let first = c.read_line.new.line.items in
    let whole = line_text _ _ _ _ [] first (none_read _) c.in_ok-more.ensures.ok in
    let none : header_in (fields_of first) ≡ None =
    ap (λ (l : List ℕ). header_in (fields_of l)) (sym c.as_slice-text.ensures.value) ∙ sym c.read_header.ensures ∙ c.in_default.is in
    let said : said_first first ≡ Err first = ap (or_line first) none in
    let told : IsAtLine 1 (header_fault first) (Ok false) c.first_line_fault.result = subst (λ (l : List ℕ). IsAtLine 1 (header_fault l) (Ok false) c.first_line_fault.result) c.as_slice-text.ensures.value c.first_line_fault.ensures in
    with_header (told_of c.args.options (known_by (reach_in c.args.reaches) c.args.known) c.args.file.now) _ first whole.0 (Err first) (Err c.first_line_fault.result) (g.W.Write.contents c.args.out.now) (g.W.Write.contents c.args.out.now) whole.1 said (ends_without_header (told_of c.args.options (known_by (reach_in c.args.reaches) c.args.known) c.args.file.now) c.first_line_fault.result first whole.0 _ told)

pub first_line_fault-requires : goal.first_line_fault-requires
first_line_fault-requires g c = sym c.read_header.ensures ∙ c.in_default.is

-- nothing was written
pub returns-in_err-reading : goal.returns-in_err-reading
returns-in_err-reading g c =
    let first = c.read_line.new.line.items in
    let e : c.in_ok-more.more ≡ false = search rules in
    let p = err_from_is_err_and c.from_residual-in_err-reading.result c.from_residual-in_err-reading.ensures.1 in
    let read = subst (ReadsLine _ _ first) e c.in_ok-more.ensures.ok in
    let whole = last_text _ _ _ [] first (none_read _) read in
    let some : header_in (fields_of first) ≡ Some c.in-Some.header =
    ap (λ (l : List ℕ). header_in (fields_of l)) (sym c.as_slice-text.ensures.value) ∙ sym c.read_header.ensures ∙ c.in-Some.is in
    let said : said_first first ≡ Ok c.in-Some.header = ap (or_line first) some in
    let about = told_of c.args.options (known_by (reach_in c.args.reaches) c.args.known) c.args.file.now in
    let ends = ends_unbegun about Reading.NoMemory (Ok c.in-Some.header) [] (g.W.Write.contents c.args.out.now) tt in
    rw (p.1, p.2, c.in_err-reading.ensures.err) (with_header about _ first [] (Ok c.in-Some.header) (Err reported.NoMemory) (g.W.Write.contents c.args.out.now) (g.W.Write.contents c.args.out.now) whole said ends)

pub returns-in_err-some : goal.returns-in_err-some
returns-in_err-some g c =
    let first = c.read_line.new.line.items in
    let e : c.in_ok-more.more ≡ false = search rules in
    let p = err_from_is_err_and c.from_residual-in_err-some.result c.from_residual-in_err-some.ensures.1 in
    let read = subst (ReadsLine _ _ first) e c.in_ok-more.ensures.ok in
    let whole = last_text _ _ _ [] first (none_read _) read in
    let some : header_in (fields_of first) ≡ Some c.in-Some.header =
    ap (λ (l : List ℕ). header_in (fields_of l)) (sym c.as_slice-text.ensures.value) ∙ sym c.read_header.ensures ∙ c.in-Some.is in
    let said : said_first first ≡ Ok c.in-Some.header = ap (or_line first) some in
    let stands : Stands (told_of c.args.options (known_by (reach_in c.args.reaches) c.args.known) c.args.file.now) (g.W.Write.contents c.args.out.now) (g.W.Write.contents c.args.out.now) [] c.in_ok-reading.reading = record { taken = []; seen = c.in_ok-reading.ensures.seen c.args.known.file.now; written = Appends-nil _ } in
    let fails = failed_end (told_of c.args.options (known_by (reach_in c.args.reaches) c.args.known) c.args.file.now) None _ _ c.in-Some.header [] _ _ c.in_ok-reading.ensures.header (c.in_err-some.ensures.err c.args.options (entries_by (reach_in c.args.reaches) c.args.known.entries.items) _ [] stands) in
    let ends = ends_undone (told_of c.args.options (known_by (reach_in c.args.reaches) c.args.known) c.args.file.now) _ c.in-Some.header [] [] _ _ (none_taken c.in-Some.header) fails in
    rw (p.1, p.2) (with_header (told_of c.args.options (known_by (reach_in c.args.reaches) c.args.known) c.args.file.now) _ first [] (Ok c.in-Some.header) (Err (report_fault_of c.in_err-some.field-0.0)) (g.W.Write.contents c.args.out.now) (g.W.Write.contents c.finish.new.out) whole said ends)

pub returns-then-not-more : goal.returns-then-not-more
returns-then-not-more g c =
    let first = c.read_line.new.line.items in
    let e : c.in_ok-more.more ≡ false = search rules in
    let read = subst (ReadsLine _ _ first) e c.in_ok-more.ensures.ok in
    let whole = last_text _ _ _ [] first (none_read _) read in
    let some : header_in (fields_of first) ≡ Some c.in-Some.header =
    ap (λ (l : List ℕ). header_in (fields_of l)) (sym c.as_slice-text.ensures.value) ∙ sym c.read_header.ensures ∙ c.in-Some.is in
    let said : said_first first ≡ Ok c.in-Some.header = ap (or_line first) some in
    let stands : Stands (told_of c.args.options (known_by (reach_in c.args.reaches) c.args.known) c.args.file.now) (g.W.Write.contents c.args.out.now) (g.W.Write.contents c.args.out.now) [] c.in_ok-reading.reading = record { taken = []; seen = c.in_ok-reading.ensures.seen c.args.known.file.now; written = Appends-nil _ } in
    let written = written_end (told_of c.args.options (known_by (reach_in c.args.reaches) c.args.known) c.args.file.now) None _ _ c.in-Some.header [] _ _ c.in_ok-reading.ensures.header (c.in_ok-some.ensures.ok c.args.options (entries_by (reach_in c.args.reaches) c.args.known.entries.items) _ [] stands) in
    let ends = ends_done (told_of c.args.options (known_by (reach_in c.args.reaches) c.args.known) c.args.file.now) _ c.in-Some.header [] [] _ _ (none_taken c.in-Some.header) written in
    with_header (told_of c.args.options (known_by (reach_in c.args.reaches) c.args.known) c.args.file.now) _ first [] (Ok c.in-Some.header) (Ok c.in_ok-some.some) (g.W.Write.contents c.args.out.now) (g.W.Write.contents c.finish.new.out) whole said ends

pub returns : goal.returns
returns g c =
    let first = c.read_line.new.line.items in
    let e : c.in_ok-more.more ≡ true = search rules in
    let read = subst (ReadsLine _ _ first) e c.in_ok-more.ensures.ok in
    let rest = c.report_lines.ensures in
    let whole = first_text _ _ first rest.0 read rest.1 in
    let some : header_in (fields_of first) ≡ Some c.in-Some.header =
    ap (λ (l : List ℕ). header_in (fields_of l)) (sym c.as_slice-text.ensures.value) ∙ sym c.read_header.ensures ∙ c.in-Some.is in
    let said : said_first first ≡ Ok c.in-Some.header = ap (or_line first) some in
    with_header (told_of c.args.options (known_by (reach_in c.args.reaches) c.args.known) c.args.file.now) _ first (lines_of rest.0) (Ok c.in-Some.header) c.report_lines.result (g.W.Write.contents c.args.out.now) (g.W.Write.contents c.report_lines.new.out) whole said rest.2
