use Rattle.std.proofs.Common.{◌≡◌, ◌∷◌, ◌++◌, [], None, Some, Ok, Err, length-append, subst, ◌∙◌, arith, ap, not, refl, true, false, rules}
use Rattle.std.specs.Option.{unwrap_or}
use Rattle.std.proofs.KnownBytes.{Appends-nil}
use Rattle.std.proofs.lemmas.Result.{err_from_is_err_and}
use Rattle.watch_report.specs.declared.fault.ReportFault.TheVariants.{NoMemory}
use Rattle.watch_report.specs.Reading.{ReadsLine, report_fault_of}
use Rattle.watch_report.specs.TraceText.{lines_of}
use Rattle.watch_causes.specs.KnownReaches.{reach_in}
use Rattle.watch_causes.specs.KnownSoFar.{entries_by}
use Rattle.watch_report.specs.TraceReaches.{known_by}
use Rattle.watch_report.specs.Reports.{told_of}
use Rattle.watch_report.specs.declared.reading_fault.ReadingFault.TheVariants as Reading
use Rattle.watch_report.proofs.ReadLemmas.{all_text, last_text, line_text, more_read, more_taken, none_read, none_taken, some_text, torn_text}
use Rattle.watch_report.proofs.EndingLemmas.{ends_at_fault, ends_at_line, ends_done, ends_unbegun, ends_undone, ends_unread, ends_within, failed_end, failed_line, finishes, formed_line, told_line, took_line, took_none, with_text, written_end, written_of}
use Rattle.watch_report.proofs.report.report_lines.Goals as goal

pub loop-number-init : goal.loop-number-init
loop-number-init g c = (
  [],
  [],
  none_read _,
  none_taken c.args.header,
  record { taken = []; seen = c.in_ok-reading.ensures.seen c.args.known.file.now; written = Appends-nil _ },
  c.in_ok-reading.ensures.header,
  refl,
)

-- no line was read
pub returns-in_err-reading : goal.returns-in_err-reading
returns-in_err-reading g c =
    let p = err_from_is_err_and c.from_residual.result c.from_residual.ensures.1 in
    let about = told_of c.args.options (known_by (reach_in c.args.reaches) c.args.known) c.args.file.now in
    let text = unwrap_or (g.R.Read.remaining c.args.input.now) [] in
    rw (p.1, p.2, c.in_err-reading.ensures.err) (text, all_text _, ends_unbegun about Reading.NoMemory (Ok c.args.header) (lines_of text) (g.W.Write.contents c.args.out.now) tt)

pub returns-in_err-more : goal.returns-in_err-more
returns-in_err-more g c =
    let i = c.loop-number.invariant in
    let p = err_from_is_err_and c.from_residual-in_err-more.result c.from_residual-in_err-more.ensures.1 in
    let torn = c.in_err-more.ensures.err in
    let whole = torn_text _ _ _ i.0 torn.0 i.2 torn.1 in
    let tail = lines_of (torn.0 ++ unwrap_or (g.R.Read.remaining c.read_line.new.input) []) in
    let ends = ends_unread (told_of c.args.options (known_by (reach_in c.args.reaches) c.args.known) c.args.file.now) _ c.args.header i.0 tail i.1 _ _ c.in_err-more.ensures.fault i.3 (written_of (told_of c.args.options (known_by (reach_in c.args.reaches) c.args.known) c.args.file.now) _ _ c.args.header i.1 _ i.5 i.4) in
    rw (p.1, p.2) (with_text (told_of c.args.options (known_by (reach_in c.args.reaches) c.args.known) c.args.file.now) _ _ (Ok c.args.header) (Err (report_fault_of c.in_err-more.field-0.0)) (g.W.Write.contents c.args.out.now) (g.W.Write.contents c.loop-number.out) whole ends)

pub returns-in_err-taken : goal.returns-in_err-taken
returns-in_err-taken g c =
    let i = c.loop-number.invariant in
    let p = err_from_is_err_and c.from_residual-in_err-taken.result c.from_residual-in_err-taken.ensures.1 in
    let whole = line_text _ _ _ _ i.0 _ i.2 c.in_ok-more.ensures.ok in
    let fails = failed_line (told_of c.args.options (known_by (reach_in c.args.reaches) c.args.known) c.args.file.now) _ _ c.args.header c.loop-number.number _ c.read_line.new.line.items i.1 _ _ i.5 c.as_slice-text.ensures.value (c.in_err-taken.ensures.err c.args.options (known_by (reach_in c.args.reaches) c.args.known) _ i.1 i.4) in
    let ends = ends_at_line (told_of c.args.options (known_by (reach_in c.args.reaches) c.args.known) c.args.file.now) _ c.args.header c.loop-number.number i.0 whole.0 _ i.1 _ _ i.6 i.3 fails in
    rw (p.1, p.2) (with_text (told_of c.args.options (known_by (reach_in c.args.reaches) c.args.known) c.args.file.now) _ _ (Ok c.args.header) (Err (report_fault_of c.in_err-taken.field-0.0)) (g.W.Write.contents c.args.out.now) (g.W.Write.contents c.take_line.new.out) whole.1 ends)

pub fault_of_line-requires : goal.fault_of_line-requires
fault_of_line-requires g c =
    let i = c.loop-number.invariant in
    let e : c.in_ok-taken.taken ≡ false = search rules in
    formed_line true _ c.args.header _ c.as_slice-text.result.now i.5 refl (c.in_ok-taken.ensures.form ∙ ap not e)

-- the line has no form, and nothing of it was taken
pub returns-then-not-taken : goal.returns-then-not-taken
returns-then-not-taken g c =
    let i = c.loop-number.invariant in
    let line = c.read_line.new.line.items in
    let about = told_of c.args.options (known_by (reach_in c.args.reaches) c.args.known) c.args.file.now in
    let e : c.in_ok-taken.taken ≡ false = search rules in
    let whole = line_text _ _ _ _ i.0 line i.2 c.in_ok-more.ensures.ok in
    let none = formed_line true _ c.args.header _ line i.5 c.as_slice-text.ensures.value (c.in_ok-taken.ensures.form ∙ ap not e) in
    let stands = took_none about c.args.header c.loop-number.number line i.1 _ _ c.take_line.new.self none (took_line about _ c.args.header c.loop-number.number _ line i.1 _ _ c.take_line.new.self i.5 c.as_slice-text.ensures.value (c.in_ok-taken.ensures.ok c.args.options (known_by (reach_in c.args.reaches) c.args.known) _ i.1 i.4)) in
    let does = finishes about (Some c.loop-number.number) _ c.args.header i.1 _ _ c.finish-finished.result (c.take_line.ensures.header ∙ i.5) (c.finish-finished.ensures.ok c.args.options (entries_by (reach_in c.args.reaches) c.args.known.entries.items) _ i.1 stands) (c.finish-finished.ensures.err c.args.options (entries_by (reach_in c.args.reaches) c.args.known.entries.items) _ i.1 stands) in
    let told = told_line _ c.args.header _ line _ _ c.as_slice-text.ensures.value c.fault_of_line.ensures in
    let ends = ends_at_fault about c.finish-finished.result c.fault_of_line.result c.args.header c.loop-number.number i.0 whole.0 line i.1 _ _ i.6 i.3 none told does in
    with_text about _ _ (Ok c.args.header) (Err c.fault_of_line.result) (g.W.Write.contents c.args.out.now) (g.W.Write.contents c.finish-finished.new.out) whole.1 ends

-- the last line was taken
pub returns-in_err-some : goal.returns-in_err-some
returns-in_err-some g c =
    let i = c.loop-number.invariant in
    let line = c.read_line.new.line.items in
    let e : c.in_ok-more.more ≡ false = search rules in
    let t : c.in_ok-taken.taken ≡ true = search rules in
    let p = err_from_is_err_and c.from_residual-in_err-some.result c.from_residual-in_err-some.ensures.1 in
    let read = subst (ReadsLine _ _ line) e c.in_ok-more.ensures.ok in
    let whole = last_text _ _ _ i.0 line i.2 read in
    let formed = formed_line false _ c.args.header _ line i.5 c.as_slice-text.ensures.value (c.in_ok-taken.ensures.form ∙ ap not t) in
    let took = took_line (told_of c.args.options (known_by (reach_in c.args.reaches) c.args.known) c.args.file.now) _ c.args.header c.loop-number.number _ line i.1 _ _ c.take_line.new.self i.5 c.as_slice-text.ensures.value (c.in_ok-taken.ensures.ok c.args.options (known_by (reach_in c.args.reaches) c.args.known) _ i.1 i.4) in
    let taken = more_taken c.args.header i.0 c.loop-number.number line i.1 i.6 i.3 formed in
    let fails = failed_end (told_of c.args.options (known_by (reach_in c.args.reaches) c.args.known) c.args.file.now) None _ _ c.args.header _ _ _ (c.take_line.ensures.header ∙ i.5) (c.in_err-some.ensures.err c.args.options (entries_by (reach_in c.args.reaches) c.args.known.entries.items) _ _ took) in
    let ends = ends_undone (told_of c.args.options (known_by (reach_in c.args.reaches) c.args.known) c.args.file.now) _ c.args.header _ _ _ _ taken fails in
    rw (p.1, p.2) (with_text (told_of c.args.options (known_by (reach_in c.args.reaches) c.args.known) c.args.file.now) _ _ (Ok c.args.header) (Err (report_fault_of c.in_err-some.field-0.0)) (g.W.Write.contents c.args.out.now) (g.W.Write.contents c.finish.new.out) whole ends)

pub returns-then-not-more : goal.returns-then-not-more
returns-then-not-more g c =
    let i = c.loop-number.invariant in
    let line = c.read_line.new.line.items in
    let e : c.in_ok-more.more ≡ false = search rules in
    let t : c.in_ok-taken.taken ≡ true = search rules in
    let read = subst (ReadsLine _ _ line) e c.in_ok-more.ensures.ok in
    let whole = last_text _ _ _ i.0 line i.2 read in
    let formed = formed_line false _ c.args.header _ line i.5 c.as_slice-text.ensures.value (c.in_ok-taken.ensures.form ∙ ap not t) in
    let took = took_line (told_of c.args.options (known_by (reach_in c.args.reaches) c.args.known) c.args.file.now) _ c.args.header c.loop-number.number _ line i.1 _ _ c.take_line.new.self i.5 c.as_slice-text.ensures.value (c.in_ok-taken.ensures.ok c.args.options (known_by (reach_in c.args.reaches) c.args.known) _ i.1 i.4) in
    let taken = more_taken c.args.header i.0 c.loop-number.number line i.1 i.6 i.3 formed in
    let written = written_end (told_of c.args.options (known_by (reach_in c.args.reaches) c.args.known) c.args.file.now) None _ _ c.args.header _ _ _ (c.take_line.ensures.header ∙ i.5) (c.in_ok-some.ensures.ok c.args.options (entries_by (reach_in c.args.reaches) c.args.known.entries.items) _ _ took) in
    let ends = ends_done (told_of c.args.options (known_by (reach_in c.args.reaches) c.args.known) c.args.file.now) _ c.args.header _ _ _ _ taken written in
    with_text (told_of c.args.options (known_by (reach_in c.args.reaches) c.args.known) c.args.file.now) _ _ (Ok c.args.header) (Ok c.in_ok-some.some) (g.W.Write.contents c.args.out.now) (g.W.Write.contents c.finish.new.out) whole ends

pub loop-number-preserved : goal.loop-number-preserved
loop-number-preserved g c =
    let i = c.loop-number.invariant in
    let line = c.read_line.new.line.items in
    let e : c.in_ok-more.more ≡ true = search rules in
    let t : c.in_ok-taken.taken ≡ true = search rules in
    let read = subst (ReadsLine _ _ line) e c.in_ok-more.ensures.ok in
    let formed = formed_line false _ c.args.header _ line i.5 c.as_slice-text.ensures.value (c.in_ok-taken.ensures.form ∙ ap not t) in
    let took = took_line (told_of c.args.options (known_by (reach_in c.args.reaches) c.args.known) c.args.file.now) _ c.args.header c.loop-number.number _ line i.1 _ _ c.take_line.new.self i.5 c.as_slice-text.ensures.value (c.in_ok-taken.ensures.ok c.args.options (known_by (reach_in c.args.reaches) c.args.known) _ i.1 i.4) in (
      i.0 ++ line ∷ [],
      _,
      more_read _ _ _ i.0 line i.2 read,
      more_taken c.args.header i.0 c.loop-number.number line i.1 i.6 i.3 formed,
      took,
      c.take_line.ensures.header ∙ i.5,
      omega (arith, i.6, length-append i.0 (line ∷ [])),
    )

pub returns : goal.returns
returns g c =
    let i = c.loop-number.invariant in
    let whole = some_text _ _ i.0 i.2 in
    let ends = ends_within (told_of c.args.options (known_by (reach_in c.args.reaches) c.args.known) c.args.file.now) c.args.header i.0 (lines_of (unwrap_or (g.R.Read.remaining c.loop-number.input) [])) i.1 _ _ i.3 (written_of (told_of c.args.options (known_by (reach_in c.args.reaches) c.args.known) c.args.file.now) _ _ c.args.header i.1 _ i.5 i.4) in
    with_text (told_of c.args.options (known_by (reach_in c.args.reaches) c.args.known) c.args.file.now) _ _ (Ok c.args.header) (Err NoMemory) (g.W.Write.contents c.args.out.now) (g.W.Write.contents c.loop-number.out) whole ends
