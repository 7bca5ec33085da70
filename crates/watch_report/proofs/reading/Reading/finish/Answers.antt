use Rattle.std.proofs.Common.{◌≡◌, ◌++◌, sym, subst, refl}
use Rattle.std.specs.Io.KnownBytes.{Appends}
use Rattle.std.proofs.KnownBytes.{Appends-trans}
use Rattle.watch_report.specs.declared.reading_fault.ReadingFault.{ReadingFault}
use Rattle.watch_report.specs.KnownLists.{known_text, list_of}
use Rattle.watch_report.specs.KnownVerdicts.{verdicts_so_far}
use Rattle.watch_report.specs.Reading.{FailsAtEnd}
use Rattle.watch_report.specs.Forms.{summary_as}
use Rattle.watch_report.specs.declared.options.Options.{Options}
use Rattle.watch_report.specs.Output.{AppendsFront}
use Rattle.watch_report.specs.Reports.{counts_by, told_of, told_of_taken, totals_by}
use Rattle.watch_report.specs.TraceText.{trace_of}
use Rattle.watch_report.proofs.VerdictLemmas.{fails_at_end, last_parts, whole_text}
use Rattle.watch_report.proofs.reading.Reading.finish.Goals as goal

pub returns-in-Ok-clause-ok : goal.returns-in-Ok-clause-ok
returns-in-Ok-clause-ok g c = λ options known start records at.
    let r = c.args.self.now in
    let file = c.args.file.now in
    let about = told_of options (list_of c.args.list.now known) file in
    let before = verdicts_so_far r.header.scheme records at.taken in
    let given = told_of_taken about r.header.scheme records at.taken in
    let lines = known_text options.form options.detail about.known (counts_by about r.header.scheme records at.taken) in
    let summary = summary_as options.form file r.records c.args.wrong r.user r.kernel c.in_ok-design.design in
    let totals = totals_by options file r.header.scheme records given in
    let listed : c.push_known.new.text.items ≡ c.push_end.new.text.items ++ lines =
    subst (λ (o : Options). c.push_known.new.text.items ≡ c.push_end.new.text.items ++ known_text o.form o.detail about.known (counts_by about r.header.scheme records at.taken)) at.seen.options_are
    (c.in_ok-push_known.ensures known r.header.scheme (trace_of records) before at.seen.has_known) in
    let summed : c.push_summary_as.new.text.items ≡ c.push_known.new.text.items ++ summary =
    subst (λ (o : Options). c.push_summary_as.new.text.items ≡ c.push_known.new.text.items ++ summary_as o.form file r.records c.args.wrong r.user r.kernel c.in_ok-design.design) at.seen.options_are
    c.in_ok-push_summary_as.ensures.ok in
    let last : c.as_slice.result.now ≡ totals ++ (lines ++ summary) =
    last_parts _ _ _ _ _ totals lines summary c.new-text.ensures.items
    (c.in_ok-push_end.ensures options r.header.scheme records given at.seen.past at.seen.telling) listed summed c.as_slice.ensures.value in
    let design = c.in_ok-design.ensures known r.header.scheme (trace_of records) before at.seen.has_known in
    let whole = whole_text about c.args.wrong r.header.scheme records at.taken c.has_verdicts.result r.user r.kernel r.records c.in_ok-design.design at.seen.are c.has_verdicts.ensures at.seen.user at.seen.kernel at.seen.number design in
    (_, whole, Appends-trans start _ _ _ _ at.written (subst (Appends _ _) last c.in-Ok.ensures.ok))

pub returns-clause-err : goal.returns-clause-err
returns-clause-err g c = λ options known start records at.
    let r = c.args.self.now in
    let file = c.args.file.now in
    let about = told_of options (list_of c.args.list.now known) file in
    let before = verdicts_so_far r.header.scheme records at.taken in
    let given = told_of_taken about r.header.scheme records at.taken in
    let lines = known_text options.form options.detail about.known (counts_by about r.header.scheme records at.taken) in
    let summary = summary_as options.form file r.records c.args.wrong r.user r.kernel c.in_ok-design.design in
    let totals = totals_by options file r.header.scheme records given in
    let listed : c.push_known.new.text.items ≡ c.push_end.new.text.items ++ lines =
    subst (λ (o : Options). c.push_known.new.text.items ≡ c.push_end.new.text.items ++ known_text o.form o.detail about.known (counts_by about r.header.scheme records at.taken)) at.seen.options_are
    (c.in_ok-push_known.ensures known r.header.scheme (trace_of records) before at.seen.has_known) in
    let summed : c.push_summary_as.new.text.items ≡ c.push_known.new.text.items ++ summary =
    subst (λ (o : Options). c.push_summary_as.new.text.items ≡ c.push_known.new.text.items ++ summary_as o.form file r.records c.args.wrong r.user r.kernel c.in_ok-design.design) at.seen.options_are
    c.in_ok-push_summary_as.ensures.ok in
    let last : c.as_slice.result.now ≡ totals ++ (lines ++ summary) =
    last_parts _ _ _ _ _ totals lines summary c.new-text.ensures.items
    (c.in_ok-push_end.ensures options r.header.scheme records given at.seen.past at.seen.telling) listed summed c.as_slice.ensures.value in
    let design = c.in_ok-design.ensures known r.header.scheme (trace_of records) before at.seen.has_known in
    let whole = whole_text about c.args.wrong r.header.scheme records at.taken _ r.user r.kernel r.records c.in_ok-design.design at.seen.are refl at.seen.user at.seen.kernel at.seen.number design in
    let fails = fails_at_end about c.args.wrong c.in-Err.fault _ records _ _ _ start _ _ whole at.written (subst (AppendsFront _ _) last c.in-Err.ensures.err) in
    subst (λ (f : ReadingFault). FailsAtEnd f about c.args.wrong r.header.scheme records start (g.W.Write.contents c.write_whole.new.out)) (sym c.unwritten.ensures) fails
