use Rattle.std.proofs.Common.{◌≡◌, Option, Some, option_map, sym, ap, ◌∙◌}
use Rattle.watch_report.specs.declared.line.Line.{Line}
use Rattle.watch_report.specs.Reports.{told_of}
use Rattle.watch_report.specs.TraceLines.{line_in, record_of, said_by}
use Rattle.watch_report.proofs.VerdictLemmas.{fails_at_line}
use Rattle.watch_report.proofs.reading.Reading.take_line.Goals as goal

pub returns-in-Ok-clause-ok : goal.returns-in-Ok-clause-ok
returns-in-Ok-clause-ok g c = λ options known start records at.
    let says : line_in c.args.self.now.header c.args.line.now ≡ Some (record_of c.in-Some-Record.record c.in-Some-Record.by.now) =
    sym c.read_line.ensures ∙ ap (λ (l : Option Line). option_map said_by l) c.in-Some-Record.is ∙ ap (λ (l : Line). Some (said_by l)) c.in-Some-Record.field-0-is in
    rw says (c.in-Ok.ensures.ok options known start records at)

pub returns-in-Err-clause-err : goal.returns-in-Err-clause-err
returns-in-Err-clause-err g c = λ options known start records at.
    let says : line_in c.args.self.now.header c.args.line.now ≡ Some (record_of c.in-Some-Record.record c.in-Some-Record.by.now) =
    sym c.read_line.ensures ∙ ap (λ (l : Option Line). option_map said_by l) c.in-Some-Record.is ∙ ap (λ (l : Line). Some (said_by l)) c.in-Some-Record.field-0-is in
    fails_at_line c.in-Err.fault (told_of options known c.args.file.now) _ c.args.number _ c.in-Some-Record.by.now c.in-Some-Record.record records start _ says (c.in-Err.ensures.err options known start records at)
