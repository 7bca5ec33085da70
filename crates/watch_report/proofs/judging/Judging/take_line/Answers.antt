use Rattle.std.proofs.Common.{◌≡◌, ◌∷◌, Option, Some, option_map, sym, ap, ◌∙◌}
use Rattle.watch_report.specs.declared.line.Line.{Line}
use Rattle.watch_report.specs.TraceLines.{line_in, record_of, said_by}
use Rattle.watch_report.proofs.judging.Judging.take_line.Goals as goal

pub returns-in_ok-take_record-in-Some-Record-clause-ok : goal.returns-in_ok-take_record-in-Some-Record-clause-ok
returns-in_ok-take_record-in-Some-Record-clause-ok c = λ filter records taken number has.
    let by = c.in-Some-Record.field-0-1.now in
    let says : line_in c.args.self.now.header c.args.line.now ≡ Some (record_of c.in-Some-Record.record by) =
    sym c.read_line.ensures ∙ ap (λ (l : Option Line). option_map said_by l) c.in-Some-Record.is ∙ ap (λ (l : Line). Some (said_by l)) c.in-Some-Record.field-0-is in
    let more = c.in_ok-take_record-in-Some-Record.ensures.ok filter records taken by number has in
    rw says (more.0 ∷ taken, more.1)
