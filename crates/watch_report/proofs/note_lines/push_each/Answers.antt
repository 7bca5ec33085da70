use Rattle.std.proofs.Common.{refl}
use Rattle.watch_report.specs.NoteLines.{each_note_line, note_line}
use Rattle.watch_report.specs.TraceText.{note_at}
use Rattle.watch_report.proofs.NoteLineLemmas.{one_more_line}
use Rattle.watch_report.proofs.note_lines.push_each.Goals as goal

pub loop-group-preserved : goal.loop-group-preserved
loop-group-preserved c = λ records are.
    one_more_line (λ g. note_line (note_at records g.since) c.args.global g) (each_note_line (note_at records) c.args.global) (λ g gs. refl) c.args.groups.now c.loop-group.group-index _ c.loop-group.text.items
    c.push_note.new.text.items _ c.loop-group-test.true (c.in_ok-push_note.ensures.ok records are) (c.loop-group.invariant records are)
