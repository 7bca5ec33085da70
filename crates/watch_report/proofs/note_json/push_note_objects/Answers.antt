use Rattle.std.proofs.Common.{refl}
use Rattle.watch_report.specs.JsonObjects.{json_line}
use Rattle.watch_report.specs.NoteObjects.{note_object, note_objects}
use Rattle.watch_report.specs.TraceText.{note_at}
use Rattle.watch_report.proofs.NoteLineLemmas.{one_more_line}
use Rattle.watch_report.proofs.note_json.push_note_objects.Goals as goal

pub loop-group-preserved : goal.loop-group-preserved
loop-group-preserved c = λ records are.
    one_more_line (λ g. json_line (note_object c.args.file.now c.args.number (note_at records g.since) c.args.global g)) (note_objects c.args.file.now c.args.number (note_at records) c.args.global) (λ g gs. refl) c.args.groups.now
    c.loop-group.group-index _ c.loop-group.text.items c.push_note_object.new.text.items _ c.loop-group-test.true (c.in_ok-push_note_object.ensures.ok records are) (c.loop-group.invariant records are)
