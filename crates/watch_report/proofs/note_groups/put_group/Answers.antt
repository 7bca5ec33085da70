use Rattle.std.proofs.Common.{◌∙◌, Some}
use Rattle.watch_report.specs.GroupsSoFar.{group_in}
use Rattle.watch_report.proofs.NoteGroupLemmas.{one_note}
use Rattle.watch_report.proofs.note_groups.put_group.Goals as goal

pub returns-in-Ok : goal.returns-in-Ok
returns-in-Ok c = λ by.
    c.in-Ok.ensures.updates.0 (record { ref_ptr = (0, 0); now = by })
    ∙ one_note c.args.note.now by (Some c.args.group) (group_in c.args.groups.now by)
