use Rattle.std.proofs.Common.{◌∙◌, Option, ap}
use Rattle.std.specs.Option.{unwrap_or}
use Rattle.watch_report.specs.declared.note_group.NoteGroup.{NoteGroup}
use Rattle.watch_report.specs.NoteGroups.{no_finding, of_note}
use Rattle.watch_report.proofs.NoteGroupLemmas.{counts_in}
use Rattle.watch_report.proofs.note_groups.Groups.counts.Goals as goal

pub returns : goal.returns
returns c = λ notes before are.
    c.or_none.ensures
    ∙ (ap (λ (o : Option NoteGroup). unwrap_or o no_finding) (c.group_of.ensures ∙ are.groups c.args.note.now) ∙ counts_in (of_note notes c.args.note.now before))
