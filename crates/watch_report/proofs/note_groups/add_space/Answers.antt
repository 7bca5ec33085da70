use Rattle.std.proofs.Common.{◌∙◌}
use Rattle.watch_report.specs.GroupsSoFar.{space_in}
use Rattle.watch_report.proofs.NoteGroupLemmas.{one_space}
use Rattle.watch_report.proofs.note_groups.add_space.Goals as goal

pub returns-in-Ok-clause-spaces : goal.returns-in-Ok-clause-spaces
returns-in-Ok-clause-spaces c = λ by s.
    c.in-Ok.ensures.updates.0 (record { note = record { ref_ptr = (0, 0); now = by }; space = s })
    ∙ one_space c.args.note.now by c.args.space s (space_in c.args.spaces.now by s)
