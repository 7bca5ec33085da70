use Rattle.std.proofs.Common.{◌∙◌}
use Rattle.watch_report.specs.GroupsSoFar.{page_in}
use Rattle.watch_report.proofs.NoteGroupLemmas.{one_page}
use Rattle.watch_report.proofs.note_groups.add_page.Goals as goal

pub returns-in-Ok-clause-pages : goal.returns-in-Ok-clause-pages
returns-in-Ok-clause-pages c = λ by p.
    c.in-Ok.ensures.updates.0 (record { note = record { ref_ptr = (0, 0); now = by }; page = p })
    ∙ one_page c.args.note.now by c.args.page p (page_in c.args.pages.now by p)
