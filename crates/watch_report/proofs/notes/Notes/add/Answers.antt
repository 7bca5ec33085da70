use Rattle.std.proofs.Common.{rules}
use Rattle.watch_report.proofs.NoteLemmas.{more_notes}
use Rattle.watch_report.proofs.notes.Notes.add.Goals as goal

pub returns-clause-ok : goal.returns-clause-ok
returns-clause-ok c = λ records newest are is.
    more_notes c.args.self.now _ records newest c.in_ok-place.place are (search rules) (search (rules, is)) (search rules) (search rules) (search rules)
