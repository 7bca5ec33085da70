use Rattle.scenario.proofs.FileLemmas.{nothing_reported}
use Rattle.scenario.proofs.OutcomeLemmas.{ended, explained_report, used_reported}
use Rattle.scenario.proofs.program.end.Goals as goal

pub returns-in-Nothing : goal.returns-in-Nothing
returns-in-Nothing g c =
    let written = rw c.as_bytes.ensures.value at c.in_default.ensures.ok in
    ended c.args.answered c.in-Ok.outcome c.args.file.now 0 _ _ _ _ c.in-Ok.is written (rw c.in-Nothing.is (nothing_reported c.args.file.now (g.E.Write.contents c.args.err.now)))

pub returns-in-StaleUsed : goal.returns-in-StaleUsed
returns-in-StaleUsed g c =
    let written = rw c.as_bytes.ensures.value at c.in_default.ensures.ok in
    ended c.args.answered c.in-Ok.outcome c.args.file.now 1 _ _ _ _ c.in-Ok.is written (rw c.in-StaleUsed.is (used_reported c.args.file.now (g.E.Write.contents c.args.err.now)))

pub returns : goal.returns
returns g c =
    let written = rw c.as_bytes.ensures.value at c.in_default.ensures.ok in
    ended c.args.answered c.in-Ok.outcome c.args.file.now c.report-in-Faulty.result _ _ _ _ c.in-Ok.is written
    (rw c.in-Faulty.is (explained_report c.args.file.now c.in-Faulty.fault _ _ _ c.report-in-Faulty.ensures))
