use Rattle.std.proofs.Common.{ℕ, List, Option, refl, subst}
use Rattle.std.proofs.KnownBytes.{Appends-nil}
use Rattle.scenario.specs.Command.{Ending, Reports, warned}
use Rattle.scenario.proofs.FileLemmas.{nothing_reported}
use Rattle.scenario.proofs.watch_program.watch_command_with.Goals as goal

-- of verdicts nothing is written on standard error
warned_reported : (file : List ℕ) (err : Option (List ℕ)) → Reports file warned 1 err err
warned_reported file err = record { told = warned; is_told = refl; status_is = refl; tells = (0, Appends-nil err) }

pub returns-in-Ok-true : goal.returns-in-Ok-true
returns-in-Ok-true g c =
    let e = rw c.in-Ok-true.field-0-test at c.in-Ok-true.ensures in
    let r = c.report_trace.ensures in
    let err = g.E.Write.contents c.args.err.now in (
      r.0,
      r.1,
      record {
        reported = c.report_trace.result;
        leaves = r.2;
        reports = subst (λ (ending : Ending). Reports c.args.file.now ending 1 err err) e (warned_reported c.args.file.now err);
      },
    )

pub returns-in-Ok-false : goal.returns-in-Ok-false
returns-in-Ok-false g c =
    let e = rw c.in-Ok-false.field-0-test at c.in-Ok-false.ensures in
    let r = c.report_trace.ensures in
    let err = g.E.Write.contents c.args.err.now in (
      r.0,
      r.1,
      record {
        reported = c.report_trace.result;
        leaves = r.2;
        reports = subst (λ (ending : Ending). Reports c.args.file.now ending 0 err err) e (nothing_reported c.args.file.now err);
      },
    )

pub returns-in-Err : goal.returns-in-Err
returns-in-Err g c =
    let r = c.report_trace.ensures in
    let err = g.E.Write.contents c.args.err.now in (
      r.0,
      r.1,
      record {
        reported = c.report_trace.result;
        leaves = r.2;
        reports = subst (λ (ending : Ending). Reports c.args.file.now ending c.report.result err (g.E.Write.contents c.report.new.err)) c.in-Err.ensures c.report.ensures;
      },
    )
