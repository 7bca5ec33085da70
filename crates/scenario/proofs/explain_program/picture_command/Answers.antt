use Rattle.std.proofs.Common.{subst}
use Rattle.scenario.specs.Command.{Ending, Reports}
use Rattle.scenario.proofs.FileLemmas.{nothing_reported}
use Rattle.scenario.proofs.explain_program.picture_command.Goals as goal

pub returns-in-None : goal.returns-in-None
returns-in-None g c =
    let r = c.draw_trace.ensures in
    let err = g.E.Write.contents c.args.err.now in (
      r.0,
      r.1,
      record {
        told = c.draw_trace.result;
        leaves = r.2;
        reports = subst (λ (ending : Ending). Reports c.args.file.now ending 0 err err) c.in-None.ensures (nothing_reported c.args.file.now err);
      },
    )

pub returns-in-Some : goal.returns-in-Some
returns-in-Some g c =
    let r = c.draw_trace.ensures in
    let err = g.E.Write.contents c.args.err.now in (
      r.0,
      r.1,
      record {
        told = c.draw_trace.result;
        leaves = r.2;
        reports = subst (λ (ending : Ending). Reports c.args.file.now ending c.report.result err (g.E.Write.contents c.report.new.err)) c.in-Some.ensures c.report.ensures;
      },
    )
