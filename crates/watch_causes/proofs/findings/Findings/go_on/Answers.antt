use Rattle.std.proofs.Common.{◌∙◌, Some, ap, false}
use Rattle.std.proofs.lemmas.Result.{on_ok_weaker}
use Rattle.watch_causes.specs.Findings.{Judged}
use Rattle.watch_causes.specs.Tallies.{with_verdict}
use Rattle.watch_causes.proofs.Knowing.{same-causes, with-known}
use Rattle.watch_causes.proofs.findings.Findings.go_on.Goals as goal

pub returns : goal.returns
returns c = λ verdicts reason are some.
    let v : Judged = record { number = c.args.number; warning = c.args.warning.now; reason = reason } in
    on_ok_weaker c.count.result
    (λ done.
    record {
      causes = λ f. are.causes f ∙ same-causes verdicts v c.args.cause.now some f;
      tallies = done ∙ (ap (with_verdict c.args.cause.now false v) are.tallies ∙ with-known verdicts v (Some c.args.cause.now) some);
    })
    (c.count.ensures reason)
