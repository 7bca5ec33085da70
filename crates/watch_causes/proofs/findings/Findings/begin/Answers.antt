use Rattle.std.proofs.Common.{◌∙◌, None, Option, Some, ap, true}
use Rattle.std.specs.BTreeMap.{get}
use Rattle.std.specs.Prelude.{cond}
use Rattle.std.specs.Ordering.{is_eq}
use Rattle.std.proofs.lemmas.Result.{on_ok_weaker}
use Rattle.watch_causes.specs.declared.finding.Cause.{Cause}
use Rattle.watch_causes.specs.declared.finding.Finding.{Finding}
use Rattle.watch_causes.specs.Findings.{Judged, cause_by, finding_cmp, finding_of}
use Rattle.watch_causes.specs.Tallies.{with_verdict}
use Rattle.watch_causes.proofs.Knowing.{if-fine, one-more-cause, with-known}
use Rattle.watch_causes.proofs.findings.Findings.begin.Goals as goal

pub returns : goal.returns
returns c = λ verdicts are none.
    let v : Judged = record { number = c.args.number; warning = c.args.warning.now; reason = c.args.reason } in
    let updates = (if-fine c.insert.result c.is_err.result c.is_err.ensures.value c.if-is_err.false c.insert.ensures.updates).0 in
    on_ok_weaker c.count.result
    (λ done.
    record {
      causes = λ f.
          updates f
          ∙ (ap (λ (k : Finding). cond (is_eq (finding_cmp k f)) (Some c.cause_by-cause.result) (get finding_cmp c.args.self.now.causes f)) c.finding_of.ensures
          ∙ (ap (λ (cause : Cause). cond (is_eq (finding_cmp (finding_of c.args.warning.now) f)) (Some cause) (get finding_cmp c.args.self.now.causes f)) (c.cause_by-cause.ensures c.args.number)
          ∙ (ap (λ (o : Option Cause). cond (is_eq (finding_cmp (finding_of c.args.warning.now) f)) (Some (cause_by v)) o) (are.causes f) ∙ one-more-cause verdicts v none f)));
      tallies =
          done
          ∙ (ap (λ (cause : Cause). with_verdict cause true v c.args.self.now.tallies.items) (c.cause_by-cause.ensures c.args.number)
          ∙ (ap (with_verdict (cause_by v) true v) are.tallies ∙ with-known verdicts v None none));
    })
    (c.count.ensures c.args.reason)
