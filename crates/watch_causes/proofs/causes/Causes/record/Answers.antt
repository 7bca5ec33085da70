use Rattle.std.proofs.Common.{◌∙◌, ap, length}
use Rattle.std.proofs.lemmas.List.{length-reverse}
use Rattle.watch_causes.specs.Begins.{begun_of}
use Rattle.watch_causes.specs.Judging.{verdicts_of}
use Rattle.watch_causes.specs.Logs.{asks_for_fence, numbered}
use Rattle.watch_causes.proofs.causes.Causes.record.Goals as goal

pub returns-clause-ok : goal.returns-clause-ok
returns-clause-ok c = λ trace given seen.
    let self = c.args.self.now in
    let verdicts = verdicts_of self.scheme trace given in
    let begun = begun_of self.scheme trace given in
    let count = c.len.ensures ∙ (self.log.fences.ok.0 ∙ (ap length seen.log.fences ∙ length-reverse (numbered asks_for_fence trace))) in
    record {
      log = c.in_ok-add-2.ensures.ok trace seen.log;
      findings = c.in_ok-take_all.ensures.findings trace verdicts seen.log seen.findings;
      reaches =
          c.in_ok-take_all.ensures.reached trace verdicts begun seen.log seen.findings
          (c.in_ok-add.ensures self.scheme trace verdicts begun seen.reaches count);
    }
