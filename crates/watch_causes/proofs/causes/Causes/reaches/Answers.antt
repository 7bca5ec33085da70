use Rattle.std.proofs.Common.{◌∙◌}
use Rattle.watch_causes.specs.Begins.{begun_of}
use Rattle.watch_causes.specs.Judging.{verdicts_of}
use Rattle.watch_causes.proofs.causes.Causes.reaches.Goals as goal

pub returns : goal.returns
returns c = λ trace given seen.
    let scheme = c.args.self.now.scheme in
    c.reaches.ensures trace (verdicts_of scheme trace given) (begun_of scheme trace given) seen.reaches (c.as_slice.ensures.value ∙ seen.log.fences)
