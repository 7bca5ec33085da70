use Rattle.std.proofs.Common.{◌<◌, All}
use Rattle.files.proofs.TextLemmas.{SetupSoFar}
use Rattle.files.proofs.live_file.setup_steps.Given as goal

abbrev pub invariant-loop-index : goal.invariant-loop-index
invariant-loop-index l = record {
  read : SetupSoFar l.scheme l.harts l.texts l.index l.steps.items;
  there : All (λ step. step.0 < l.harts) l.steps.items;
}
