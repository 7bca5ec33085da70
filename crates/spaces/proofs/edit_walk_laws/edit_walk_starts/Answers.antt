use Rattle.spaces.proofs.HomeReads.{starts-as}
use Rattle.spaces.proofs.Stages.{starts}
use Rattle.spaces.proofs.edit_walk_laws.edit_walk_starts.Goals as goal

pub returns-clause-answer : goal.returns-clause-answer
returns-clause-answer c l words holders fits tree = starts l fits words holders tree

pub returns-clause-stage : goal.returns-clause-stage
returns-clause-stage c l hart w e started = let s = starts-as l hart w e started in (s.stage, s.wish_is, s.level)
