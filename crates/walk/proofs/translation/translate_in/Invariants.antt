use Rattle.walk.specs.Stage.{OnPath, IsFor}
use Rattle.walk.proofs.translation.translate_in.Given as goal

abbrev pub invariant-loop-next : goal.invariant-loop-next
invariant-loop-next g l = record {
  on : OnPath l.fn.scheme (g.W.Words.words l.words) l.root l.walk;
  same : IsFor l.walk l.va l.fn.access l.fn.ctx;
}

abbrev pub decreases-loop-next : goal.decreases-loop-next
decreases-loop-next g l = l.walk.level
