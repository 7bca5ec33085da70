use Rattle.watch_engine.specs.Shared.{AreAnswersBelow}
use Rattle.watch_engine.specs.View.{view_of}
use Rattle.watch_engine.proofs.shared.answers_below.Given as goal

abbrev pub invariant-loop-space : goal.invariant-loop-space
invariant-loop-space g l = AreAnswersBelow (view_of l.view) l.leaf l.answers
