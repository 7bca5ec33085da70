use Rattle.std.proofs.Common.{◌≡◌, drop}
use Rattle.watch_engine.specs.Filling.{AreAnswers}
use Rattle.watch_engine.specs.Seen.{with_kept}
use Rattle.watch_engine.specs.View.{view_of}
use Rattle.watch_engine.proofs.seen.add_kept_for_each.Given as goal

abbrev pub invariant-loop-space : goal.invariant-loop-space
invariant-loop-space g l =
    (with_kept (view_of l.view) l.leaf (drop l.space-index l.left) l.seen.items
    ≡ with_kept (view_of l.view) l.leaf l.left l.fn.seen.items)
    × AreAnswers (view_of l.view) l.leaf.entry l.answers
