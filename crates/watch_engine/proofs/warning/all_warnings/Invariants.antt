use Rattle.std.proofs.Common.{◌≡◌, []}
use Rattle.watch_engine.specs.Warnings.{joined}
use Rattle.watch_engine.proofs.warning.all_warnings.Given as goal

abbrev pub invariant-loop-item : goal.invariant-loop-item
invariant-loop-item l = joined l.cause l.item-iterator l.warnings.items ≡ joined l.cause l.held []
