use Rattle.std.proofs.Common.{◌≡◌, drop}
use Rattle.watch.specs.Trace.{Trace}
use Rattle.watch.specs.WorkedTraces.{recorded, trace_of}
use Rattle.watch_causes.specs.Stories.{AreLast}
use Rattle.watch_engine.specs.Watching.{Follows}
use Rattle.watch_tables.specs.Words.{since, words}
use Rattle.watch_causes.proofs.stories.last_warnings.Given as goal

abbrev pub invariant-loop-made : goal.invariant-loop-made
invariant-loop-made l =
    (so_far : Trace) × Follows words since so_far l.watch × (l.watch.scheme ≡ l.fn.scheme)
    × AreLast l.fn.scheme so_far l.last.items
    × (recorded so_far (drop l.made-index l.records) ≡ trace_of l.records)
