use Rattle.std.proofs.Common.{◌≤◌}
use Rattle.pte.specs.Address.{top_level}
use Rattle.watch_tables.specs.Words.{words}
use Rattle.watch_tables.specs.Paths.{IsReached}
use Rattle.watch_tables.proofs.tables.PageTables.table_at.Given as goal

abbrev pub invariant-loop-here : goal.invariant-loop-here
invariant-loop-here l = record {
  from : l.level ≤ l.here;
  to : l.here ≤ top_level l.fn.scheme;
  reached : IsReached l.fn.scheme (words l.self) l.fn.root l.va l.here l.at;
}

abbrev pub decreases-loop-here : goal.decreases-loop-here
decreases-loop-here l = l.here
