use Rattle.std.proofs.Common.{◌≡◌, ◌-◌, ◌⊎◌}
use Rattle.std.specs.List.{Contains}
use Rattle.pte.specs.Address.{top_level}
use Rattle.watch_tables.specs.declared.way.Way.{Way}
use Rattle.watch_tables.specs.Words.{since, words}
use Rattle.watch_tables.specs.Ways.{IsWay}
use Rattle.watch_tables.proofs.Climbing.{EachBut}
use Rattle.watch_tables.proofs.tables.PageTables.+add_ways.Given as goal

abbrev pub decreases-add_ways : goal.decreases-add_ways
decreases-add_ways l = top_level l.scheme - l.height

-- the ways by the pointers before this one are there
abbrev pub invariant-loop-number : goal.invariant-loop-number
invariant-loop-number l = record {
  next : (goal.iterator-loop-number).can_next l.number-iterator;
  finite : (goal.iterator-loop-number).is_finite l.number-iterator;
  kept : (w : Way) → Contains l.fn.out.items w → Contains l.out.items w;
  sound : (w : Way) → Contains l.out.items w → Contains l.fn.out.items w ⊎ (IsWay l.fn.scheme (words l.self) (since l.self) w × (w.at.table ≡ l.way.at.table));
  each : EachBut l.fn.scheme (words l.self) l.height l.way l.number-iterator l.out.items;
}
