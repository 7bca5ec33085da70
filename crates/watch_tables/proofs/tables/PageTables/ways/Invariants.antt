use Rattle.std.proofs.Common.{ℕ, ◌≡◌, ◌+◌, ◌≤◌, ◌<◌}
use Rattle.std.specs.List.{Contains}
use Rattle.pte.specs.Address.{top_level}
use Rattle.walk.specs.Leads.{Leads, word_at}
use Rattle.watch_tables.specs.declared.way.Way.{Way}
use Rattle.watch_tables.specs.Words.{since, words}
use Rattle.watch_tables.specs.Ways.{HasWay, IsWay, vpn_from}
use Rattle.watch_tables.proofs.tables.PageTables.ways.Given as goal

-- the ways of the levels before this one are there
abbrev pub invariant-loop-level : goal.invariant-loop-level
invariant-loop-level l = record {
  end : l.top ≡ top_level l.fn.scheme;
  to : l.level ≤ l.top;
  sound : (w : Way) → Contains l.out.items w → IsWay l.fn.scheme (words l.self) (since l.self) w × (w.at.table ≡ l.table);
  each : (root va level : ℕ) → level < l.level → Leads l.fn.scheme (words l.self) root va level l.table (word_at (words l.self) va level l.table) → HasWay l.out.items root level (vpn_from l.fn.scheme (level + 1) va);
}
