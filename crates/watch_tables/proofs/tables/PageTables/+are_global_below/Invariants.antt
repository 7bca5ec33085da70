use Rattle.std.proofs.Common.{◌+◌, ◌-◌, ◌*◌, ◌<◌, ◌≤◌, IsTrue}
use Rattle.pte.specs.Address.{vpn_of}
use Rattle.watch_tables.specs.declared.leaf.RootLeaf.{RootLeaf}
use Rattle.watch_tables.specs.Leaves.{IsLeafBelow}
use Rattle.watch_tables.specs.Words.{since, words}
use Rattle.watch_tables.proofs.tables.PageTables.+are_global_below.Given as goal

abbrev pub decreases-are_global_below : goal.decreases-are_global_below
decreases-are_global_below l = 2 * l.way.level + 1

abbrev pub decreases-are_global_at : goal.decreases-are_global_at
decreases-are_global_at l = 2 * l.way.level

-- the leaves at the words before this one are global
abbrev pub invariant-are_global_below-loop-index : goal.invariant-are_global_below-loop-index
invariant-are_global_below-loop-index l = record {
  from : l.from ≤ 512;
  before : (x : RootLeaf) → IsLeafBelow l.fn.scheme (words l.self) (since l.self) l.way x → vpn_of x.entry.page.base l.way.level < l.from → IsTrue x.entry.global;
}

abbrev pub decreases-are_global_below-loop-index : goal.decreases-are_global_below-loop-index
decreases-are_global_below-loop-index l = 512 - l.from
