use Rattle.std.proofs.Common.{◌+◌, ◌-◌, ◌*◌, ◌≤◌, ◌⊎◌}
use Rattle.std.specs.Prelude.{◌↔◌}
use Rattle.std.specs.List.{Contains}
use Rattle.watch_tables.specs.declared.leaf.RootLeaf.{RootLeaf}
use Rattle.watch_tables.specs.Leaves.{IsLeafBelow}
use Rattle.watch_tables.specs.Words.{since, words}
use Rattle.pte.specs.Address.{vpn_of}
use Rattle.std.specs.Prelude.{◌<◌}
use Rattle.watch_tables.proofs.tables.PageTables.+add_leaves.Given as goal

abbrev pub decreases-add_leaves : goal.decreases-add_leaves
decreases-add_leaves l = 2 * l.way.level + 1

abbrev pub decreases-add_leaves_at : goal.decreases-add_leaves_at
decreases-add_leaves_at l = 2 * l.way.level

-- the leaves of the words before this one are there
abbrev pub invariant-add_leaves-loop-index : goal.invariant-add_leaves-loop-index
invariant-add_leaves-loop-index l = record {
  from : l.from ≤ 512;
  exact : (x : RootLeaf) → Contains l.out.items x ↔ (Contains l.fn.out.items x ⊎ (IsLeafBelow l.fn.scheme (words l.self) (since l.self) l.way x × (vpn_of x.entry.page.base l.way.level < l.from)));
}

abbrev pub decreases-add_leaves-loop-index : goal.decreases-add_leaves-loop-index
decreases-add_leaves-loop-index l = 512 - l.from
