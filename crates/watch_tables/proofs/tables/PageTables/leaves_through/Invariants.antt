use Rattle.std.proofs.Common.{ℕ, ◌<◌, slice_index_or}
use Rattle.std.specs.List.{Contains}
use Rattle.watch.specs.Trace.{index_of}
use Rattle.watch_tables.specs.declared.leaf.RootLeaf.{RootLeaf}
use Rattle.watch_tables.specs.declared.way.Way.{Way}
use Rattle.watch_tables.specs.Words.{since, words}
use Rattle.watch_tables.specs.Leaves.{IsLeafAt}
use Rattle.watch_tables.proofs.tables.PageTables.leaves_through.Given as goal

-- the leaves by the ways before this one are there
abbrev pub invariant-loop-way : goal.invariant-loop-way
invariant-loop-way l = record {
  sound : (x : RootLeaf) → Contains l.out.items x → (way : Way) × Contains l.ways way × IsLeafAt l.fn.scheme (words l.self) (since l.self) way (index_of l.fn.address) x;
  each : (k : ℕ) (other : Way) (x : RootLeaf) → k < l.way-index → IsLeafAt l.fn.scheme (words l.self) (since l.self) (slice_index_or l.ways k other) (index_of l.fn.address) x → Contains l.out.items x;
}
