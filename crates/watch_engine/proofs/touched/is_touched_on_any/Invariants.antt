use Rattle.std.proofs.Common.{◌≡◌, drop}
use Rattle.watch.specs.Trace.{index_of}
use Rattle.watch_engine.specs.Held.{translation_of}
use Rattle.watch_engine.specs.Touched.{is_touched}
use Rattle.watch_engine.proofs.touched.is_touched_on_any.Given as goal

abbrev pub invariant-loop-way : goal.invariant-loop-way
invariant-loop-way l = is_touched l.scheme l.roots (index_of l.address) (drop l.way-index l.ways) (translation_of l.item) ≡ is_touched l.scheme l.roots (index_of l.address) l.ways (translation_of l.item)
