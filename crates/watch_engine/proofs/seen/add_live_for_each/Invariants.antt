use Rattle.std.proofs.Common.{◌≡◌, drop}
use Rattle.watch_engine.specs.Seen.{with_live}
use Rattle.watch_engine.proofs.seen.add_live_for_each.Given as goal

abbrev pub invariant-loop-hart : goal.invariant-loop-hart
invariant-loop-hart l = with_live l.count l.leaf l.hart (drop l.hart l.satps) l.seen.items ≡ with_live l.count l.leaf 0 l.satps l.fn.seen.items
