use Rattle.std.proofs.Common.{arith}
use Rattle.watch_engine.proofs.NothingAdded.{nothing_added}
use Rattle.watch_engine.specs.View.{view_of}
use Rattle.watch_engine.proofs.unseen.adds_nothing.Goals as goal

pub returns : goal.returns
returns g c fills seen =
    nothing_added (view_of c.args.view.now) c.args.address c.args.ways.now c.requires
    (let least = c.in-len1.len_at_least in let below = c.in-len1.len_below in omega arith) _
    (c.is_in_no_satp.ensures c.if-not-is_in_no_satp.false)
    c.index_of.result c.index_of.ensures c.of_root-spaces.result.now c.of_root-spaces.ensures (c.fill_below.ensures fills) seen
