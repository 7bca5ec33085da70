use Rattle.std.proofs.Common.{◌∙◌, ◌≤◌, sym, rules}
use Rattle.watch_engine.proofs.LiveHarts.{from_first, to_end}
use Rattle.watch_engine.proofs.seen.add_live_for_each.Goals as goal

pub loop-hart-init : goal.loop-hart-init
loop-hart-init c = from_first c.args.count c.args.leaf.now c.args.satps.now c.args.harts c.args.seen.now.items c.requires.harts

pub returns : goal.returns
returns c =
    let late : c.args.harts.end ≤ c.loop-hart.hart = search rules in
    sym (to_end c.args.count c.args.leaf.now c.args.satps.now c.args.harts c.loop-hart.hart c.loop-hart.hart c.loop-hart.seen.items c.requires.harts late)
    ∙ c.loop-hart.invariant
