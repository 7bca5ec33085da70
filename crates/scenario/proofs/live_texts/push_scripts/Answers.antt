use Rattle.std.proofs.Common.{◌≡◌, length, arith}
use Rattle.scenario.proofs.LiveLemmas.{scripts_end}
use Rattle.scenario.proofs.live_texts.push_scripts.Goals as goal

pub returns : goal.returns
returns c =
    let end : c.loop-hart.hart ≡ length c.args.scripts.now = omega (arith, c.loop-hart-test.false, c.loop-hart.auto.hart-end) in
    record { ok = scripts_end c.args.scripts.now _ _ (rw end at c.loop-hart.invariant) }
