use Rattle.std.proofs.Common.{◌+◌, ◌*◌, ◌∙◌, ap, arith}
use Rattle.watch_tables.proofs.FrameAddresses.{add-next, all-added, none-added}
use Rattle.watch_tables.proofs.tables.add_addresses.Goals as goal

pub loop-index-init : goal.loop-index-init
loop-index-init c = record { from = omega arith; added = none-added c.args.frame.now c.args.ppn c.args.addresses.now.items }

pub loop-index-preserved : goal.loop-index-preserved
loop-index-preserved c = record {
  from = let below = c.in-Some.ensures.below in omega arith;
  added = add-next c.args.frame.now c.args.ppn c.args.addresses.now.items c.loop-index.from c.in-Some.index _ _ c.loop-index.addresses.items c.push.new.self.items c.in-Some.ensures.from c.in-Some.ensures.present c.in-Some.ensures.least
      (ap (λ k. (c.args.ppn * k + c.from-in-Some.result) * 8) c.from.ensures ∙ ap (λ k. (c.args.ppn * 512 + k) * 8) c.from-in-Some.ensures) c.in_ok-push.ensures.items c.loop-index.invariant.added;
}

pub returns : goal.returns
returns c = all-added c.args.frame.now c.args.ppn c.args.addresses.now.items c.loop-index.from c.loop-index.addresses.items c.loop-index.invariant.from (c.next_word.ensures.none c.in_default.is) c.loop-index.invariant.added
