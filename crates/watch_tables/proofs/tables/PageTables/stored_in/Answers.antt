use Rattle.std.proofs.Common.{◌+◌, ◌*◌, ◌/◌, ap, arith}
use Rattle.watch_tables.specs.FrameTables.{in_frames}
use Rattle.watch_tables.proofs.Filled.{all-filled, limit-most}
use Rattle.watch_tables.proofs.FrameAddresses.{each-frame, no-frame, sound-frame}
use Rattle.watch_tables.proofs.tables.PageTables.stored_in.Goals as goal

pub add_addresses-requires : goal.add_addresses-requires
add_addresses-requires c =
    let most = limit-most (c.args.frames.first + c.args.frames.count) in
    let end = c.ppns_of-from.ensures.end in
    let below = c.in-Some.ensures.below in
    omega arith

pub loop-ppn-preserved : goal.loop-ppn-preserved
loop-ppn-preserved c = record {
  from = let low = c.loop-ppn.invariant.from in let later = c.in-Some.ensures.from in omega arith;
  to = let below = c.in-Some.ensures.below in omega arith;
  sound = sound-frame c.args.self.now.frames c.ppns_of-from.result.0 c.loop-ppn.from c.in-Some.ppn c.in-Some.frame.now c.loop-ppn.addresses.items c.add_addresses.new.addresses.items c.loop-ppn.invariant.from c.in-Some.ensures.from c.in-Some.ensures.present c.in_ok-add_addresses.ensures
      c.loop-ppn.invariant.sound;
  each = each-frame c.args.self.now.frames c.ppns_of-from.result.0 c.loop-ppn.from c.in-Some.ppn c.in-Some.frame.now c.loop-ppn.addresses.items c.add_addresses.new.addresses.items c.loop-ppn.invariant.from c.in-Some.ensures.from c.in-Some.ensures.present c.in_ok-add_addresses.ensures
      c.in-Some.ensures.least c.loop-ppn.invariant.each;
}

pub returns : goal.returns
returns c =
    all-filled (in_frames c.args.self.now.frames) c.args.self.now.kept c.args.frames (c.ppns_of-from.result.0 * 512) (c.loop-ppn.from * 512) (c.ppns_of-from.result.1 * 512) c.loop-ppn.addresses.items
    (ap (λ k. k * 512) c.ppns_of-from.ensures.first) (ap (λ k. k * 512) c.ppns_of-from.ensures.end) (let to = c.loop-ppn.invariant.to in omega arith) c.loop-ppn.invariant.sound c.loop-ppn.invariant.each
    (λ n low high. no-frame c.args.self.now.frames n (c.first_from.ensures.none c.in_default.is (n / 512) (omega arith) (omega arith)))
