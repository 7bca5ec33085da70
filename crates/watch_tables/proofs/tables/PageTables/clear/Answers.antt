use Rattle.std.proofs.Common.{◌*◌, ◌/◌, ap, sym, arith}
use Rattle.watch_tables.specs.FrameTables.{in_frames}
use Rattle.watch_tables.specs.Pointers.{has_pointer}
use Rattle.watch_tables.proofs.Memory.{memory-cleared}
use Rattle.watch_tables.proofs.FrameAddresses.{no-frame}
use Rattle.watch_tables.proofs.FramePointers.{is-gone, is-kept, kept-without, linked-without}
use Rattle.watch_tables.proofs.tables.PageTables.clear.Goals as goal

pub invariant_of-self : goal.invariant_of-self
invariant_of-self c =
    let there = sym c.in-Some-remove.ensures.value in
    let gone = is-gone c.loop-ppn.self.frames c.remove.new.self c.in-Some.ppn c.remove.ensures.without in
    let kept = is-kept c.loop-ppn.self.frames c.remove.new.self c.in-Some.ppn c.remove.ensures.without in
    record {
      kept = kept-without c.loop-ppn.self.frames c.remove.new.self c.in-Some.ppn c.in-Some-remove.frame there gone kept c.loop-ppn.self.kept;
      linked = linked-without c.loop-ppn.self.frames c.remove.new.self c.in-Some.ppn c.in-Some-remove.frame there gone kept (has_pointer c.loop-ppn.self.pointers) (has_pointer c.remove_pointers.new.pointers) c.loop-ppn.self.linked c.remove_pointers.ensures.inside
          c.remove_pointers.ensures.outside;
    }

pub returns-clause-words : goal.returns-clause-words
returns-clause-words c = λ hart.
    memory-cleared (in_frames c.args.self.now.frames) (in_frames c.loop-ppn.self.frames) c.args.frames (c.ppns_of-start.result.0 * 512) (c.ppns_of-start.result.1 * 512) (ap (λ k. k * 512) c.ppns_of-start.ensures.first) (ap (λ k. k * 512) c.ppns_of-start.ensures.end)
    c.loop-ppn.invariant.below c.loop-ppn.invariant.above (λ n low high. no-frame c.loop-ppn.self.frames n (c.first_from.ensures.none c.in_default.is (n / 512) (omega arith) (omega arith)))
