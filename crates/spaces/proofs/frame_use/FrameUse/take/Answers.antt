use Rattle.std.proofs.Common.{Some, length-set, arith}
use Rattle.spaces.specs.UnusedFrames.{marked_in}
use Rattle.spaces.proofs.MarkedFrames.{changed}
use Rattle.spaces.proofs.frame_use.FrameUse.take.Goals as goal

pub invariant_of-self : goal.invariant_of-self
invariant_of-self c =
    let holders = c.self.inside.holders.items in
    let long = length-set holders c.args.frame (Some c.args.place) in
    record {
      few = omega (arith, long, c.self.invariant.few);
      marked = changed (marked_in c.self.inside.unused) (marked_in c.remove.new.self) holders c.args.frame (Some c.args.place) c.self.invariant.marked c.remove.ensures.here c.remove.ensures.others;
    }
