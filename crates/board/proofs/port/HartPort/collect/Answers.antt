use Rattle.board.proofs.Collects.{collected_step}
use Rattle.board.proofs.port.HartPort.collect.Goals as goal

pub loop-from-preserved : goal.loop-from-preserved
loop-from-preserved c = record {
  collected = collected_step c.args.self.now c.args.ticket c.loop-from.from c.loop-from.self c.look.new.self c.look.result c.loop-from.invariant.collected c.look.ensures.idle c.look.ensures.found c.look.ensures.after;
  still_open = c.look.ensures.open c.loop-from.invariant.still_open;
  same = rw c.look.ensures.same c.loop-from.invariant.same;
}
