use Rattle.std.proofs.Common.{arith}
use Rattle.std.proofs.lemmas.List.{take_rest, length-drop}
use Rattle.watch_report.proofs.OutputLemmas.{appends_more}
use Rattle.watch_report.proofs.output.write_whole.Goals as goal

pub loop-written-preserved : goal.loop-written-preserved
loop-written-preserved g c =
    let taken = rw take_rest at c.in-Ok.ensures.bytes in
    let bound = rw take_rest at c.in-Ok.ensures.bound in
    record {
      within = omega (arith, bound, length-drop c.loop-written.written c.args.bytes.now);
      front = appends_more _ _ _ c.loop-written.written c.in-Ok.count c.args.bytes.now c.loop-written.invariant.front taken;
    }
