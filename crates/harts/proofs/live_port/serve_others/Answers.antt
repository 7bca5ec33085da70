use Rattle.std.proofs.Common.{refl, ◌∙◌}
use Rattle.harts.specs.Performs.{ServesBelow}
use Rattle.harts.proofs.PlayLemmas.{serves_more}
use Rattle.harts.proofs.live_port.serve_others.Goals as goal

pub loop-from-init : goal.loop-from-init
unfolding ServesBelow
loop-from-init c = record { same = refl; serves = refl }

pub loop-from-preserved : goal.loop-from-preserved
loop-from-preserved c =
    let at = c.loop-from in
    record {
      same = c.serve.ensures.same ∙ at.invariant.same;
      serves = serves_more at.from c.args.port.now at.port c.serve.new.port c.serve.result at.invariant.serves c.serve.ensures.serves;
    }
