use Rattle.std.proofs.Common.{rules, ◌≡◌, true, refl, ◌∙◌}
use Rattle.harts.specs.Performs.{TakesTurns, is_waiting}
use Rattle.harts.proofs.PlayLemmas.{turns_more}
use Rattle.harts.proofs.live_port.wait.Goals as goal

pub loop-taken-init : goal.loop-taken-init
unfolding TakesTurns
loop-taken-init c = record { same = refl; turns = refl }

pub loop-taken-preserved : goal.loop-taken-preserved
loop-taken-preserved c =
    let at = c.loop-taken in let waiting : is_waiting c.collect-found.result ≡ true = search rules in
    record {
      same = c.collect-found.ensures.same ∙ c.serve_others-served.ensures.same ∙ at.invariant.same;
      turns = turns_more c.args.latch.now.harts c.args.ticket at._taken c.args.port.now at.port c.collect-found.new.port c.collect-found.result at.invariant.turns
          (c.serve_others-served.new.port, c.serve_others-served.ensures.serves, c.collect-found.ensures.collects) waiting;
    }
