use Rattle.std.proofs.Common.{rules, ◌≡◌, ◌<◌, true, length, drop, get_or, subst, [], sym, ap, ◌∙◌, arith, append-nil}
use Rattle.std.proofs.lemmas.List.{drop_all}
use Rattle.harts.specs.Plays.{Plays}
use Rattle.harts.specs.Performs.{Performs}
use Rattle.harts.specs.Scripts.{is_answered, may_answer}
use Rattle.harts.proofs.PlayLemmas.{answered_step, plays_ended, plays_halted, plays_more}
use Rattle.harts.proofs.live_script.play.Goals as goal

pub returns-clause-answered : goal.returns-clause-answered
returns-clause-answered g c = λ _.
    let at = c.loop-step in let script = c.args.script.now in
    ap (is_answered script) (sym (append-nil at.answers.items)) ∙ at.invariant.answered []
    ∙ ap (λ left. is_answered left []) (drop_all at.step-index script (search arith))

pub returns-clause-plays : goal.returns-clause-plays
returns-clause-plays g c = λ _.
    let at = c.loop-step in let script = c.args.script.now in
    plays_ended (record { gate = g.G.Gate.says c.args.gate.now; harts = c.args.latch.now.harts; turns = c.args.turns }) c.args.hart at.number (drop at.step-index script)
    at.port at.answers.items (λ answers last. Plays (record { gate = g.G.Gate.says c.args.gate.now; harts = c.args.latch.now.harts; turns = c.args.turns }) c.args.hart 0 script c.args.port.now answers last)
    (drop_all at.step-index script (search arith)) at.invariant.plays

pub returns-then-not-before-clause-plays : goal.returns-then-not-before-clause-plays
returns-then-not-before-clause-plays g c = λ _.
    let at = c.loop-step in let script = c.args.script.now in
    let less : at.step-index < length script = search rules in
    plays_halted (record { gate = g.G.Gate.says c.args.gate.now; harts = c.args.latch.now.harts; turns = c.args.turns }) c.args.hart at.number c.saturating_add-number.result script at.step-index c.step-item.result
    at.port at.answers.items c.push_reserved.new.self.items (λ answers last. Plays (record { gate = g.G.Gate.says c.args.gate.now; harts = c.args.latch.now.harts; turns = c.args.turns }) c.args.hart 0 script c.args.port.now answers last)
    c.saturating_add-number.ensures c.push_reserved.ensures.items less (c.before-in-loop-step.ensures.halt c.if-not-before.true) at.invariant.plays

pub loop-step-preserved : goal.loop-step-preserved
loop-step-preserved g c =
    let at = c.loop-step in let script = c.args.script.now in let item = c.step-item.result in let reply = c.in-Some.reply in
    let less : at.step-index < length script = search rules in
    let made : may_answer (get_or script at.step-index item) reply ≡ true = ap (λ w. may_answer w reply) (sym c.step-item.is) ∙ c.in-Some.ensures.made in
    record {
      same = c.perform.ensures.same ∙ at.invariant.same;
      count = search rules;
      room = search rules;
      plays = plays_more (record { gate = g.G.Gate.says c.args.gate.now; harts = c.args.latch.now.harts; turns = c.args.turns }) c.args.hart at.number c.saturating_add-number.result script at.step-index item
          at.port c.perform.new.port at.answers.items c.push_reserved-in-loop-step.new.self.items reply (λ answers last. Plays (record { gate = g.G.Gate.says c.args.gate.now; harts = c.args.latch.now.harts; turns = c.args.turns }) c.args.hart 0 script c.args.port.now answers last)
          c.saturating_add-number.ensures c.push_reserved-in-loop-step.ensures.items less made (c.before-in-loop-step.ensures.pass (search rules)) c.after.ensures.told
          (subst (λ w. Performs c.args.latch.now.harts c.args.turns w at.port c.perform.new.port reply) c.step-item.is c.in-Some.ensures.performs) at.invariant.plays;
      answered = answered_step script at.step-index item at.answers.items c.push_reserved-in-loop-step.new.self.items reply c.push_reserved-in-loop-step.ensures.items less made at.invariant.answered;
    }
