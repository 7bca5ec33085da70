use Rattle.std.proofs.Common.{◌≡◌, ◌∷◌, ◌+◌, List, drop, ap, sym, ◌∙◌, rules, arith}
use Rattle.std.proofs.lemmas.List.{at_drop_more}
use Rattle.history.specs.Turns.{History}
use Rattle.stepcore.specs.Stands.{Stands}
use Rattle.one_hart.specs.declared.call.Call.{Call}
use Rattle.one_hart.proofs.Lists.{all-made, begun, one-more}
use Rattle.one_hart.proofs.machine_calls.answer_all.Goals as goal

pub loop-call-init : goal.loop-call-init
loop-call-init c = record {
  count = search rules;
  room = search rules;
  so_far = λ C H st. begun C H c.args.calls.now c.args.answers.now.items (λ (G : History). Stands C c.args.machine.now G) c.requires.none st;
}

pub loop-call-preserved : goal.loop-call-preserved
loop-call-preserved c =
    let i = c.loop-call.call-index in
    let calls = c.args.calls.now in
    let call = c.call-item.result in
    let next : drop i calls ≡ call ∷ drop (i + 1) calls =
    at_drop_more (λ (xs : List Call). xs) calls i call c.loop-call-test.true ∙ ap (λ (x : Call). x ∷ drop (i + 1) calls) (sym c.call-item.is) in
    record {
      count = search rules;
      room = search rules;
      so_far = λ C H st.
          one-more C H calls i c.loop-call.answers.items (λ (G : History). Stands C c.loop-call.machine G) (λ (G : History). Stands C c.answer.new.machine G) (c.loop-call.invariant.so_far C H st)
          call c.answer.result c.push_reserved.new.self.items next c.push_reserved.ensures.items (λ G at. c.answer.ensures C G at);
    }

pub returns : goal.returns
returns c = λ C H st.
    let At = λ (G : History). Stands C c.loop-call.machine G in
    all-made C H c.args.calls.now c.loop-call.call-index c.loop-call.answers.items At At (c.loop-call.invariant.so_far C H st) (omega (arith, c.loop-call-test.false))
