use Rattle.std.proofs.Common.{◌+◌, ◌-◌, ap, sym, subst, ◌∙◌, arith}
use Rattle.pte.specs.Address.{level_count, widest}
use Rattle.history.specs.Turns.{with_turn}
use Rattle.history.specs.declared.event.Event.TheVariants as event
use Rattle.history.specs.declared.reply.Reply.{Reply}
use Rattle.stepcore.specs.Stands.{Stands}
use Rattle.one_hart.specs.Answering.{heard}
use Rattle.one_hart.specs.Asked.{Turned, load_on, loaded}
use Rattle.one_hart.proofs.Walked.{loaded-next, loaded-none}
use Rattle.one_hart.proofs.machine_calls.translate.Goals as goal

pub loop-made-init : goal.loop-made-init
loop-made-init c = λ C H st.
    let due = c.step-reply.ensures.due C H st in (
      with_turn (event.Begin 0 c.args.va c.args.access c.args.ctx) c.step-reply.result H,
      c.step-reply.ensures.stands C H st,
      ap (λ (r : Reply). let last : Turned = record { reply = r; history = with_turn (event.Begin 0 c.args.va c.args.access c.args.ctx) r H } in loaded (level_count widest) C last) due,
    )

pub loop-made-preserved : goal.loop-made-preserved
loop-made-preserved c = λ C H st.
    let i = c.loop-made._made in
    let before = c.loop-made.invariant C H st in
    let last : Turned = record { reply = c.loop-made.reply; history = before.0 } in
    let made = c.load_on-reply.ensures C before.0 before.1 in
    let after : Turned = load_on C last in (
      after.history,
      made.1,
      ap (λ (r : Reply). let next : Turned = record { reply = r; history = after.history } in loaded (level_count widest - (i + 1)) C next) made.0
          ∙ sym (loaded-next C (level_count widest - i) (level_count widest - (i + 1)) last (omega (arith, c.loop-made-test.true)))
          ∙ before.2,
    )

pub returns : goal.returns
returns c = λ C H st.
    let i = c.loop-made._made in
    let before = c.loop-made.invariant C H st in
    let last : Turned = record { reply = c.loop-made.reply; history = before.0 } in
    let ends = sym (loaded-none C (level_count widest - i) last (omega (arith, c.loop-made-test.false))) ∙ before.2 in (
      c.heard.ensures ∙ ap (λ (t : Turned). heard t.reply) ends,
      subst (λ (t : Turned). Stands C c.loop-made.machine t.history) ends before.1,
    )
