use Rattle.std.proofs.Common.{ap, subst, ◌∙◌}
use Rattle.history.specs.Turns.{with_turn}
use Rattle.history.specs.declared.reply.Reply.{Reply}
use Rattle.stepcore.specs.Stands.{Stands}
use Rattle.one_hart.specs.Answering.{heard}
use Rattle.one_hart.proofs.machine_calls.one_event.Goals as goal

pub returns : goal.returns
returns c = λ C H st.
    let due = c.step.ensures.due C H st in (
      c.heard.ensures ∙ ap heard due,
      subst (λ (r : Reply). Stands C c.step.new.self (with_turn c.args.event r H)) due (c.step.ensures.stands C H st),
    )
