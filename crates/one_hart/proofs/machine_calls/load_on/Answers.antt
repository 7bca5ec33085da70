use Rattle.std.proofs.Common.{◌≡◌, sym, subst}
use Rattle.history.specs.Turns.{with_turn}
use Rattle.history.specs.declared.event.Event.TheVariants as event
use Rattle.history.specs.declared.reply.Reply.{Reply}
use Rattle.stepcore.specs.Stands.{Stands}
use Rattle.one_hart.specs.Asked.{load_on}
use Rattle.one_hart.proofs.machine_calls.load_on.Goals as goal

pub returns-in-More : goal.returns-in-More
returns-in-More c = λ C H st.
    let due = c.step.ensures.due C H st in
    subst (λ (last : Reply). (c.step.result ≡ (load_on C (record { reply = last; history = H })).reply) × Stands C c.step.new.self (load_on C (record { reply = last; history = H })).history) (sym c.in-More.is)
    (due, subst (λ (r : Reply). Stands C c.step.new.self (with_turn (event.Load 0) r H)) due (c.step.ensures.stands C H st))
