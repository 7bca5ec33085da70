use Rattle.std.proofs.Common.{subst}
use Rattle.std.specs.Prelude.{◌↔◌}
use Rattle.history.specs.Runs.{with_turn}
use Rattle.history.specs.declared.reply.Reply.{Reply}
use Rattle.stepcore.specs.Stands.{Stands}
use Rattle.stale.specs.Stale.{UsesStale}
use Rattle.stale.specs.Uses.{Tells}
use Rattle.stale.proofs.runs.step_use.Goals as goal

pub returns : goal.returns
returns c = record {
  stands = λ C H st. subst (λ (r : Reply). Stands C c.step-reply.new.self (with_turn c.args.event r H)) (c.step-reply.ensures.due C H st) (c.step-reply.ensures.stands C H st);
  used = λ C H h m st.
      subst (λ (r : Reply). UsesStale C (record { event = c.args.event; reply = r }) H h m ↔ Tells c.stale_use.result h m) (c.step-reply.ensures.due C H st)
      (c.stale_use.ensures C H h m (c.step-reply.ensures.stands C H st));
}
