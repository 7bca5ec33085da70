use Rattle.history.specs.Setup.{Setup}
use Rattle.history.specs.Turns.{History}
use Rattle.history.specs.Runs.{with_turn}
use Rattle.std.proofs.Common.{sym, ◌∙◌, subst}
use Rattle.stepcore.specs.Stands.{Stands}
use Rattle.stepcore.proofs.Standing.{answers_due, stands_after}
use Rattle.stepcore.proofs.Running.{promises}
use Rattle.stepcore.proofs.machine.Machine.step.Goals as goal

stands : (c : goal.After-reply_of) (C : Setup) (H : History) → Stands C c.args.self.now H → Stands C c.do_event.new.self (with_turn c.args.event c.reply_of.result H)
stands c C H st =
    subst (λ r. Stands C c.do_event.new.self (with_turn c.args.event r H)) (sym c.reply_of.ensures)
    (stands_after C c.args.self.now H st c.recall.ensures c.args.event c.do_event.result c.do_event.new.self c.do_event.ensures)

pub returns-clause-stands : goal.returns-clause-stands
returns-clause-stands c = stands c

pub returns-clause-due : goal.returns-clause-due
returns-clause-due c C H st =
    c.reply_of.ensures ∙ (c.do_event.ensures.reply ∙ answers_due C c.args.self.now H st c.recall.ensures c.args.event)

pub returns-clause-promises : goal.returns-clause-promises
returns-clause-promises c C H st = promises C _ _ (stands c C H st)
