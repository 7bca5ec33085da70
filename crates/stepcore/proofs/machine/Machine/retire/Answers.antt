use Rattle.std.proofs.Common.{rules, ap, sym, ◌∙◌}
use Rattle.stepcore.specs.Answers.{open_in}
use Rattle.stepcore.proofs.Retiring.{retire_follows}
use Rattle.stepcore.proofs.machine.Machine.retire.Goals as goal

pub returns : goal.returns
returns c = record {
  reply = search rules;
  follows =
      retire_follows c.args.self.now c.args.space c.in_ok-ticket.ticket c.open_ticket.new.self c.put_space.new.self c.args.hart c.every_hart-named.result c.space-state.result
      c.space-state.ensures c.every_hart-named.ensures c.in_ok-ticket.ensures.after c.put_space.ensures (search rules);
  refused = search rules;
  page = search rules;
}

pub returns-in_err-ticket : goal.returns-in_err-ticket
returns-in_err-ticket c = record {
  reply = (search rules) ∙ (c.in_err-ticket.ensures.refuses ∙ (ap (open_in c.args.self.now c.args.hart) c.every_hart-named.ensures ∙ sym c.in_ok-may_retire.ensures.reply));
  follows = search rules;
  refused = search rules;
  page = search rules;
}
