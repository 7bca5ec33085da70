use Rattle.std.proofs.Common.{rules, ℕ, replicate, ◌*◌, ◌<◌, ◌^◌, ◌∙◌, ap, map, subst}
use Rattle.std.specs.Prelude.{All}
use Rattle.spaces.specs.declared.configuration.Space.{Space}
use Rattle.shoot.specs.Mailbox.{empty_mailbox}
use Rattle.pte.specs.declared.TheConstants.{ASID_BITS}
use Rattle.stepcore.specs.State.{live_space}
use Rattle.stepcore.proofs.Open.{IsOpened, opened, machine}
use Rattle.stepcore.proofs.machine.Machine.open.Goals as goal

is_opened : (c : goal.After-limits_give_setup) → IsOpened c.args.config.now (record {
  memory = c.in_ok-memory.memory;
  spaces = c.live_spaces-spaces.result.items;
  harts = c.in_ok-harts.harts.items;
  tickets = c.in_ok-tickets.tickets.items;
  mailboxes = c.in_ok-mailboxes.mailboxes.items;
  capacity = c.from-capacity.result;
})
is_opened c = record {
  meets = search rules;
  layout = c.in_ok-memory.ensures.layout;
  words = c.in_ok-memory.ensures.words;
  holders = c.in_ok-memory.ensures.holders;
  spaces = c.live_spaces-spaces.ensures.spaces ∙ ap (map (λ (s : Space). live_space s.asid)) c.deref.ensures.0;
  harts = c.in_ok-harts.ensures;
  tickets = c.in_ok-tickets.ensures;
  mailboxes = c.in_ok-mailboxes.ensures ∙ ap (λ (n : ℕ). replicate (c.args.config.now.harts * c.args.config.now.harts) (empty_mailbox n)) c.from-capacity.ensures;
  capacity = c.from-capacity.ensures;
}

pub invariant_of-result : goal.invariant_of-result
invariant_of-result c = machine _ _ (is_opened c)

pub returns-clause-ok : goal.returns-clause-ok
returns-clause-ok c = opened _ _ (is_opened c) (c.limits_give_setup.ensures c.args.config.now (is_opened c).meets (subst (All (λ (s : Space). s.asid < 2 ^ ASID_BITS)) c.deref.ensures.0 c.live_spaces-spaces.ensures.bits))
