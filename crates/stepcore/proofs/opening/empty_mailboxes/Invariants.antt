use Rattle.std.proofs.Common.{◌≡◌, replicate}
use Rattle.shoot.specs.Mailbox.{empty_mailbox}
use Rattle.stepcore.proofs.opening.empty_mailboxes.Given as goal

abbrev pub invariant-loop : goal.invariant-loop
invariant-loop l = l.mailboxes.items ≡ replicate l.counter (empty_mailbox l.capacity)
