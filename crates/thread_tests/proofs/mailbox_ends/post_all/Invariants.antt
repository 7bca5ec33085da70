use Rattle.std.proofs.Common.{◌≡◌}
use Rattle.thread_tests.proofs.mailbox_ends.post_all.Given as goal

abbrev pub invariant-loop-ticket : goal.invariant-loop-ticket
invariant-loop-ticket l = l.outbox.ring ≡ l.initial.outbox.ring
