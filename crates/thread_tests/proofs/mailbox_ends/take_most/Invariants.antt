use Rattle.std.proofs.Common.{◌≡◌, ◌≤◌}
use Rattle.thread_tests.proofs.mailbox_ends.take_most.Given as goal

abbrev pub invariant-loop : goal.invariant-loop
invariant-loop l = (l.inbox.ring ≡ l.initial.inbox.ring) × (l.in_order ≤ 60)
