-- The worked runs of mailboxes, computed from the definitions alone.
use Rattle.std.proofs.Common.{refl}
use Rattle.shoot.specs.HartSet.{byte_of, difference}
use Rattle.counterexamples.specs.WorkedRuns.{IsRun, two_harts}
use Rattle.counterexamples.specs.MailboxRuns as run

pub bound_order_and_close : IsRun run.mailboxes_of_two run.bound_order_and_close
unfolding IsRun byte_of difference
bound_order_and_close = refl

pub close_in_mid_shootdown : IsRun two_harts run.close_in_mid_shootdown
unfolding IsRun byte_of difference
close_in_mid_shootdown = refl
