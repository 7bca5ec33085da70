use Rattle.history.proofs.Mailboxes.{no_post_after_close}
use Rattle.history.proofs.occurrences.no_post_is_accepted_after_a_close.Goals as goal

pub returns : goal.returns
returns c = no_post_after_close
