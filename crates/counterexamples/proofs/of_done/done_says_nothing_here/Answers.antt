use Rattle.counterexamples.proofs.DoneFacts.{not_done, unnamed}
use Rattle.counterexamples.proofs.of_done.done_says_nothing_here.Goals as goal

pub returns-clause-not_done : goal.returns-clause-not_done
returns-clause-not_done c = not_done

pub returns-clause-unnamed : goal.returns-clause-unnamed
returns-clause-unnamed c = unnamed
