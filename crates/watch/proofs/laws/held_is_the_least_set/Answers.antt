use Rattle.watch.proofs.Held.{kept-held, least, live-held}
use Rattle.watch.proofs.laws.held_is_the_least_set.Goals as goal

pub returns-clause-live : goal.returns-clause-live
returns-clause-live c = live-held

pub returns-clause-kept : goal.returns-clause-kept
returns-clause-kept c = kept-held

pub returns-clause-least : goal.returns-clause-least
returns-clause-least c = least
