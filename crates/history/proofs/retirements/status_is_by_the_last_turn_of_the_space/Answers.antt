use Rattle.history.proofs.Statuses.{retires, free, live}
use Rattle.history.proofs.retirements.status_is_by_the_last_turn_of_the_space.Goals as goal

pub returns-clause-retiring : goal.returns-clause-retiring
returns-clause-retiring c = retires

pub returns-clause-free : goal.returns-clause-free
returns-clause-free c = free

pub returns-clause-live : goal.returns-clause-live
returns-clause-live c = live
