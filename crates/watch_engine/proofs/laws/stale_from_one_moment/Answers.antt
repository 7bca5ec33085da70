use Rattle.watch_engine.proofs.WarningLaws.{moment_fresh, moment_is, moment_range, moment_stale, one_moment, since_stale, some_moment}
use Rattle.watch_engine.proofs.laws.stale_from_one_moment.Goals as goal

pub returns-clause-one : goal.returns-clause-one
returns-clause-one c = λ scheme trace hart m n x p q. one_moment scheme hart x m n trace p q

pub returns-clause-some : goal.returns-clause-some
returns-clause-some c = λ scheme trace hart x. (some_moment scheme hart x trace, (λ m. since_stale scheme _ trace hart x m.1.since))

pub returns-clause-range : goal.returns-clause-range
returns-clause-range c = λ scheme trace hart m x p. moment_range scheme hart x m trace p

pub returns-clause-since : goal.returns-clause-since
returns-clause-since c = λ scheme later earlier hart m x p within. moment_stale scheme hart x m later earlier p within

pub returns-clause-before : goal.returns-clause-before
returns-clause-before c = λ scheme later earlier hart m x p more. moment_fresh scheme hart x m later earlier p more

pub returns-clause-is : goal.returns-clause-is
returns-clause-is c = λ scheme newest later earlier hart x each fresh. moment_is scheme hart x newest later earlier each fresh
