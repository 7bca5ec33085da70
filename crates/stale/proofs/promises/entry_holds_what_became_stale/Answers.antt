use Rattle.stale.proofs.Lasts.{begins, used_in}
use Rattle.stale.proofs.promises.entry_holds_what_became_stale.Goals as goal

pub returns-clause-begins : goal.returns-clause-begins
returns-clause-begins c = λ C setup turn H h e page m l pages s fresh. begins C setup turn H l pages h e page m s fresh

pub returns-clause-used : goal.returns-clause-used
returns-clause-used c = λ C turn H h page m u lies. used_in C turn H h page m u lies
