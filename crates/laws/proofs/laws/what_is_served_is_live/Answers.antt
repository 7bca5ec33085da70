use Rattle.laws.proofs.Live.{served_live}
use Rattle.laws.proofs.Posts.{served_post}
use Rattle.laws.proofs.Waiting.{served_is_other}
use Rattle.laws.proofs.laws.what_is_served_is_live.Goals as goal

pub returns-clause-posted : goal.returns-clause-posted
returns-clause-posted c = served_post

pub returns-clause-live : goal.returns-clause-live
returns-clause-live c = served_live

pub returns-clause-other : goal.returns-clause-other
returns-clause-other c = served_is_other
