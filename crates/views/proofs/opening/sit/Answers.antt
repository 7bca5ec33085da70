use Rattle.views.proofs.Pairs.{sits}
use Rattle.views.proofs.opening.sit.Goals as goal

pub load-requires-clause-steps : goal.load-requires-clause-steps
load-requires-clause-steps c = sits c.args.words.now.key c.args.seat.now.id c.args.seat.now.view 0
