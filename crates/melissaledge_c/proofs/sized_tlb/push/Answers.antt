use Rattle.melissaledge_c.proofs.Places.{pushed}
use Rattle.melissaledge_c.proofs.sized_tlb.push.Goals as goal

pub returns-clause-places : goal.returns-clause-places
returns-clause-places c = pushed c.args.slots.now c.args.head.now.first c.args.head.now.count c.args.given c.requires.room
