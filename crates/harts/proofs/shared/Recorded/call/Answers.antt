use Rattle.std.proofs.Common.{[]}
use Rattle.history.specs.Setup.{setup_of}
use Rattle.harts.specs.Books.{history_of}
use Rattle.harts.proofs.Kept.{kept_more}
use Rattle.harts.proofs.shared.Recorded.call.Goals as goal

pub invariant_of-self-2 : goal.invariant_of-self-2
invariant_of-self-2 c =
    rw (c.push_reserved.ensures.items, c.turn_of.ensures, c.reserve.ensures.items, kept_more c.self.inside.history.items c.args.event c.step-reply.result [])
    (c.step-reply.ensures.stands (setup_of c.self.inside.config) (history_of c.self.inside.history.items) c.self.invariant)
