use Rattle.std.proofs.Common.{rules}
use Rattle.board.proofs.port.HartPort.serve.Goals as goal

pub invariant_of-self-2 : goal.invariant_of-self-2
invariant_of-self-2 c =
    let i = c.self.invariant in (
      i.0,
      i.1,
      rw c.take_at.ensures.same i.2,
      search rules,
      rw c.serve.ensures.view i.4,
      i.5,
    )
