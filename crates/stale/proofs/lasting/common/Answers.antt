use Rattle.std.proofs.Common.{arith}
use Rattle.stale.proofs.lasting.common.Goals as goal

pub returns-clause-each : goal.returns-clause-each
returns-clause-each c = λ n.
    let one = c.numbers-first.ensures.each n in
    let other = c.numbers-other_first.ensures.each n in
    let most = c.max.ensures in
    let least = c.min.ensures in (
      (λ lies. let a = one.0 lies.0 in let b = other.0 lies.1 in (omega (arith, a, b, most), omega (arith, a, b, least))),
      (λ within. (one.1 (omega (arith, within, most), omega (arith, within, least)), other.1 (omega (arith, within, most), omega (arith, within, least)))),
    )
