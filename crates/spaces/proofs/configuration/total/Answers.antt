use Rattle.std.proofs.Common.{◌≡◌, sum, arith, rules}
use Rattle.spaces.proofs.Lists.{sum-bound}
use Rattle.spaces.proofs.configuration.total.Goals as goal

pub returns-clause-bound : goal.returns-clause-bound
returns-clause-bound c =
    let value : c.sum.result ≡ sum c.args.spares.now = search rules in
    let bound = sum-bound c.args.spares.now c.type_inv.spares in
    omega arith
