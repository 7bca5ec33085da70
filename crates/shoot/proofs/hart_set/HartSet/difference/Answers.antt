use Rattle.std.proofs.Common.{rules, sym}
use Rattle.shoot.proofs.HartBits.{byte_back, bits_beyond}
use Rattle.shoot.proofs.hart_set.HartSet.difference.Goals as goal

pub invariant_of-result : goal.invariant_of-result
invariant_of-result c = byte_back _ (search rules)

pub returns : goal.returns
returns c = rw (sym c.self.view_is, sym c.other.view_is) (bits_beyond c.self.inside.bits c.other.inside.bits (search rules))
