use Rattle.std.proofs.Common.{w16}
use Rattle.std.proofs.lemmas.Nat.Bits.{bit_at-trailing_zeros}
use Rattle.tlb.proofs.slots.lowest_slot.Goals as goal

pub returns-clause-there : goal.returns-clause-there
returns-clause-there c = (bit_at-trailing_zeros w16 c.args.set c.requires c.ranges.set.fits).1
