use Rattle.std.proofs.Common.{arith}
use Rattle.std.proofs.lemmas.Option.{slice_get_within}
use Rattle.tlb.proofs.banks.Banks.in_use.Goals as goal

pub returns : goal.returns
returns c = λ slot e at used on. c.slots_below.ensures slot (omega (arith, slice_get_within c.args.self.now.held slot e at, c.requires.held)) used
