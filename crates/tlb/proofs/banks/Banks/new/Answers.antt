use Rattle.std.proofs.Common.{rules, refl, arith}
use Rattle.tlb.proofs.banks.Banks.new.Goals as goal

pub returns-clause-kept : goal.returns-clause-kept
returns-clause-kept c = record { ages = search rules; count = omega arith; held = refl; slots = λ slot e is. search rules }
