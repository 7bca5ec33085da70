use Rattle.std.proofs.Common.{sym}
use Rattle.melissaledge_c.specs.SizedTlbs.{entry_in}
use Rattle.melissaledge_c.proofs.Whole.{far_stays}
use Rattle.melissaledge_c.proofs.sized_tlb.stays_fenced.Goals as goal

pub returns-in-Some : goal.returns-in-Some
returns-in-Some c = rw c.in-Some.is (sym (far_stays c.args.scheme c.in-Some.va c.args.rs2 (entry_in c.args.given.now) (c.is_far.ensures c.if-is_far.true)))
