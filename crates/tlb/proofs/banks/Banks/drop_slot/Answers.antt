use Rattle.tlb.proofs.Kept.{kept_by_drop}
use Rattle.tlb.proofs.banks.Banks.drop_slot.Goals as goal

pub returns-clause-kept : goal.returns-clause-kept
returns-clause-kept c = rw c.close_up.ensures (kept_by_drop c.args.self.now c.requires.kept c.args.slot c.requires.within c.requires.in_use)
