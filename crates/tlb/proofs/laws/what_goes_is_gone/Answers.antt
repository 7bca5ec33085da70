use Rattle.tlb.proofs.Keeping.{fenced_are_gone, served_are_gone}
use Rattle.tlb.proofs.laws.what_goes_is_gone.Goals as goal

pub returns-clause-fence : goal.returns-clause-fence
returns-clause-fence c = fenced_are_gone

pub returns-clause-serve : goal.returns-clause-serve
returns-clause-serve c = served_are_gone
