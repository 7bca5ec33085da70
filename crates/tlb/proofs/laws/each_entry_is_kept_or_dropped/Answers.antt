use Rattle.tlb.proofs.Keeping.{AllPass-fenced, AllPass-served, AllPass-filled}
use Rattle.tlb.proofs.laws.each_entry_is_kept_or_dropped.Goals as goal

pub returns-clause-fence : goal.returns-clause-fence
returns-clause-fence c = AllPass-fenced

pub returns-clause-serve : goal.returns-clause-serve
returns-clause-serve c = AllPass-served

pub returns-clause-fill : goal.returns-clause-fill
returns-clause-fill c = AllPass-filled
