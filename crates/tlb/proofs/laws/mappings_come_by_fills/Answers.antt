use Rattle.tlb.proofs.Mapped.{IsMappedBy-fenced, IsMappedBy-served, IsMappedBy-filled}
use Rattle.tlb.proofs.laws.mappings_come_by_fills.Goals as goal

pub returns-clause-fence : goal.returns-clause-fence
returns-clause-fence c = IsMappedBy-fenced

pub returns-clause-serve : goal.returns-clause-serve
returns-clause-serve c = IsMappedBy-served

pub returns-clause-fill : goal.returns-clause-fill
returns-clause-fill c = IsMappedBy-filled
