use Rattle.tlb.proofs.Walked.{entry_is_elsewhere}
use Rattle.tlb.proofs.laws.unmapped_page_is_not_found.Goals as goal

pub returns : goal.returns
returns c = entry_is_elsewhere
