use Rattle.tlb.proofs.Mapped.{space_is_clear, page_is_clear}
use Rattle.tlb.proofs.laws.unmapped_page_is_not_translated.Goals as goal

pub returns-clause-space : goal.returns-clause-space
returns-clause-space c = space_is_clear

pub returns-clause-global : goal.returns-clause-global
returns-clause-global c = page_is_clear
