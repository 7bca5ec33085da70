use Rattle.tlb.proofs.Mapped.{served_global_page, served_space_page}
use Rattle.tlb.proofs.laws.served_page_is_not_mapped.Goals as goal

pub returns-clause-global : goal.returns-clause-global
returns-clause-global c = served_global_page

pub returns-clause-space : goal.returns-clause-space
returns-clause-space c = served_space_page
