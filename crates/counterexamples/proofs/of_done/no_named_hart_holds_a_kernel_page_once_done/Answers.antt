use Rattle.counterexamples.proofs.DoneFacts.{kernel_page_each_asid, kernel_page_global}
use Rattle.counterexamples.proofs.of_done.no_named_hart_holds_a_kernel_page_once_done.Goals as goal

pub returns-clause-global : goal.returns-clause-global
returns-clause-global c = kernel_page_global

pub returns-clause-each_asid : goal.returns-clause-each_asid
returns-clause-each_asid c = kernel_page_each_asid
