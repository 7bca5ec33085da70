use Rattle.counterexamples.proofs.ClearFacts.{kernel_page_each_asid, kernel_page_larger}
use Rattle.counterexamples.proofs.of_promises.acknowledged_hart_holds_no_entry_of_a_kernel_page.Goals as goal

pub returns-clause-each_asid : goal.returns-clause-each_asid
returns-clause-each_asid c = kernel_page_each_asid

pub returns-clause-larger : goal.returns-clause-larger
returns-clause-larger c = kernel_page_larger
