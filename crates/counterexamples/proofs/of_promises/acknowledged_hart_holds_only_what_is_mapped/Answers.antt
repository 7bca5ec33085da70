use Rattle.counterexamples.proofs.CoherentFacts.{kernel_page}
use Rattle.counterexamples.proofs.of_promises.acknowledged_hart_holds_only_what_is_mapped.Goals as goal

pub returns-clause-kernel_page : goal.returns-clause-kernel_page
returns-clause-kernel_page c = kernel_page
