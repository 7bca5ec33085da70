use Rattle.counterexamples.proofs.RetiredFacts.{other_asid_mapped, asid_7_clear}
use Rattle.counterexamples.proofs.of_promises.clear_is_for_an_asid.Goals as goal

pub returns-clause-other_asid : goal.returns-clause-other_asid
returns-clause-other_asid c = other_asid_mapped

pub returns-clause-held : goal.returns-clause-held
returns-clause-held c = asid_7_clear
