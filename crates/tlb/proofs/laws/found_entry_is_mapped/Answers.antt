use Rattle.tlb.proofs.Walked.{entry_matches, entry_spaces, entry_is_mapped}
use Rattle.tlb.proofs.laws.found_entry_is_mapped.Goals as goal

pub returns-clause-matches : goal.returns-clause-matches
returns-clause-matches c = entry_matches

pub returns-clause-spaces : goal.returns-clause-spaces
returns-clause-spaces c = entry_spaces

pub returns-clause-mapped : goal.returns-clause-mapped
returns-clause-mapped c = entry_is_mapped
