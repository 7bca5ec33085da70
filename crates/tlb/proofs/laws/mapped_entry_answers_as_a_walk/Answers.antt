use Rattle.tlb.proofs.Walked.{hit_is_outcome}
use Rattle.tlb.proofs.laws.mapped_entry_answers_as_a_walk.Goals as goal

pub returns : goal.returns
returns c = hit_is_outcome
