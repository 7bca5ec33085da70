use Rattle.tlb.proofs.Translating.{first_match_translates}
use Rattle.tlb.proofs.laws.look_up_translates.Goals as goal

pub returns : goal.returns
returns c = first_match_translates
