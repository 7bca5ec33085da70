use Rattle.walk.proofs.Stored.{passes_at_end, pointers-kept}
use Rattle.walk.proofs.laws.store_over_no_pointer_is_at_an_end.Goals as goal

pub returns-clause-pointers : goal.returns-clause-pointers
returns-clause-pointers c = pointers-kept

pub returns-clause-end : goal.returns-clause-end
returns-clause-end c = passes_at_end
