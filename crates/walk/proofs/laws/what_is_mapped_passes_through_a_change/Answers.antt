use Rattle.walk.proofs.Stored.{maps_or_pass, maps_or_pass-back}
use Rattle.walk.proofs.laws.what_is_mapped_passes_through_a_change.Goals as goal

pub returns-clause-after : goal.returns-clause-after
returns-clause-after c = maps_or_pass

pub returns-clause-before : goal.returns-clause-before
returns-clause-before c = maps_or_pass-back
