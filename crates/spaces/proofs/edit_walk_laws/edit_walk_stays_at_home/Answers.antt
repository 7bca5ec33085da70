use Rattle.spaces.proofs.HomeReads.{begins, goes-home}
use Rattle.spaces.proofs.edit_walk_laws.edit_walk_stays_at_home.Goals as goal

pub returns-clause-begins : goal.returns-clause-begins
returns-clause-begins c l words hart holders fits tree = begins l words hart holders tree fits

pub returns-clause-goes_on : goal.returns-clause-goes_on
returns-clause-goes_on c l words hart holders tree e after word spare = goes-home l words hart holders tree e word after spare
