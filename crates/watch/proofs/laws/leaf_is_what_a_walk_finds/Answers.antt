use Rattle.watch.proofs.Leaves.{found_leaf, leaf_maps, same_leaf}
use Rattle.watch.proofs.laws.leaf_is_what_a_walk_finds.Goals as goal

pub returns-clause-found : goal.returns-clause-found
returns-clause-found c = found_leaf

pub returns-clause-maps : goal.returns-clause-maps
returns-clause-maps c = leaf_maps

pub returns-clause-one : goal.returns-clause-one
returns-clause-one c = λ scheme words root a b p q page. let same = same_leaf scheme words root a b p q page in (same.ppn, same.flags, same.global)
