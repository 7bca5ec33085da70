use Rattle.views.proofs.NoLeaf.{no_leaf_leads, no_leaf_of_own, no_leaf_of_shared}
use Rattle.views.proofs.laws.unmapped_is_where_no_leaf_leads.Goals as goal

pub returns-clause-tree : goal.returns-clause-tree
returns-clause-tree c = no_leaf_leads

pub returns-clause-own : goal.returns-clause-own
returns-clause-own c = no_leaf_of_own

pub returns-clause-shared : goal.returns-clause-shared
returns-clause-shared c = no_leaf_of_shared
