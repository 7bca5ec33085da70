use Rattle.views.proofs.RealTree.{holders-all, real-tree}
use Rattle.views.proofs.laws.table_words_are_a_tree.Goals as goal

pub returns : goal.returns
returns c k s b = (holders-all k s b.tables, real-tree k s b.tables)
