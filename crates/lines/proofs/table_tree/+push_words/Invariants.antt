use Rattle.lines.proofs.table_tree.+push_words.Given as goal

abbrev pub decreases-push_words : goal.decreases-push_words
decreases-push_words l = l.table.level
