use Rattle.watch_tables.proofs.PathWords.{first-or-none}
use Rattle.watch_tables.proofs.laws.path_passes_a_first_word_or_none.Goals as goal

pub returns : goal.returns
returns c = first-or-none
