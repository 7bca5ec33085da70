use Rattle.steps.proofs.GrammarLemmas.{num_of-writes, one_number_each, writes-num_of}
use Rattle.steps.proofs.laws.num_is_written.Goals as goal

pub returns : goal.returns
returns c = record { one = one_number_each; found = λ word n. (num_of-writes word n, writes-num_of word n) }
