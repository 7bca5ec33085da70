use Rattle.history.proofs.Lasting.{word_of}
use Rattle.history.proofs.occurrences.word_is_the_last_stored.Goals as goal

pub returns : goal.returns
returns c = λ C H ppn index word. word_of C ppn index word H
