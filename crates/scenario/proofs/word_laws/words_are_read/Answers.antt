use Rattle.scenario.proofs.WordLemmas.{three_words, two_words, words_read}
use Rattle.scenario.proofs.word_laws.words_are_read.Goals as goal

pub returns-clause-read : goal.returns-clause-read
returns-clause-read c name words texts = words_read name words texts

pub returns-clause-plain : goal.returns-clause-plain
returns-clause-plain c name word file first second = two_words name word file first second

pub returns-clause-plain_line : goal.returns-clause-plain_line
returns-clause-plain_line c name word file line first second third = three_words name word file line first second third
