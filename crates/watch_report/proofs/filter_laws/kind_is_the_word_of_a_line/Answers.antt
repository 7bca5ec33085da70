use Rattle.watch_report.proofs.FilterLaws.{kind_is_had, word_is_of_kind, word_is_printed, word_is_read}
use Rattle.watch_report.proofs.filter_laws.kind_is_the_word_of_a_line.Goals as goal

pub returns-clause-has : goal.returns-clause-has
returns-clause-has c = kind_is_had

pub returns-clause-line : goal.returns-clause-line
returns-clause-line c = word_is_printed

pub returns-clause-read : goal.returns-clause-read
returns-clause-read c = word_is_read

pub returns-clause-refused : goal.returns-clause-refused
returns-clause-refused c = word_is_of_kind
