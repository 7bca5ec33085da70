use Rattle.watch_report.proofs.Positions.{first_field, last_field}
use Rattle.watch_report.proofs.find_fault.first_word.Goals as goal

pub returns-then-end-text-clause-words : goal.returns-then-end-text-clause-words
returns-then-end-text-clause-words c = first_field c.args.text.now c.field_len-end.result c.field_len-end.ensures c.if-end-text.true

pub returns-else-end-text-clause-words : goal.returns-else-end-text-clause-words
returns-else-end-text-clause-words c = last_field c.args.text.now c.field_len-end.result c.field_len-end.ensures c.if-end-text.false
