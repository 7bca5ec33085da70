use Rattle.watch_report.proofs.Positions.{first_field, last_field}
use Rattle.watch_report.proofs.fields.next_field.Goals as goal

pub returns-then-end-text : goal.returns-then-end-text
returns-then-end-text c = first_field c.args.text.now c.field_len-end.result c.field_len-end.ensures c.if-end-text.true

pub returns-else-end-text : goal.returns-else-end-text
returns-else-end-text c = last_field c.args.text.now c.field_len-end.result c.field_len-end.ensures c.if-end-text.false
