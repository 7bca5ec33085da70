use Rattle.watch_report.proofs.Positions.{not_one_field}
use Rattle.watch_report.proofs.fields.one_field.Goals as goal

pub returns-in-Some : goal.returns-in-Some
returns-in-Some c = rw c.in-Some.ensures (not_one_field _ c.in-Some.field-0.1.now)
