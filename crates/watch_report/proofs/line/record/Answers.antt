use Rattle.std.proofs.Common.{◌∙◌}
use Rattle.watch_report.specs.Fields.{fields_of}
use Rattle.watch_report.proofs.RecordLemmas.{fields_same}
use Rattle.watch_report.proofs.line.record.Goals as goal

pub returns : goal.returns
returns c = c.read_fields.ensures ∙ fields_same c.args.header (fields_of c.args.text.now)
