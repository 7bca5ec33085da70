use Rattle.std.proofs.Common.{◌∙◌, arith}
use Rattle.watch_report.proofs.FieldLemmas.{only_number}
use Rattle.watch_report.proofs.numbers.last_hexadecimal.Goals as goal

pub returns : goal.returns
returns c = c.hexadecimal.ensures ∙ only_number 16 c.args.text.now (omega arith)
