use Rattle.std.proofs.Common.{◌∙◌, ap, get_or, arith}
use Rattle.watch_report.proofs.DigitTable.{digit_at, table}
use Rattle.watch_report.proofs.numbers.digit.Goals as goal

pub returns : goal.returns
returns c = ap (λ n. get_or table n 0) c.from.ensures ∙ digit_at c.args.byte (omega arith)
