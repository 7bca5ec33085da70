use Rattle.std.proofs.Common.{◌∙◌, Some, ap, arith}
use Rattle.watch_report.proofs.PrefixLemmas.{some_first}
use Rattle.watch_report.proofs.prefix.first_of.Goals as goal

pub returns : goal.returns
returns c = ap Some c.index-warnings-0.is ∙ some_first c.args.warnings.now c.index-warnings-0.result (omega arith)
