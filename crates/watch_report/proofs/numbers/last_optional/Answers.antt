use Rattle.std.proofs.Common.{◌∙◌}
use Rattle.watch_report.proofs.DashLemmas.{only_optional}
use Rattle.watch_report.proofs.numbers.last_optional.Goals as goal

pub returns : goal.returns
returns c = c.optional.ensures ∙ only_optional c.args.text.now
