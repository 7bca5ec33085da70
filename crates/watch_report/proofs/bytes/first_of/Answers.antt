use Rattle.std.proofs.Common.{◌∙◌}
use Rattle.watch_report.proofs.FirstBytes.{first_of_same}
use Rattle.watch_report.proofs.bytes.first_of.Goals as goal

pub returns : goal.returns
returns c = c.first_of_two.ensures ∙ first_of_same c.args.byte c.args.text.now
