use Rattle.watch_report.proofs.StandingLemmas.{each_stands}
use Rattle.watch_report.proofs.laws.record_stands_on_its_line.Goals as goal

pub returns : goal.returns
returns c = each_stands
