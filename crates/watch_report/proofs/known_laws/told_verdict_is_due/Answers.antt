use Rattle.watch_report.proofs.KnownLaws.{tells_due}
use Rattle.watch_report.proofs.known_laws.told_verdict_is_due.Goals as goal

pub returns : goal.returns
returns c = tells_due
