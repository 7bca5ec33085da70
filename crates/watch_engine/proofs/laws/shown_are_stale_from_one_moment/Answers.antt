use Rattle.watch_engine.proofs.WarningLaws.{moment_shown}
use Rattle.watch_engine.proofs.laws.shown_are_stale_from_one_moment.Goals as goal

pub returns : goal.returns
returns c = moment_shown
