use Rattle.watch_report.proofs.KnownLaws.{without_entries}
use Rattle.watch_report.proofs.VerdictLemmas.{taken_say}
use Rattle.watch_report.proofs.known_laws.nothing_is_known_without_entries.Goals as goal

pub returns-clause-all : goal.returns-clause-all
returns-clause-all c = without_entries

pub returns-clause-some : goal.returns-clause-some
returns-clause-some c = taken_say
