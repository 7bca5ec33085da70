use Rattle.std.proofs.Common.{length}
use Rattle.watch_report.proofs.find_fault.+words_fault.Given as goal

abbrev pub decreases-words_fault : goal.decreases-words_fault
decreases-words_fault l = length l.fields.now
