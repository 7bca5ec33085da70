use Rattle.std.proofs.Common.{append_assoc}
use Rattle.watch_report.proofs.line_fault.LineReasonDisplay.fmt.Goals as goal

pub returns-in-NoHart-clause-writes : goal.returns-in-NoHart-clause-writes
returns-in-NoHart-clause-writes g c = λ plain ok. rw (c.in-NoHart.is, append_assoc) (c.write-in-NoHart.ensures.writes plain ok)
