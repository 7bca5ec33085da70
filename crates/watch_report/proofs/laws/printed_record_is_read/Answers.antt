use Rattle.watch_report.proofs.PrintedRecords.{printed_is_read}
use Rattle.watch_report.proofs.laws.printed_record_is_read.Goals as goal

pub returns : goal.returns
returns c = printed_is_read
