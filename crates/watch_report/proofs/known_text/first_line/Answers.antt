use Rattle.watch_report.specs.TraceText.{is_feed}
use Rattle.watch_report.proofs.Positions.{first_part, last_part}
use Rattle.watch_report.proofs.known_text.first_line.Goals as goal

pub returns-then-end-text-clause-lines : goal.returns-then-end-text-clause-lines
returns-then-end-text-clause-lines c = first_part is_feed c.args.text.now c.first_of-end.result c.first_of-end.ensures c.if-end-text.true

pub returns-else-end-text-clause-lines : goal.returns-else-end-text-clause-lines
returns-else-end-text-clause-lines c = last_part is_feed c.args.text.now c.first_of-end.result c.first_of-end.ensures c.if-end-text.false
