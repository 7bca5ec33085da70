use Rattle.watch_report.proofs.FaultLaws.{fault_law, header_law}
use Rattle.watch_report.proofs.laws.line_has_a_fault_or_a_form.Goals as goal

pub returns-clause-line : goal.returns-clause-line
returns-clause-line c = fault_law

pub returns-clause-first : goal.returns-clause-first
returns-clause-first c = header_law
