use Rattle.scenario.proofs.EndingFacts.{done_by_another_status, done_with_a_line, line_of_another_status, other_fault, other_status, told_done, told_front, told_line, told_no_memory}
use Rattle.scenario.proofs.ending_laws.worked_reports.Goals as goal

pub returns-clause-layout : goal.returns-clause-layout
returns-clause-layout c = told_line

pub returns-clause-cut_off : goal.returns-clause-cut_off
returns-clause-cut_off c = told_front

pub returns-clause-no_memory : goal.returns-clause-no_memory
returns-clause-no_memory c = told_no_memory

pub returns-clause-other_fault : goal.returns-clause-other_fault
returns-clause-other_fault c = other_fault

pub returns-clause-other_status : goal.returns-clause-other_status
returns-clause-other_status c = other_status

pub returns-clause-line_of_another_status : goal.returns-clause-line_of_another_status
returns-clause-line_of_another_status c = line_of_another_status

pub returns-clause-done : goal.returns-clause-done
returns-clause-done c = told_done

pub returns-clause-done_with_a_line : goal.returns-clause-done_with_a_line
returns-clause-done_with_a_line c = done_with_a_line

pub returns-clause-done_by_another_status : goal.returns-clause-done_by_another_status
returns-clause-done_by_another_status c = done_by_another_status
