use Rattle.scenario.proofs.EndingFacts.{another_fault, cut_off, faulty, layout_refused, no_fault, no_memory_left, other_line, printed_before, printed_without_memory}
use Rattle.scenario.proofs.ending_laws.worked_faults.Goals as goal

pub returns-clause-layout : goal.returns-clause-layout
returns-clause-layout c = layout_refused

pub returns-clause-another_fault : goal.returns-clause-another_fault
returns-clause-another_fault c = another_fault

pub returns-clause-no_fault : goal.returns-clause-no_fault
returns-clause-no_fault c = no_fault

pub returns-clause-printed_before : goal.returns-clause-printed_before
returns-clause-printed_before c = printed_before

pub returns-clause-cut_off : goal.returns-clause-cut_off
returns-clause-cut_off c = cut_off

pub returns-clause-other_line : goal.returns-clause-other_line
returns-clause-other_line c = other_line

pub returns-clause-faulty : goal.returns-clause-faulty
returns-clause-faulty c = faulty

pub returns-clause-no_memory : goal.returns-clause-no_memory
returns-clause-no_memory c = no_memory_left

pub returns-clause-printed_without_memory : goal.returns-clause-printed_without_memory
returns-clause-printed_without_memory c = printed_without_memory
