use Rattle.std.proofs.Common.{false, refl, true}
use Rattle.watch.specs.declared.trace.Verdict.TheVariants.{Free, Used}
use Rattle.watch_report.specs.Filters.{no_filter}
use Rattle.watch_report.specs.WorkedFilters.{of_hart, of_kind, of_page}
use Rattle.watch_report.proofs.WorkedFilters.{of_rows, silent, warns}
use Rattle.watch_report.proofs.worked_filters.worked_statuses.Goals as goal

pub returns-clause-warns_at_all : goal.returns-clause-warns_at_all
returns-clause-warns_at_all c = warns no_filter (of_rows c.worked_two_warnings.ensures.two_harts) refl

pub returns-clause-warns_of_hart : goal.returns-clause-warns_of_hart
returns-clause-warns_of_hart c = warns (of_hart 0) (of_rows c.worked_two_warnings.ensures.two_harts) refl

pub returns-clause-warns_of_page : goal.returns-clause-warns_of_page
returns-clause-warns_of_page c = warns (of_page 0x1ABC) (of_rows c.worked_two_warnings.ensures.two_harts) refl

pub returns-clause-warns_of_kind : goal.returns-clause-warns_of_kind
returns-clause-warns_of_kind c = warns (of_kind false Free) (of_rows c.worked_two_warnings.ensures.two_harts) refl

pub returns-clause-silent_of_hart : goal.returns-clause-silent_of_hart
returns-clause-silent_of_hart c = silent (of_hart 2) (of_rows c.worked_two_warnings.ensures.two_harts) refl refl

pub returns-clause-silent_of_page : goal.returns-clause-silent_of_page
returns-clause-silent_of_page c = silent (of_page 0x2000) (of_rows c.worked_two_warnings.ensures.two_harts) refl refl

pub returns-clause-silent_of_kind : goal.returns-clause-silent_of_kind
returns-clause-silent_of_kind c = silent (of_kind false Used) (of_rows c.worked_two_warnings.ensures.two_harts) refl refl

pub returns-clause-silent_of_kernel : goal.returns-clause-silent_of_kernel
returns-clause-silent_of_kernel c = silent (of_kind true Free) (of_rows c.worked_two_warnings.ensures.two_harts) refl refl
