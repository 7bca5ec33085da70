use Rattle.std.proofs.Common.{refl}
use Rattle.counterexamples.specs.KernelRuns as run
use Rattle.counterexamples.proofs.RunsAreLawful.{lawful_run}
use Rattle.counterexamples.proofs.KernelRows.{kernel_page_outlives_an_asid_fence}
use Rattle.counterexamples.proofs.PremisesMet.{kernel_pages, kernel_answered}
use Rattle.counterexamples.proofs.premises.premises_of_clear_are_met_by_a_kernel_page.Goals as goal

pub returns-clause-lawful : goal.returns-clause-lawful
returns-clause-lawful c = lawful_run run.spaces_of_two_homes run.kernel_page_outlives_an_asid_fence kernel_page_outlives_an_asid_fence

pub returns-clause-pages : goal.returns-clause-pages
returns-clause-pages c = kernel_pages

pub returns-clause-answered : goal.returns-clause-answered
returns-clause-answered c = kernel_answered

pub returns-clause-not_anew : goal.returns-clause-not_anew
returns-clause-not_anew c = refl
