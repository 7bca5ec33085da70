use Rattle.std.proofs.Common.{refl}
use Rattle.counterexamples.specs.ShootdownRuns as run
use Rattle.counterexamples.specs.WorkedRuns.{two_harts}
use Rattle.counterexamples.proofs.RunsAreLawful.{lawful_run}
use Rattle.counterexamples.proofs.ShootdownRows.{superpage_shootdown}
use Rattle.counterexamples.proofs.PremisesMet.{superpage_pages, superpage_answered}
use Rattle.counterexamples.proofs.premises.premises_of_clear_are_met.Goals as goal

pub returns-clause-lawful : goal.returns-clause-lawful
returns-clause-lawful c = lawful_run two_harts run.superpage_shootdown superpage_shootdown

pub returns-clause-pages : goal.returns-clause-pages
returns-clause-pages c = superpage_pages

pub returns-clause-answered : goal.returns-clause-answered
returns-clause-answered c = superpage_answered

pub returns-clause-not_anew : goal.returns-clause-not_anew
returns-clause-not_anew c = refl
