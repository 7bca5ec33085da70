use Rattle.std.proofs.Common.{refl}
use Rattle.counterexamples.specs.ShootdownRuns as run
use Rattle.counterexamples.specs.WorkedRuns.{two_harts}
use Rattle.counterexamples.proofs.RunsAreLawful.{lawful_run}
use Rattle.counterexamples.proofs.ShootdownRows.{superpage_made_read_only}
use Rattle.counterexamples.proofs.PremisesMet.{read_only_pages, read_only_answered}
use Rattle.counterexamples.proofs.premises.premises_of_coherent_are_met.Goals as goal

pub returns-clause-lawful : goal.returns-clause-lawful
returns-clause-lawful c = lawful_run two_harts run.superpage_made_read_only superpage_made_read_only

pub returns-clause-pages : goal.returns-clause-pages
returns-clause-pages c = read_only_pages

pub returns-clause-answered : goal.returns-clause-answered
returns-clause-answered c = read_only_answered

pub returns-clause-not_superseded : goal.returns-clause-not_superseded
returns-clause-not_superseded c = refl
