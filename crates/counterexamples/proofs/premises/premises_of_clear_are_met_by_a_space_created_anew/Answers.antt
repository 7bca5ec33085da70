use Rattle.std.proofs.Common.{refl}
use Rattle.counterexamples.specs.ShootdownRuns.{spaces_of_one_home}
use Rattle.counterexamples.specs.RetireRuns as run
use Rattle.counterexamples.proofs.RunsAreLawful.{lawful_run}
use Rattle.counterexamples.proofs.RetireRows.{orders_keep_their_asid}
use Rattle.counterexamples.proofs.PremisesMet.{created_pages, created_answered}
use Rattle.counterexamples.proofs.premises.premises_of_clear_are_met_by_a_space_created_anew.Goals as goal

pub returns-clause-lawful : goal.returns-clause-lawful
returns-clause-lawful c = lawful_run spaces_of_one_home run.orders_keep_their_asid orders_keep_their_asid

pub returns-clause-pages : goal.returns-clause-pages
returns-clause-pages c = created_pages

pub returns-clause-answered : goal.returns-clause-answered
returns-clause-answered c = created_answered

pub returns-clause-not_anew : goal.returns-clause-not_anew
returns-clause-not_anew c = refl

pub returns-clause-not_superseded : goal.returns-clause-not_superseded
returns-clause-not_superseded c = refl
