use Rattle.std.proofs.Common.{refl}
use Rattle.counterexamples.specs.ShootdownRuns.{spaces_of_one_home}
use Rattle.counterexamples.specs.RetireRuns as run
use Rattle.counterexamples.proofs.RunsAreLawful.{lawful_run}
use Rattle.counterexamples.proofs.RetireRows.{retired_until_acknowledged}
use Rattle.counterexamples.proofs.PremisesMet.{retired_pages}
use Rattle.counterexamples.proofs.premises.premises_of_a_retiring_space_are_met.Goals as goal

pub returns-clause-lawful : goal.returns-clause-lawful
returns-clause-lawful c = lawful_run spaces_of_one_home run.retired_until_acknowledged retired_until_acknowledged

pub returns-clause-pages : goal.returns-clause-pages
returns-clause-pages c = retired_pages

pub returns-clause-retiring : goal.returns-clause-retiring
returns-clause-retiring c = refl

pub returns-clause-acked : goal.returns-clause-acked
returns-clause-acked c = refl
