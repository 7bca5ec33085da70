use Rattle.std.proofs.Common.{refl}
use Rattle.std.specs.Fmt.{digits}
use Rattle.scenario.proofs.format_laws.worked_endings.Goals as goal

pub returns-clause-wrong_step : goal.returns-clause-wrong_step
unfolding digits
returns-clause-wrong_step c = (refl, refl)

pub returns-clause-wrong_script : goal.returns-clause-wrong_script
unfolding digits
returns-clause-wrong_script c = (refl, refl)

pub returns-clause-wrong_line : goal.returns-clause-wrong_line
unfolding digits
returns-clause-wrong_line c = (refl, refl)

pub returns-clause-wrong_line_after_a_verdict : goal.returns-clause-wrong_line_after_a_verdict
unfolding digits
returns-clause-wrong_line_after_a_verdict c = (refl, refl)

pub returns-clause-no_verdict : goal.returns-clause-no_verdict
unfolding digits
returns-clause-no_verdict c = (refl, refl)

pub returns-clause-wrong_entry : goal.returns-clause-wrong_entry
unfolding digits
returns-clause-wrong_entry c = (refl, refl)
