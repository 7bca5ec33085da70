use Rattle.files.specs.WalkFile.{walk_scenario_of}
use Rattle.scenario.specs.Prints.{Prints}
use Rattle.scenario.proofs.OutcomeLemmas.{plan_found}
use Rattle.scenario.proofs.texts.walked.Goals as goal

pub returns-clause-ok : goal.returns-clause-ok
returns-clause-ok c =
    let printed = rw c.as_slice.ensures.value at c.in_ok-lines.ensures in
    rw (c.of_lines.ensures.lines, c.of_lines.ensures.finding) (plan_found walk_scenario_of Prints c.args.text.now _ _ c.in_ok-scenario.ensures printed)
