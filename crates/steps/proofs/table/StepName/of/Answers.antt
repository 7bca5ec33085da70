use Rattle.std.proofs.Common.{rules}
use Rattle.steps.proofs.TableLemmas.{not_found}
use Rattle.steps.proofs.table.StepName.of.Goals as goal

pub returns-else-eq : goal.returns-else-eq
returns-else-eq c = not_found c.args.word.now c.likely_for-name.result c.likely_for-name.ensures (search rules)
