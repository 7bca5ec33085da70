use Rattle.std.proofs.Common.{rules}
use Rattle.spaces.proofs.EditLaws.{effect-in}
use Rattle.spaces.proofs.edits.apply.Goals as goal

pub returns-clause-words : goal.returns-clause-words
returns-clause-words c = search rules

pub returns-clause-maps : goal.returns-clause-maps
returns-clause-maps c hart w e = effect-in _ _ _ hart w _ _ (returns-clause-words c) e
