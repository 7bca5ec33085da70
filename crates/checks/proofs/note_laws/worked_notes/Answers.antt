use Rattle.std.proofs.Common.{refl}
use Rattle.std.specs.Fmt.{digits}
use Rattle.checks.proofs.note_laws.worked_notes.Goals as goal

pub returns-clause-text : goal.returns-clause-text
unfolding digits
returns-clause-text c = refl
