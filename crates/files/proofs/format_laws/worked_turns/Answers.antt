use Rattle.std.proofs.Common.{refl}
use Rattle.files.proofs.format_laws.worked_turns.Goals as goal

pub returns-clause-absent : goal.returns-clause-absent
returns-clause-absent c ms none = rw none refl
