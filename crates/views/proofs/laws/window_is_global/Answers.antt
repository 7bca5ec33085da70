use Rattle.views.proofs.WindowGlobal.{leaves, mappings}
use Rattle.views.proofs.laws.window_is_global.Goals as goal

pub returns-clause-leaves : goal.returns-clause-leaves
returns-clause-leaves c = leaves

pub returns-clause-mappings : goal.returns-clause-mappings
returns-clause-mappings c = mappings
