use Rattle.spaces.proofs.EditLaws.{global-window}
use Rattle.spaces.proofs.laws.window_is_global.Goals as goal

pub returns : goal.returns
returns c = global-window
