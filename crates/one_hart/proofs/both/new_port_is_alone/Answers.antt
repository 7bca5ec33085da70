use Rattle.one_hart.proofs.Opened.{new_alone}
use Rattle.one_hart.proofs.both.new_port_is_alone.Goals as goal

pub returns : goal.returns
returns c = new_alone
