use Rattle.harts.proofs.Pinned.{open_gate_halts_none}
use Rattle.harts.proofs.live_laws.open_gate_halts_none.Goals as goal

pub returns : goal.returns
returns c = open_gate_halts_none
