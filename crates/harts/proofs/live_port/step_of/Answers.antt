use Rattle.std.proofs.Common.{ap, ◌∙◌}
use Rattle.std.proofs.Math.Seq.{map-set_same}
use Rattle.board.specs.Ports.{name_of}
use Rattle.harts.proofs.live_port.step_of.Goals as goal

pub returns-clause-same : goal.returns-clause-same
returns-clause-same c = map-set_same name_of c.args.ports.now.items c.from.result c.perform.new.port c.index_mut-port.result.now (c.perform.ensures.same ∙ ap name_of c.index_mut-port.ensures.value)
