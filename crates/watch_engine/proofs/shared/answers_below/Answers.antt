use Rattle.watch_engine.proofs.Filling.{none_asked}
use Rattle.watch_engine.specs.View.{view_of}
use Rattle.watch_engine.proofs.shared.answers_below.Goals as goal

pub loop-space-init : goal.loop-space-init
loop-space-init g c e below has = none_asked (view_of c.args.view.now) 256 e below.global
