use Rattle.std.proofs.Common.{◌≡◌, drop}
use Rattle.watch_engine.specs.Held.{is_root_in}
use Rattle.watch_engine.proofs.roots.is_root_in.Given as goal

abbrev pub invariant-loop-space : goal.invariant-loop-space
invariant-loop-space l = is_root_in (drop l.space-index l.satps) l.frame ≡ is_root_in l.satps l.frame
