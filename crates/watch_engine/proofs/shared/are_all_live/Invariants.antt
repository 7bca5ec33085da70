use Rattle.std.proofs.Common.{◌≡◌, drop}
use Rattle.watch_engine.specs.Shared.{are_all_live}
use Rattle.watch_engine.proofs.shared.are_all_live.Given as goal

abbrev pub invariant-loop-space : goal.invariant-loop-space
invariant-loop-space l = are_all_live l.answers (drop l.space-index l.left) ≡ are_all_live l.answers l.left
