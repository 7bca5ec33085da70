use Rattle.std.proofs.Common.{◌≡◌, drop}
use Rattle.std.specs.List.{list_any}
use Rattle.watch_engine.specs.Warnings.{is_shown}
use Rattle.watch_engine.proofs.warning.is_shown.Given as goal

abbrev pub invariant-loop-warning : goal.invariant-loop-warning
invariant-loop-warning l = list_any (is_shown l.item) (drop l.warning-index l.warnings) ≡ list_any (is_shown l.item) l.warnings
