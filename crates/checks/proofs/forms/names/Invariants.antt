use Rattle.std.proofs.Common.{◌≤◌, length}
use Rattle.checks.proofs.forms.names.Given as goal

abbrev pub invariant-loop-index : goal.invariant-loop-index
invariant-loop-index l = length l.names.items ≤ l.index
