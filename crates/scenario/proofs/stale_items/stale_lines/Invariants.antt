use Rattle.std.proofs.Common.{string_bytes}
use Rattle.scenario.proofs.ItemLines.{LinesSoFar}
use Rattle.scenario.proofs.stale_items.stale_lines.Given as goal

abbrev pub invariant-loop-at : goal.invariant-loop-at
invariant-loop-at l = LinesSoFar l.items l.at-index (string_bytes l.text)
