use Rattle.std.proofs.Common.{◌≡◌, ◌+◌, ◌≤◌, drop, length}
use Rattle.watch_report.specs.CauseLines.{ordered_from}
use Rattle.watch_report.proofs.cause_line.in_order.Given as goal

abbrev pub invariant-last : goal.invariant-last
invariant-last l = record {
  within : l.number ≤ length l.tallies;
  ordered : l.ones.items ≡ ordered_from l.founds (l.number + 1) (drop l.number l.tallies);
}

abbrev pub decreases-last : goal.decreases-last
decreases-last l = l.number
