use Rattle.std.proofs.Common.{◌≡◌, drop, false, true}
use Rattle.watch_report.specs.VerdictLines.{counts_after}
use Rattle.watch_report.proofs.counting.count_warnings.Given as goal

abbrev pub invariant-loop-warning : goal.invariant-loop-warning
invariant-loop-warning l = record {
  user : counts_after false l.user (drop l.warning-index l.warnings) ≡ counts_after false l.fn.user l.warnings;
  kernel : counts_after true l.kernel (drop l.warning-index l.warnings) ≡ counts_after true l.fn.kernel l.warnings;
}
