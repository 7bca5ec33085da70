use Rattle.std.proofs.Common.{◌≡◌, ◌++◌, drop, map, true}
use Rattle.watch_report.specs.Warnings.{verdict_counts_text, printed_count}
use Rattle.watch_report.proofs.counts.push_counts.Given as goal

abbrev pub invariant-loop-count : goal.invariant-loop-count
invariant-loop-count l =
    l.text.items ++ verdict_counts_text l.is_first (map printed_count (drop l.count-index l.counts)) ≡ l.fn.text.items ++ verdict_counts_text true (map printed_count l.counts)
