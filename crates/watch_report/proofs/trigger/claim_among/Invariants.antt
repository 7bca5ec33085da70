use Rattle.std.proofs.Common.{◌≡◌, ◌≤◌, ◌-◌, length, take}
use Rattle.watch.specs.WorkedTraces.{trace_of as made_from}
use Rattle.watch_report.specs.Prefix.{open_claim}
use Rattle.watch_report.proofs.trigger.claim_among.Given as goal

abbrev pub invariant-loop-count : goal.invariant-loop-count
invariant-loop-count l = record {
  within : l.count ≤ length l.records;
  begun : l.begun ≡ open_claim l.token (made_from (take l.count l.records));
}

abbrev pub decreases-loop-count : goal.decreases-loop-count
decreases-loop-count l = length l.records - l.count
