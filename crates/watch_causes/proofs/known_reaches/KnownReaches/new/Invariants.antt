use Rattle.std.proofs.Common.{◌≡◌, ◌≤◌, drop, length}
use Rattle.std.specs.BTreeMap.{get}
use Rattle.watch_causes.specs.declared.finding.Finding.{Finding}
use Rattle.watch_causes.specs.Findings.{finding_cmp}
use Rattle.watch_causes.specs.KnownReaches.{reach_listed}
use Rattle.watch_causes.proofs.known_reaches.KnownReaches.new.Given as goal

abbrev pub invariant-last : goal.invariant-last
invariant-last l = record {
  begun : l.at ≤ length l.begun;
  reaches : l.at ≤ length l.reaches;
  are : (f : Finding) → get finding_cmp l.findings f ≡ reach_listed (drop l.at l.begun) (drop l.at l.reaches) f;
}

abbrev pub decreases-last : goal.decreases-last
decreases-last l = l.at
