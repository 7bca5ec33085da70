use Rattle.std.proofs.Common.{◌≡◌, ◌<◌, ◌-◌, ℕ, false, get_or, length}
use Rattle.watch_report.specs.Bytes.{is_either}
use Rattle.watch_report.proofs.bytes.first_of_two.Given as goal

abbrev pub invariant-vectors : goal.invariant-vectors
invariant-vectors l = (k : ℕ) → k < l.at → is_either l.a l.b (get_or l.text k 0) ≡ false

abbrev pub decreases-vectors : goal.decreases-vectors
decreases-vectors l = length l.text - l.at
