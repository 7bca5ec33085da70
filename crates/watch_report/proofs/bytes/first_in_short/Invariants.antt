use Rattle.std.proofs.Common.{◌≡◌, ◌≤◌, ◌<◌, ◌-◌, ℕ, false, get_or, length}
use Rattle.watch_report.specs.Bytes.{is_either}
use Rattle.watch_report.proofs.bytes.first_in_short.Given as goal

abbrev pub invariant-together : goal.invariant-together
invariant-together l =
    record {
      within : l.at ≤ length l.text;
      none : (k : ℕ) → k < l.at → is_either l.a l.b (get_or l.text k 0) ≡ false;
    }

abbrev pub decreases-together : goal.decreases-together
decreases-together l = length l.text - l.at

abbrev pub invariant-single : goal.invariant-single
invariant-single l =
    record {
      within : l.at ≤ length l.text;
      none : (k : ℕ) → k < l.at → is_either l.a l.b (get_or l.text k 0) ≡ false;
    }

abbrev pub decreases-single : goal.decreases-single
decreases-single l = length l.text - l.at
