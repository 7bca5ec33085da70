use Rattle.std.proofs.Common.{◌≡◌, ℕ, ◌-◌, ◌<◌, ◌≤◌, false, get_or, length}
use Rattle.steps.specs.Words.{is_blank}
use Rattle.steps.proofs.text.split_word.Given as goal

abbrev pub invariant-loop-end : goal.invariant-loop-end
invariant-loop-end l =
    record {
      some : 0 < l.end;
      within : l.end ≤ length l.text;
      plain : (k : ℕ) → k < l.end → is_blank (get_or l.text k 0) ≡ false;
    }

abbrev pub decreases-loop-end : goal.decreases-loop-end
decreases-loop-end l = length l.text - l.end
