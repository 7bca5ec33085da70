use Rattle.std.proofs.Common.{◌≡◌, ◌+◌, ℕ, drop}
use Rattle.std.specs.List.{fold, sum}
use Rattle.watch_report.proofs.known_end.sum_of.Given as goal

abbrev pub invariant-loop-count : goal.invariant-loop-count
invariant-loop-count l = fold (λ (a x : ℕ). a + x) l.all (drop l.count-index l.counts) ≡ sum l.counts
