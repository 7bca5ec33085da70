use Rattle.std.proofs.Common.{◌≡◌, ◌-◌, length, map, take}
use Rattle.watch_engine.specs.PastFences.{fence_key}
use Rattle.watch_engine.proofs.past_fences.FenceKeys.add_missing.Given as goal

-- the keys so far are those of so many fences
abbrev pub invariant-loop-at : goal.invariant-loop-at
invariant-loop-at l = record {
  many : length l.self.keys.keys.items ≡ l.at;
  keys : l.self.keys.keys.items ≡ map (fence_key l.size) (take l.at l.fences);
}

abbrev pub decreases-loop-at : goal.decreases-loop-at
decreases-loop-at l = length l.fences - l.at
