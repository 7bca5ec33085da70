use Rattle.std.proofs.Common.{◌≡◌, ◌<◌, ◌≤◌, ◌-◌, length, get_or, take}
use Rattle.watch_engine.specs.Chains.{bucket_of, last_place}
use Rattle.watch_engine.proofs.chains.Chains.follow.Given as goal

-- what is found is found from here, in the same bucket
abbrev pub invariant-loop-at : goal.invariant-loop-at
invariant-loop-at l = record {
  within : l.at ≤ length l.self.keys.items;
  bucket : 0 < l.at → bucket_of (length l.self.heads.items) (get_or l.self.keys.items (l.at - 1) 0) ≡ bucket_of (length l.self.heads.items) l.key;
  same : last_place l.key (take l.at l.self.keys.items) ≡ last_place l.key (take l.newest l.self.keys.items);
  paid : l.steps ≤ l.fn.steps;
}

abbrev pub decreases-loop-at : goal.decreases-loop-at
decreases-loop-at l = l.at
