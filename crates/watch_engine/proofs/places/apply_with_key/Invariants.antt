use Rattle.std.proofs.Common.{◌≡◌, ◌≤◌, ◌+◌}
use Rattle.watch_engine.specs.Effects.{IsPartly, is_due}
use Rattle.watch_engine.specs.Keys.{key_of}
use Rattle.watch_engine.specs.Places.{count_gone}
use Rattle.watch_engine.proofs.Walks.{IsAt}
use Rattle.watch_engine.proofs.places.apply_with_key.Given as goal

abbrev pub invariant-loop-at : goal.invariant-loop-at
invariant-loop-at g l = record {
  same : g.E.Effect.does l.effect ≡ g.E.Effect.does l.fn.effect;
  partly : IsPartly (g.E.Effect.does l.fn.effect).change l.fn.places l.places;
  walk : IsAt (key_of l.fn.by) l.key (is_due (g.E.Effect.does l.fn.effect).change) l.places l.at;
  gone : count_gone l.places ≤ count_gone l.fn.places + l.empty;
  few : l.empty + l.at ≤ l.newest;
}

abbrev pub decreases-loop-at : goal.decreases-loop-at
decreases-loop-at g l = l.at
