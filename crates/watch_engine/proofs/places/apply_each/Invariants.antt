use Rattle.std.proofs.Common.{◌≡◌, ◌≤◌, map, take, drop, ◌++◌}
use Rattle.watch_engine.specs.Effects.{changed}
use Rattle.watch_engine.specs.Places.{count_gone}
use Rattle.watch_engine.proofs.places.apply_each.Given as goal

abbrev pub invariant-loop-place : goal.invariant-loop-place
invariant-loop-place g l = record {
  same : g.E.Effect.does l.effect ≡ g.E.Effect.does l.fn.effect;
  places : l.places ≡ map (changed (g.E.Effect.does l.fn.effect).change) (take l.place l.fn.places) ++ drop l.place l.fn.places;
  gone : count_gone (take l.place l.places) ≤ l.empty;
  few : l.empty ≤ l.place;
}
