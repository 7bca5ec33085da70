use Rattle.std.proofs.Common.{ℕ, ◌≡◌, ◌<◌, ◌≤◌, ◌+◌, false}
use Rattle.std.specs.List.{list_any}
use Rattle.watch_engine.specs.Effects.{IsPartly, is_due}
use Rattle.watch_engine.specs.Keys.{key_at, key_of}
use Rattle.watch_engine.specs.Places.{count_gone}
use Rattle.watch_engine.proofs.Walks.{keyed}
use Rattle.watch_engine.proofs.places.apply_with_keys.Given as goal

-- nothing is due of the items with the keys so far
abbrev pub invariant-loop-offset : goal.invariant-loop-offset
invariant-loop-offset g l = record {
  same : g.E.Effect.does l.effect ≡ g.E.Effect.does l.fn.effect;
  gone : count_gone l.places ≤ count_gone l.fn.places + l.empty;
  partly : IsPartly (g.E.Effect.does l.fn.effect).change l.fn.places l.places;
  large : list_any (keyed (key_of l.keys.by) l.keys.limit (is_due (g.E.Effect.does l.fn.effect).change)) l.places ≡ false;
  each : (n : ℕ) → n < l.offset → list_any (keyed (key_of l.keys.by) (key_at l.keys n) (is_due (g.E.Effect.does l.fn.effect).change)) l.places ≡ false;
}
