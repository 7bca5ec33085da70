use Rattle.std.proofs.Common.{◌≡◌, ◌≤◌, ◌+◌, false, take}
use Rattle.std.specs.Prelude.{◌&&◌}
use Rattle.std.specs.List.{list_any}
use Rattle.watch_engine.specs.Concerns.{concerns}
use Rattle.watch_engine.specs.Effects.{IsPartly, is_due}
use Rattle.watch_engine.specs.Places.{count_gone}
use Rattle.watch_engine.proofs.held_list.apply_by_keys.Given as goal

-- nothing is due of what is of the concerns so far
abbrev pub invariant-loop-number : goal.invariant-loop-number
invariant-loop-number g l = record {
  same : g.E.Effect.does l.effect ≡ g.E.Effect.does l.fn.effect;
  gone : count_gone l.places ≤ count_gone l.fn.places + l.empty;
  partly : IsPartly (g.E.Effect.does l.fn.effect).change l.fn.places l.places;
  none : list_any (λ i. list_any (λ c. concerns c i) (take l.number (g.E.Effect.does l.fn.effect).concerns) && is_due (g.E.Effect.does l.fn.effect).change i) l.places ≡ false;
}
