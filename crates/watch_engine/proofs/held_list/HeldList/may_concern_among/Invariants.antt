use Rattle.std.proofs.Common.{ℕ, ◌≡◌, ◌<◌, false}
use Rattle.std.specs.List.{list_any}
use Rattle.watch_engine.specs.Causes.{applies}
use Rattle.watch_engine.specs.Keys.{key_at, key_of}
use Rattle.watch_engine.proofs.Walks.{keyed}
use Rattle.watch_engine.proofs.held_list.HeldList.may_concern_among.Given as goal

-- of the keys so far none has an item that is concerned
abbrev pub invariant-loop-offset : goal.invariant-loop-offset
invariant-loop-offset l = (n : ℕ) → n < l.offset → list_any (keyed (key_of l.keys.by) (key_at l.keys n) (applies l.cause)) l.self.places.items ≡ false
