use Rattle.std.proofs.Common.{◌≡◌, ◌+◌, ◌≤◌, ◌++◌, length, map}
use Rattle.std.specs.Prelude.{All, vec_capacity}
use Rattle.std.specs.Vec.Iter.{into_iter_items, into_iter_len}
use Rattle.board.specs.Ports.{name_of}
use Rattle.harts.specs.Plays.{start_of}
use Rattle.harts.proofs.live_threads.fn.start_all.scope.Given as goal

abbrev pub invariant-loop-role : goal.invariant-loop-role
invariant-loop-role g l = record {
  same : map (λ handle. name_of handle.promise.port.value) l.handles.items ++ map (λ role. name_of role.port) (into_iter_items l.role-iterator) ≡ map (λ role. name_of role.port) (into_iter_items l.initial.role-iterator);
  scripts : map (λ handle. handle.promise.steps.value.items) l.handles.items ++ map (λ role. role.script.now.items) (into_iter_items l.role-iterator) ≡ map (λ role. role.script.now.items) (into_iter_items l.initial.role-iterator);
  starts : map (λ handle. start_of handle.promise.hart handle.promise.port.value handle.promise.steps.value.items) l.handles.items ++ map (λ role. start_of role.hart role.port role.script.now.items) (into_iter_items l.role-iterator) ≡ map (λ role. start_of role.hart role.port role.script.now.items) (into_iter_items l.initial.role-iterator);
  run : All (λ handle. (handle.promise.gate.value ≡ l.gate.now) × (handle.promise.harts ≡ l.latch.now.harts) × (handle.promise.turns ≡ l.turns)) l.handles.items;
  room : length l.handles.items + length (into_iter_items l.role-iterator) ≤ vec_capacity l.handles;
  left : into_iter_len l.role-iterator ≡ length (into_iter_items l.role-iterator);
}
