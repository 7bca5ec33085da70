use Rattle.std.proofs.Common.{◌≡◌, ◌+◌, ◌≤◌, ◌++◌, length, map, drop}
use Rattle.std.specs.Prelude.{vec_capacity}
use Rattle.std.specs.Vec.Iter.{into_iter_items, into_iter_len}
use Rattle.board.specs.Ports.{name_of}
use Rattle.harts.specs.Plays.{start_of, starts_from}
use Rattle.harts.specs.Scripts.{scripts_of}
use Rattle.harts.proofs.live_threads.roles_of.Given as goal

abbrev pub invariant-loop-port : goal.invariant-loop-port
invariant-loop-port l = record {
  same : map (λ role. name_of role.port) l.roles.items ++ map name_of (into_iter_items l.port-iterator) ≡ map name_of l.fn.ports.items;
  scripts : map (λ role. role.script.now.items) l.roles.items ++ scripts_of (length (into_iter_items l.port-iterator)) (drop (length l.roles.items) (map (λ script. script.items) l.fn.scripts))
      ≡ scripts_of (length l.fn.ports.items) (map (λ script. script.items) l.fn.scripts);
  starts : map (λ role. start_of role.hart role.port role.script.now.items) l.roles.items ++ starts_from (length l.roles.items) (into_iter_items l.port-iterator) (scripts_of (length (into_iter_items l.port-iterator)) (drop (length l.roles.items) (map (λ script. script.items) l.fn.scripts)))
      ≡ starts_from 0 l.fn.ports.items (scripts_of (length l.fn.ports.items) (map (λ script. script.items) l.fn.scripts));
  room : length l.roles.items + length (into_iter_items l.port-iterator) ≤ vec_capacity l.roles;
  count : length l.roles.items + length (into_iter_items l.port-iterator) ≡ length l.fn.ports.items;
  few : length l.roles.items + length (into_iter_items l.port-iterator) ≤ 8;
  left : into_iter_len l.port-iterator ≡ length (into_iter_items l.port-iterator);
}
