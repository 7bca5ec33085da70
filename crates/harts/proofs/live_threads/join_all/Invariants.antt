use Rattle.std.proofs.Common.{◌≡◌, ◌+◌, ◌≤◌, ◌++◌, List, length, map}
use Rattle.std.specs.Prelude.{All, vec_capacity}
use Rattle.std.specs.Vec.Iter.{into_iter_items, into_iter_len}
use Rattle.board.specs.Ports.{name_of}
use Rattle.harts.specs.declared.live_reply.LiveReply.{LiveReply}
use Rattle.harts.specs.Plays.{HavePlayed, start_of}
use Rattle.harts.specs.Scripts.{are_answered}
use Rattle.harts.proofs.live_threads.join_all.Given as goal

-- what answers the scripts of the threads that are left, answers all scripts after the answers so
-- far
abbrev pub invariant-loop-handle : goal.invariant-loop-handle
invariant-loop-handle g l = record {
  run : All (λ handle. (handle.promise.gate.value ≡ l.fn.gate) × (handle.promise.harts ≡ l.fn.latch.harts) × (handle.promise.turns ≡ l.fn.turns)) (into_iter_items l.handle-iterator);
  played : (more : List (List LiveReply)) → HavePlayed (record { gate = g.G.Gate.says l.fn.gate; harts = l.fn.latch.harts; turns = l.fn.turns }) (map (λ handle. start_of handle.promise.hart handle.promise.port.value handle.promise.steps.value.items) (into_iter_items l.handle-iterator)) more
      → HavePlayed (record { gate = g.G.Gate.says l.fn.gate; harts = l.fn.latch.harts; turns = l.fn.turns }) (map (λ handle. start_of handle.promise.hart handle.promise.port.value handle.promise.steps.value.items) l.fn.handles.items) (map (λ replies. replies.items) l.answers.items ++ more);
  same : map name_of l.ports.items ++ map (λ handle. name_of handle.promise.port.value) (into_iter_items l.handle-iterator) ≡ map (λ handle. name_of handle.promise.port.value) l.fn.handles.items;
  count : length l.answers.items + length (into_iter_items l.handle-iterator) ≡ length l.fn.handles.items;
  port_room : length l.ports.items + length (into_iter_items l.handle-iterator) ≤ vec_capacity l.ports;
  answer_room : length l.answers.items + length (into_iter_items l.handle-iterator) ≤ vec_capacity l.answers;
  left : into_iter_len l.handle-iterator ≡ length (into_iter_items l.handle-iterator);
  answered : (more : List (List LiveReply)) → are_answered (map (λ handle. handle.promise.steps.value.items) l.fn.handles.items) (map (λ replies. replies.items) l.answers.items ++ more)
      ≡ are_answered (map (λ handle. handle.promise.steps.value.items) (into_iter_items l.handle-iterator)) more;
}
