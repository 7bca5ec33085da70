use Rattle.std.proofs.Common.{◌≡◌, ◌+◌, ◌<◌, ◌++◌, ◌∷◌, [], All, length, map}
use Rattle.std.specs.Prelude.{vec_capacity}
use Rattle.std.specs.Vec.Iter.{into_iter_items, into_iter_len}
use Rattle.atomic_table.specs.Table.{State}
use Rattle.views.specs.declared.view.View.{View}
use Rattle.views.specs.Gathered.{StandsIn}
use Rattle.board.specs.Together.{KnowsItself}
use Rattle.board.proofs.closing.gather.Given as goal

abbrev pub invariant-loop-port : goal.invariant-loop-port
invariant-loop-port l = record {
  outs : map (λ row. row.items) l.outboxes.items ++ (map (λ port. port.outboxes) (into_iter_items l.port-iterator) ++ l.last_outs.items ∷ []) ≡ map (λ port. port.outboxes) l.fn.ports.items;
  ins : map (λ row. row.items) l.inboxes.items ++ (map (λ port. port.inboxes) (into_iter_items l.port-iterator) ++ l.last_ins.items ∷ []) ≡ map (λ port. port.inboxes) l.fn.ports.items;
  out_room : length l.outboxes.items + length (into_iter_items l.port-iterator) < vec_capacity l.outboxes;
  in_room : length l.inboxes.items + length (into_iter_items l.port-iterator) < vec_capacity l.inboxes;
  left : into_iter_len l.port-iterator ≡ length (into_iter_items l.port-iterator);
  some_word : 0 < l.words.table_id.words;
  gathered : l.seats.table_id ≡ l.words.table_id;
  tables : All (λ port. port.table ≡ l.words.table_id) (into_iter_items l.port-iterator);
  own : All KnowsItself (into_iter_items l.port-iterator) → All KnowsItself l.fn.ports.items;
  stand : (state : State _ View) → All (StandsIn state) l.seats.views → All (λ port. StandsIn state port.view) (into_iter_items l.port-iterator) → All (λ port. StandsIn state port.view) l.fn.ports.items;
}
