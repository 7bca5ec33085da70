use Rattle.std.proofs.Common.{◌≡◌, ℕ, ◌+◌, ◌<◌, ◌++◌, length, map, All}
use Rattle.std.specs.List.{range_with_len}
use Rattle.std.specs.Arc.{arc_value}
use Rattle.history.specs.Setup.{setup_of}
use Rattle.board.specs.Ports.{AreNew, IsPort, name_of}
use Rattle.board.specs.Rows.{IsInRow, IsOutRow, items_at}
use Rattle.board.specs.Seats.{AreSeats}
use Rattle.board.proofs.board.deal.Given as goal

abbrev pub invariant-loop-outs : goal.invariant-loop-outs
invariant-loop-outs l = record {
  seated : length l.seats.items ≡ length l.outboxes.items;
  seats_are : AreSeats (arc_value l.fn.memory).shared.table_id (arc_value l.fn.memory).shared.key (arc_value l.fn.config) 0 l.seats.items;
  same : length l.inboxes.items ≡ length l.outboxes.items;
  count : length l.outboxes.items + length l.ports.items ≡ (arc_value l.fn.config).harts;
  outs_are : (hart : ℕ) → hart < length l.outboxes.items → IsOutRow (arc_value l.fn.config).capacity hart (arc_value l.fn.config).harts (items_at l.outboxes.items hart);
  ins_are : (hart : ℕ) → hart < length l.outboxes.items → IsInRow (arc_value l.fn.config).capacity hart (arc_value l.fn.config).harts (items_at l.inboxes.items hart);
  outs : map (λ row. row.items) l.outboxes.items ++ map (λ port. port.outboxes) l.ports.items ≡ map (λ row. row.items) l.initial.outboxes.items;
  ins : map (λ row. row.items) l.inboxes.items ++ map (λ port. port.inboxes) l.ports.items ≡ map (λ row. row.items) l.initial.inboxes.items;
  numbered : map (λ port. port.hart) l.ports.items ≡ range_with_len (length l.outboxes.items) (length l.ports.items);
  of_setup : All (λ port. port.setup ≡ setup_of (arc_value l.fn.config)) l.ports.items;
  of_table : All (λ port. port.table ≡ (arc_value l.fn.memory).shared.table_id) l.ports.items;
  each : All (λ port. IsPort (name_of port)) l.ports.items;
  are_new : AreNew l.ports.items;
}

abbrev pub decreases-loop-outs : goal.decreases-loop-outs
decreases-loop-outs l = length l.outboxes.items
