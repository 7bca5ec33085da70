use Rattle.std.proofs.Common.{◌≡◌, ℕ, ◌+◌, ◌<◌, ◌≤◌, length}
use Rattle.std.specs.Option.{option_map}
use Rattle.board.specs.Ports.{element, end_of_outbox, end_of_inbox}
use Rattle.board.specs.Rows.{IsInRow, IsOutRow, items_at}
use Rattle.board.proofs.opening.open_row.Given as goal

abbrev pub invariant-loop-receiver : goal.invariant-loop-receiver
invariant-loop-receiver l = record {
  count : length l.inboxes.items ≡ l.fn.harts;
  own : IsOutRow l.fn.capacity l.fn.sender l.receiver l.row.items;
  done : (hart : ℕ) → hart < l.receiver → IsInRow l.fn.capacity hart (l.fn.sender + 1) (items_at l.inboxes.items hart);
  ahead : (hart : ℕ) → l.receiver ≤ hart → items_at l.inboxes.items hart ≡ items_at l.initial.inboxes.items hart;
  kept : (hart number : ℕ) → hart < l.fn.harts → number < l.fn.sender → element (items_at l.inboxes.items hart) number ≡ element (items_at l.initial.inboxes.items hart) number;
  linked : (hart : ℕ) → hart < l.receiver → option_map end_of_outbox (element l.row.items hart) ≡ option_map end_of_inbox (element (items_at l.inboxes.items hart) l.fn.sender);
}
