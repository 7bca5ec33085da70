use Rattle.std.proofs.Common.{◌≡◌, ℕ, ◌<◌, length}
use Rattle.board.specs.Rows.{AreLinked, IsInRow, IsOutRow, items_at}
use Rattle.board.proofs.opening.open_rows.Given as goal

abbrev pub invariant-loop-sender : goal.invariant-loop-sender
invariant-loop-sender l = record {
  in_rows : length l.inboxes.items ≡ l.fn.harts;
  out_rows : length l.outboxes.items ≡ l.sender;
  outs : (hart : ℕ) → hart < l.sender → IsOutRow l.fn.capacity hart l.fn.harts (items_at l.outboxes.items hart);
  ins : (hart : ℕ) → hart < l.fn.harts → IsInRow l.fn.capacity hart l.sender (items_at l.inboxes.items hart);
  linked : (sender receiver : ℕ) → sender < l.sender → receiver < l.fn.harts → AreLinked l.outboxes.items l.inboxes.items sender receiver;
}
