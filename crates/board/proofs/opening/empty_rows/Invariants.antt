use Rattle.std.proofs.Common.{◌≡◌, ℕ, [], length}
use Rattle.board.specs.Rows.{items_at}
use Rattle.board.proofs.opening.empty_rows.Given as goal

abbrev pub invariant-loop : goal.invariant-loop
invariant-loop l = record {
  count : length l.rows.items ≡ l.counter;
  empty : (hart : ℕ) → items_at l.rows.items hart ≡ [];
}
