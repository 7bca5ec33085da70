use Rattle.std.proofs.Common.{◌≡◌}
use Rattle.views.specs.OnBoard.{IsFit}
use Rattle.thread_tests.proofs.seats.map_by.Given as goal

abbrev pub invariant-loop-at : goal.invariant-loop-at
invariant-loop-at g l = record {
  fit : IsFit l.words.table_id l.words.key l.config l.seat;
  hart : l.seat.view.hart ≡ l.hart;
  used : l.seat.view.used ≡ l.used;
}
