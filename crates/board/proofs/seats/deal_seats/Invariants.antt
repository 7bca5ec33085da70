use Rattle.std.proofs.Common.{◌≡◌, ◌+◌, [], length}
use Rattle.views.specs.Rule.{starting}
use Rattle.views.specs.OnBoard.{IsFit}
use Rattle.board.specs.Seats.{AreSeats}
use Rattle.board.proofs.seats.deal_seats.Given as goal

abbrev pub invariant-loop-hart : goal.invariant-loop-hart
invariant-loop-hart l = record {
  count : length l.seats.items + 1 ≡ l._hart;
  fit : IsFit l.fn.words.table_id l.fn.words.key l.fn.config l.first;
  first : l.first.view ≡ starting l.fn.config 0 l._hart;
  empty : l.first.tlb ≡ record { scheme = l.fn.config.scheme; entries = [] };
  rest : AreSeats l.fn.words.table_id l.fn.words.key l.fn.config 1 l.seats.items;
}
