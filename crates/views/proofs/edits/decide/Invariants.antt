use Rattle.std.proofs.Common.{◌≡◌}
use Rattle.spaces.specs.Layout.{layout_of}
use Rattle.views.specs.OnBoard.{IsFit}
use Rattle.views.proofs.Homeward.{IsReading}
use Rattle.views.proofs.edits.decide.Given as goal

abbrev pub invariant-loop-next : goal.invariant-loop-next
invariant-loop-next l = record {
  fit : IsFit l.words.table_id l.words.key l.config l.seat;
  view : l.seat.view ≡ l.fn.seat.view;
  tlb : l.seat.tlb ≡ l.fn.seat.tlb;
  reading : IsReading (layout_of l.config) l.fn.seat.view l.wish l.spare l.walk;
}

abbrev pub decreases-loop-next : goal.decreases-loop-next
decreases-loop-next l = l.walk.level
