use Rattle.std.proofs.Common.{◌≡◌}
use Rattle.spaces.specs.Layout.{layout_of}
use Rattle.views.specs.OnBoard.{IsFit}
use Rattle.views.proofs.Goings.{IsGoing}
use Rattle.views.proofs.walks.walk_from_root.Given as goal

abbrev pub invariant-loop-next : goal.invariant-loop-next
invariant-loop-next l = record {
  fit : IsFit l.words.table_id l.words.key l.config l.seat;
  tlb : l.seat.tlb ≡ l.fn.seat.tlb;
  going : IsGoing (layout_of l.config) l.fn.seat.view l.root l.fn.va l.fn.access l.fn.ctx l.walk l.word l.seat.view;
}

abbrev pub decreases-loop-next : goal.decreases-loop-next
decreases-loop-next l = l.walk.level
