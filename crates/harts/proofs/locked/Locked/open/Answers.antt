use Rattle.std.proofs.Common.{sym, ◌∙◌}
use Rattle.harts.proofs.Woven.{woven_none, all_empty}
use Rattle.harts.proofs.locked.Locked.open.Goals as goal

pub invariant_of-new : goal.invariant_of-new
invariant_of-new g c = (
  c.blank.view_is ∙ sym c.requires.lists,
  rw c.in_ok-book.ensures.empty (woven_none _ (all_empty (λ l. l.half.list) c.blank.inside.lists.items c.blank.invariant.1)),
)
