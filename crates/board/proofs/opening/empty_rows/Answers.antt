use Rattle.std.proofs.Common.{◌∙◌, ap, ◌+◌, List, Option}
use Rattle.std.specs.Global.{Vec}
use Rattle.board.specs.Ends.{InboxState}
use Rattle.board.specs.Rows.{items_at}
use Rattle.board.proofs.RowsGrow.{items-empty, length-one_more}
use Rattle.board.proofs.opening.empty_rows.Goals as goal

pub loop-preserved : goal.loop-preserved
loop-preserved c =
    let old = c.loop.rows.items in
    let pushed = c.in_ok-push.ensures.items in
    let one = length-one_more old c.new.result in
    record {
      count = rw pushed (one ∙ ap (λ n. n + 1) c.loop.invariant.count);
      empty = λ hart. ap (λ (rows : List (Vec (Option InboxState))). items_at rows hart) pushed ∙ items-empty old c.new.result c.new.ensures.items c.loop.invariant.empty hart;
    }
