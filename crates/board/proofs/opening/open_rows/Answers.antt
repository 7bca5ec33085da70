use Rattle.std.proofs.Common.{◌∙◌, sym, ap, subst, ℕ, ◌+◌, List, Option, inl, inr, arith}
use Rattle.std.specs.Global.{Vec}
use Rattle.std.specs.Option.{option_map}
use Rattle.board.specs.Ends.{OutboxState}
use Rattle.board.specs.Ports.{element, end_of_outbox, end_of_inbox}
use Rattle.board.specs.Rows.{AreLinked, IsOutRow, items_at}
use Rattle.board.proofs.RowsGrow.{below_next, items-old, items-last, length-one_more}
use Rattle.board.proofs.opening.open_rows.Goals as goal

pub loop-sender-preserved : goal.loop-sender-preserved
loop-sender-preserved c =
    let i = c.loop-sender.invariant in
    let k = c.loop-sender.sender in
    let old = c.loop-sender.outboxes.items in
    let row = c.in_ok-row.row in
    let opened = c.in_ok-row.ensures in
    let pushed = c.in_ok-push.ensures.items in
    let one = length-one_more old row in
    record {
      in_rows = opened.count;
      out_rows = rw pushed (one ∙ ap (λ n. n + 1) i.out_rows);
      outs = λ hart below. elim (below_next hart k below) [
        | inl low ↦ subst (λ (r : List (Option OutboxState)). IsOutRow c.args.capacity hart c.args.harts r)
            (sym (ap (λ (rows : List (Vec (Option OutboxState))). items_at rows hart) pushed ∙ items-old old row hart (omega (arith, i.out_rows)))) (i.outs hart low)
        | inr same ↦ subst (λ (h : ℕ). IsOutRow c.args.capacity h c.args.harts (items_at c.push.new.self.items h)) (sym same)
            (subst (λ (r : List (Option OutboxState)). IsOutRow c.args.capacity k c.args.harts r)
            (sym (ap (λ (rows : List (Vec (Option OutboxState))). items_at rows k) pushed ∙ items-last old row k (sym i.out_rows))) opened.own)
      ];
      ins = opened.rows;
      linked = λ sender receiver below there. elim (below_next sender k below) [
        | inl low ↦
            ap (λ (rows : List (Vec (Option OutboxState))). option_map end_of_outbox (element (items_at rows sender) receiver)) pushed
            ∙ (ap (λ (r : List (Option OutboxState)). option_map end_of_outbox (element r receiver)) (items-old old row sender (omega (arith, i.out_rows)))
            ∙ (i.linked sender receiver low there
            ∙ sym (ap (option_map end_of_inbox) (opened.kept receiver sender there low))))
        | inr same ↦ subst (λ (s : ℕ). AreLinked c.push.new.self.items c.open_row.new.inboxes.items s receiver) (sym same)
            (ap (λ (rows : List (Vec (Option OutboxState))). option_map end_of_outbox (element (items_at rows k) receiver)) pushed
            ∙ (ap (λ (r : List (Option OutboxState)). option_map end_of_outbox (element r receiver)) (items-last old row k (sym i.out_rows))
            ∙ opened.linked receiver there))
      ];
    }
