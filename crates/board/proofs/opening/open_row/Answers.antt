use Rattle.std.proofs.Common.{◌≡◌, ◌∙◌, sym, ap, subst, ℕ, ◌+◌, ◌<◌, List, length, Option, inl, inr, arith}
use Rattle.std.specs.Option.{option_map}
use Rattle.board.specs.Ends.{OutboxState, InboxState}
use Rattle.board.specs.Ports.{element, end_of_outbox, end_of_inbox}
use Rattle.board.specs.Rows.{IsInRow, items_at, new_outbox_of, new_inbox_of}
use Rattle.board.proofs.RowsGrow.{row_count, row_grows, element-old, element-last, below_next, same_or_not}
use Rattle.board.proofs.opening.open_row.Goals as goal

pub loop-receiver-preserved : goal.loop-receiver-preserved
loop-receiver-preserved c =
    let i = c.loop-receiver.invariant in
    let k = c.loop-receiver.receiver in
    let capacity = c.args.capacity in
    let sender = c.args.sender in
    let old = c.loop-receiver.inboxes.items in
    let new = c.push_at.new.rows.items in
    let outbox = c.in_ok-outbox.outbox in
    let inbox = c.in_ok-outbox.inbox in
    let made = c.in_ok-outbox.ensures in
    let pushed = c.in_ok-push.ensures.items in
    let at = c.in_ok-push_at.ensures in
    let there : k < c.args.harts = c.loop-receiver-test.true in
    let column : IsInRow capacity k sender (items_at old k) = rw (i.ahead k (omega arith)) (c.requires.rows k there) in
    let long : length (items_at old k) ≡ sender = row_count end_of_inbox new_inbox_of capacity k sender (items_at old k) column in
    let wide : length c.loop-receiver.row.items ≡ k = row_count end_of_outbox new_outbox_of capacity sender k c.loop-receiver.row.items i.own in
    record {
      count = at.count ∙ i.count;
      own = rw pushed (row_grows end_of_outbox new_outbox_of capacity sender k c.loop-receiver.row.items outbox i.own made.outbox.0 made.outbox.1);
      done = λ hart below. elim (below_next hart k below) [
        | inl low ↦ rw (at.others hart (λ same. absurd (omega arith))) (i.done hart low)
        | inr same ↦ subst (λ (h : ℕ). IsInRow capacity h (sender + 1) (items_at new h)) (sym same)
            (rw at.own (row_grows end_of_inbox new_inbox_of capacity k sender (items_at old k) inbox column made.inbox.0 made.inbox.1))
      ];
      ahead = λ hart above. at.others hart (λ same. absurd (omega arith)) ∙ i.ahead hart (omega arith);
      kept = λ hart number within below. elim (same_or_not hart k) [
        | inl same ↦ subst (λ (h : ℕ). element (items_at new h) number ≡ element (items_at c.args.inboxes.now.items h) number) (sym same)
            (ap (λ (row : List (Option InboxState)). element row number) at.own ∙ (element-old (items_at old k) inbox number (omega (arith, long)) ∙ i.kept k number there below))
        | inr apart ↦ ap (λ (row : List (Option InboxState)). element row number) (at.others hart apart) ∙ i.kept hart number within below
      ];
      linked = λ hart below. elim (below_next hart k below) [
        | inl low ↦ ap (λ (row : List (Option OutboxState)). option_map end_of_outbox (element row hart)) pushed
            ∙ (ap (option_map end_of_outbox) (element-old c.loop-receiver.row.items outbox hart (omega (arith, wide)))
            ∙ (i.linked hart low
            ∙ sym (ap (λ (row : List (Option InboxState)). option_map end_of_inbox (element row sender)) (at.others hart (λ same. absurd (omega arith))))))
        | inr same ↦ subst (λ (h : ℕ). option_map end_of_outbox (element c.push.new.self.items h) ≡ option_map end_of_inbox (element (items_at new h) sender)) (sym same)
            (ap (λ (row : List (Option OutboxState)). option_map end_of_outbox (element row k)) pushed
            ∙ (ap (option_map end_of_outbox) (element-last c.loop-receiver.row.items outbox k (sym wide))
            ∙ (made.linked
            ∙ sym (ap (λ (row : List (Option InboxState)). option_map end_of_inbox (element row sender)) at.own ∙ ap (option_map end_of_inbox) (element-last (items_at old k) inbox sender (sym long))))))
      ];
    }
