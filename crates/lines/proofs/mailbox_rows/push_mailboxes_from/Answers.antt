use Rattle.std.proofs.Common.{◌∙◌, ◌++◌, ℕ, List, ap, string_bytes}
use Rattle.shoot.specs.Mailbox.{MailboxState}
use Rattle.stepcore.specs.State.{mailbox_at}
use Rattle.lines.specs.Sheet.{mailbox_rows_if}
use Rattle.lines.proofs.RowLemmas.{rows_next}
use Rattle.lines.proofs.mailbox_rows.push_mailboxes_from.Goals as goal

pub loop-to-preserved : goal.loop-to-preserved
loop-to-preserved c =
    let from = c.args.from in
    let row : ℕ → List ℕ = λ to. mailbox_rows_if from to (mailbox_at c.args.machine.now from to) c.args.capacity in
    rows_next row c.loop-to.to (string_bytes c.args.rows.now) (string_bytes c.loop-to.rows) (string_bytes c.push_mailbox_if.new.rows) c.loop-to.invariant
    (c.in_ok-push_mailbox_if.ensures.ok ∙ ap (λ (m : MailboxState). string_bytes c.loop-to.rows ++ mailbox_rows_if from c.loop-to.to m c.args.capacity) c.mailbox.ensures)
