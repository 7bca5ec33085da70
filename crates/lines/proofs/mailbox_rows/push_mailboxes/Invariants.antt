use Rattle.std.proofs.Common.{◌≡◌, length, string_bytes}
use Rattle.lines.specs.Rows.{rows_below}
use Rattle.lines.specs.Sheet.{mailbox_rows_from}
use Rattle.lines.proofs.mailbox_rows.push_mailboxes.Given as goal

abbrev pub invariant-loop-from : goal.invariant-loop-from
invariant-loop-from l = string_bytes l.rows ≡ rows_below (λ sender. mailbox_rows_from l.machine l.capacity sender (length l.machine.harts)) l.from
