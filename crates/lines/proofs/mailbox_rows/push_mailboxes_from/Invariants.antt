use Rattle.std.proofs.Common.{◌≡◌, ◌++◌, string_bytes}
use Rattle.lines.specs.Sheet.{mailbox_rows_from}
use Rattle.lines.proofs.mailbox_rows.push_mailboxes_from.Given as goal

abbrev pub invariant-loop-to : goal.invariant-loop-to
invariant-loop-to l = string_bytes l.rows ≡ string_bytes l.fn.rows ++ mailbox_rows_from l.machine l.capacity l.from l.to
