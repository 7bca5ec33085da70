use Rattle.std.proofs.Common.{◌≡◌, ◌+◌, ◌++◌, slice_get, string_bytes}
use Rattle.lines.specs.Rows.{mailbox_line, rows_below}
use Rattle.lines.specs.Sheet.{waiting_row}
use Rattle.lines.proofs.mailbox_rows.push_mailbox.Given as goal

abbrev pub invariant-loop-place : goal.invariant-loop-place
invariant-loop-place l = string_bytes l.rows ≡ string_bytes l.fn.rows ++ (mailbox_line l.from l.to l.mailbox l.capacity ++ rows_below (λ place. waiting_row (slice_get l.mailbox.waiting (place + 1))) l.place)
