use Rattle.std.proofs.Common.{◌≡◌, ◌∙◌, ℕ, List, ◌+◌, ◌++◌, ap, arith, slice_get, string_bytes}
use Rattle.lines.specs.Rows.{mailbox_line, rows_below}
use Rattle.lines.specs.Sheet.{waiting_count, waiting_row}
use Rattle.lines.proofs.CountLemmas.{waiting_are}
use Rattle.lines.proofs.mailbox_rows.push_mailbox.Goals as goal

pub returns : goal.returns
returns c =
    let end : c.loop-place.place ≡ waiting_count = omega (arith, c.loop-place-test.false, c.loop-place.auto.place-end, waiting_are) in
    let row : ℕ → List ℕ = λ place. waiting_row (slice_get c.args.mailbox.now.waiting (place + 1)) in
    let first = mailbox_line c.args.from c.args.to c.args.mailbox.now c.args.capacity in
    record { ok = c.loop-place.invariant ∙ ap (λ n. string_bytes c.args.rows.now ++ (first ++ rows_below row n)) end }
