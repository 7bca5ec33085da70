use Rattle.std.proofs.Common.{◌≡◌, ◌++◌, drop}
use Rattle.watch_report.specs.ShownNotes.{shown_note}
use Rattle.watch_report.proofs.shown.push_each.Given as goal

abbrev pub invariant-loop-byte : goal.invariant-loop-byte
invariant-loop-byte l =
    l.text.items ++ shown_note (drop l.byte-index l.note) ≡ l.fn.text.items ++ shown_note l.note
