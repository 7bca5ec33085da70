use Rattle.std.proofs.Common.{◌≡◌, ◌++◌, drop, true}
use Rattle.watch_report.specs.NoteLines.{joined}
use Rattle.watch_report.proofs.note_lines.push_joined.Given as goal

abbrev pub invariant-loop-number : goal.invariant-loop-number
invariant-loop-number l =
    l.text.items ++ joined l.is_first (drop l.number-index l.numbers) ≡ l.fn.text.items ++ joined true l.numbers
