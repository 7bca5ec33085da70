use Rattle.std.proofs.Common.{◌≡◌, ◌+◌, ◌≤◌, ℕ, length, map, Option, Some, None, List}
use denote.Ref.{Bor}
use Rattle.watch_causes.specs.KnownFindings.{known_entry}
use Rattle.watch_report.specs.KnownTexts.{entries_from, known_in_text, lines_left}
use Rattle.watch_report.proofs.KnownLemmas.{after}
use Rattle.watch_report.proofs.known_text.read_known.Given as goal

abbrev pub room : Option (Bor (List ℕ)) → ℕ
room None = 0
room (Some text) = length text.now + 1

abbrev pub invariant-loop-left : goal.invariant-loop-left
invariant-loop-left l =
    (known_in_text l.fn.text ≡ after (map known_entry l.known.items) (entries_from l.line (lines_left l.left)))
    × (l.line + room l.left ≤ length l.fn.text + 2)

abbrev pub decreases-loop-left : goal.decreases-loop-left
decreases-loop-left l = room l.left
