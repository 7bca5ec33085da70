use Rattle.std.proofs.Common.{◌≡◌, ◌+◌, ◌∷◌, ◌++◌, ℕ, List, Option, Some, None, length}
use denote.Ref.{Bor}
use Rattle.watch_engine.specs.declared.warning.Warning.{Warning}
use Rattle.watch_report.specs.Fields.{fields_of}
use Rattle.watch_report.specs.KnownTexts.{lines_left}
use Rattle.watch_report.specs.TraceLines.{header_in}
use Rattle.watch_report.specs.TraceReaches.{HasJudged}
use Rattle.watch_report.specs.TraceText.{Noted, lines_of}
use Rattle.watch_report.proofs.ReadLemmas.{AreTaken}
use Rattle.watch_report.proofs.judging.reaches_of.Given as goal

abbrev pub room : Option (Bor (List ℕ)) → ℕ
room None = 0
room (Some text) = length text.now + 1

abbrev pub invariant-lines : goal.invariant-lines
invariant-lines l =
    (first : List ℕ) × (read : List (List ℕ)) × (records : List Noted) × (taken : List (List Warning))
    × AreTaken l.judging.header read records × HasJudged l.fn.filter records taken l.judging
    × (header_in (fields_of first) ≡ Some l.judging.header)
    × (lines_of l.fn.text ≡ first ∷ read ++ lines_left l.left)

abbrev pub decreases-lines : goal.decreases-lines
decreases-lines l = room l.left
