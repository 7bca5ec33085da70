use Rattle.std.proofs.Common.{◌≡◌, ◌+◌, ℕ, List, length}
use Rattle.watch_report.specs.Reading.{Stands}
use Rattle.watch_causes.specs.KnownReaches.{reach_in}
use Rattle.watch_report.specs.TraceReaches.{known_by}
use Rattle.watch_report.specs.Reports.{told_of}
use Rattle.watch_report.specs.TraceText.{Noted}
use Rattle.watch_report.proofs.ReadLemmas.{AreRead, AreTaken}
use Rattle.watch_report.proofs.report.report_lines.Given as goal

abbrev pub invariant-loop-number : goal.invariant-loop-number
invariant-loop-number g l =
    (read : List (List ℕ)) × (records : List Noted)
    × AreRead (g.R.Read.remaining l.fn.input) (g.R.Read.remaining l.input) read
    × AreTaken l.fn.header read records
    × Stands (told_of l.fn.options (known_by (reach_in l.fn.reaches) l.fn.known) l.fn.file) (g.W.Write.contents l.fn.out) (g.W.Write.contents l.out) records l.reading
    × (l.reading.header ≡ l.fn.header)
    × (l.number ≡ length read + 2)
