use Rattle.std.proofs.Common.{◌≡◌, ◌+◌, ◌≤◌, ℕ, List, length}
use Rattle.watch_report.specs.Prefix.{AreBefore, IsPrefix}
use Rattle.watch_report.specs.TraceText.{Noted}
use Rattle.watch_report.proofs.ReadLemmas.{AreRead, AreTaken}
use Rattle.watch_report.proofs.explain.explain_lines.Given as goal

abbrev pub invariant-loop-number : goal.invariant-loop-number
invariant-loop-number g l =
    (read : List (List ℕ)) × (records : List Noted)
    × AreRead (g.R.Read.remaining l.fn.input) (g.R.Read.remaining l.input) read
    × AreTaken l.fn.header read records
    × IsPrefix records l.prefix
    × AreBefore l.fn.asked records
    × (l.number ≡ length read + 2) × (l.number ≤ l.fn.asked)
