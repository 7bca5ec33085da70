use Rattle.std.proofs.Common.{◌≡◌, ◌++◌, List, drop}
use Rattle.watch_report.specs.Past.{ArePast}
use Rattle.watch_report.specs.Reports.{total_lines}
use Rattle.watch_report.specs.TraceText.{Noted}
use Rattle.watch_report.proofs.blocks.push_each.Given as goal

abbrev pub invariant-loop-one : goal.invariant-loop-one
invariant-loop-one l =
    (records : List Noted) → ArePast records l.past
    → l.text.items ++ total_lines l.form l.file records l.founds (drop l.one-index l.ones) ≡ l.fn.text.items ++ total_lines l.form l.file records l.founds l.ones
