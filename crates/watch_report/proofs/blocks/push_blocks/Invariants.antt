use Rattle.std.proofs.Common.{◌≡◌, ◌++◌, ◌+◌, ◌-◌, List, drop, length}
use Rattle.watch_report.specs.Past.{ArePast}
use Rattle.watch_report.specs.Reports.{block_lines}
use Rattle.watch_report.specs.TraceText.{Noted}
use Rattle.watch_report.specs.VerdictLines.{noted_by}
use Rattle.watch_report.proofs.blocks.push_blocks.Given as goal

abbrev pub invariant-loop-place : goal.invariant-loop-place
invariant-loop-place l =
    (records : List Noted) → ArePast records l.past
    → l.text.items ++ block_lines l.form l.file (l.place + 1) l.trigger (noted_by l.newest) records (drop l.place l.tallies)
    ≡ l.fn.text.items ++ block_lines l.form l.file (l.before + 1) l.trigger (noted_by l.newest) records (drop l.before l.tallies)

abbrev pub decreases-loop-place : goal.decreases-loop-place
decreases-loop-place l = length l.tallies - l.place
