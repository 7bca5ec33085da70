use Rattle.std.proofs.Common.{◌≡◌, ◌++◌, List, drop}
use Rattle.watch_report.specs.Past.{ArePast}
use Rattle.watch_report.specs.TraceText.{Noted}
use Rattle.watch_report.specs.VerdictLines.{noted_by, warning_lines}
use Rattle.watch_report.proofs.verdicts.push_warnings.Given as goal

abbrev pub invariant-loop-warning : goal.invariant-loop-warning
invariant-loop-warning l =
    (records : List Noted) → ArePast records l.past
    → l.text.items ++ warning_lines l.form l.file l.trigger (noted_by l.newest) records (drop l.warning-index l.warnings) ≡ l.fn.text.items ++ warning_lines l.form l.file l.trigger (noted_by l.newest) records l.warnings
