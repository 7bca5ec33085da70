-- What is printed in each form, and how much of it.
use Rattle.std.specs.Prelude.{ℕ, ◌-◌, List, ◌++◌, Option, Some, None, take}
use Rattle.watch_causes.specs.declared.finding.Cause.{Cause}
use Rattle.watch_report.specs.declared.cause_line.NumberedTally.{NumberedTally}
use Rattle.watch_report.specs.declared.counts.VerdictCounts.{VerdictCounts}
use Rattle.watch_report.specs.declared.options.Form.{Form}
use Rattle.watch_report.specs.declared.options.Form.TheVariants.{Text, Json}
use Rattle.watch_report.specs.declared.warning.Warning.{Warning}
use Rattle.watch_report.specs.CauseLines.{block_text, total_line}
use Rattle.watch_report.specs.JsonObjects.{cause_object, json_line, summary_object, total_object, verdict_object}
use Rattle.watch_report.specs.Warnings.{summary_line, warning_line}

-- a verdict
abbrev pub verdict_as : Form → List ℕ → Warning → List ℕ → List ℕ → List ℕ
verdict_as Text file w stale_by by = warning_line file w stale_by by
verdict_as Json file w stale_by by = json_line (verdict_object file w stale_by by)

-- the first verdict of a cause, and the cause
abbrev pub block_as : Form → List ℕ → ℕ → Cause → Warning → List ℕ → List ℕ → List ℕ
block_as Text file number cause w stale_by by = block_text file number cause w stale_by by
block_as Json file number cause w stale_by by =
    json_line (verdict_object file w stale_by by) ++ json_line (cause_object file w.line number cause)

-- what is counted of a cause
abbrev pub total_as : Form → List ℕ → ℕ → NumberedTally → List ℕ
total_as Text file line one = total_line file line one
total_as Json file line one = json_line (total_object file line one)

-- the last line
abbrev pub summary_as : Form → List ℕ → ℕ → Option ℕ → VerdictCounts → VerdictCounts → Option ℕ → List ℕ
summary_as Text file records wrong user kernel design = summary_line records wrong user kernel design
summary_as Json file records wrong user kernel design =
    json_line (summary_object file records wrong user kernel design)

-- ---- at most so many

-- the first of these, at most so many
abbrev pub at_most : {A : Type 0} → Option ℕ → List A → List A
at_most None xs = xs
at_most (Some most) xs = take most xs

-- how many more there may be, after so many
abbrev pub left_after : Option ℕ → ℕ → Option ℕ
left_after None before = None
left_after (Some most) before = Some (most - before)
