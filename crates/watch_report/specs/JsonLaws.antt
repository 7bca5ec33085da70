-- Each object of JSON stands on a line of its own.
use Rattle.std.specs.Prelude.{◌≡◌, ℕ, Bool, codes, List, ◌++◌, Option}
use Rattle.json.specs.Token.{Token}
use Rattle.watch_causes.specs.declared.finding.Cause.{Cause}
use Rattle.watch_report.specs.declared.cause_line.NumberedTally.{NumberedTally}
use Rattle.watch_report.specs.declared.counts.VerdictCounts.{VerdictCounts}
use Rattle.watch_report.specs.declared.found.Found.{Found}
use Rattle.watch_report.specs.declared.note_group.NoteGroup.{NoteGroup}
use Rattle.watch_report.specs.declared.warning.Warning.{Warning}
use Rattle.watch_report.specs.JsonObjects.{cause_object, json_line, known_object, summary_object, total_object, verdict_object}
use Rattle.watch_report.specs.NoteObjects.{found_object, note_object}
use Rattle.watch_report.specs.ReadStories.{HasNoFeed}

-- its text ends in a line feed, and has no other
abbrev pub IsOnALine : List Token → Type 0
IsOnALine object =
    (text : List ℕ) × HasNoFeed text × (json_line object ≡ text ++ codes "\n")

abbrev pub each_verdict : Type 0
each_verdict =
    (file : List ℕ) (w : Warning) (stale_by by : List ℕ) → IsOnALine (verdict_object file w stale_by by)

abbrev pub each_cause : Type 0
each_cause =
    (file : List ℕ) (line number : ℕ) (cause : Cause) → IsOnALine (cause_object file line number cause)

abbrev pub each_total : Type 0
each_total =
    (file : List ℕ) (line : ℕ) (one : NumberedTally) → IsOnALine (total_object file line one)

abbrev pub each_known : Type 0
each_known = (file : List ℕ) (line findings : ℕ) → IsOnALine (known_object file line findings)

abbrev pub each_summary : Type 0
each_summary =
    (file : List ℕ) (records : ℕ) (wrong : Option ℕ) (user kernel : VerdictCounts)
    (design : Option ℕ) → IsOnALine (summary_object file records wrong user kernel design)

abbrev pub each_finding : Type 0
each_finding =
    (file : List ℕ) (line since : ℕ) (stale_by : List ℕ) (f : Found)
    → IsOnALine (found_object file line since stale_by f)

abbrev pub each_note : Type 0
each_note =
    (file : List ℕ) (number : ℕ) (by : List ℕ) (global : Bool) (g : NoteGroup)
    → IsOnALine (note_object file number by global g)
