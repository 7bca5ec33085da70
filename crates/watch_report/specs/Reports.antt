-- What a report tells, of the verdicts that its filter takes and whose finding is not known: each verdict
-- or each cause as its record comes, and the last lines.
use Rattle.std.specs.Prelude.{ℕ, Bool, true, ◌≡◌, ◌+◌, List, [], ◌∷◌, ◌++◌, Option, Some, None, drop, length, map}
use Rattle.pte.specs.declared.scheme.Scheme.{Scheme}
use Rattle.watch_causes.specs.declared.tally.Tally.{Tally}
use Rattle.watch_causes.specs.Begins.{begun_of}
use Rattle.watch_causes.specs.Judging.{verdicts_of}
use Rattle.watch_causes.specs.KnownFindings.{counts_of as known_counts}
use Rattle.watch_causes.specs.Reaches.{reach_of}
use Rattle.watch_causes.specs.Tallies.{tallies_of}
use Rattle.watch_engine.specs.declared.warning.Warning.{Warning}
use Rattle.watch_report.specs.declared.cause_line.NumberedTally.{NumberedTally}
use Rattle.watch_report.specs.declared.detail.Detail.{Detail}
use Rattle.watch_report.specs.declared.detail.Detail.TheVariants.{Causes, Counts, Verdicts}
use Rattle.watch_report.specs.declared.filter.Filter.{Filter}
use Rattle.watch_report.specs.declared.found.Found.{Found}
use Rattle.watch_report.specs.declared.options.Form.{Form}
use Rattle.watch_report.specs.declared.options.Form.TheVariants.{Text}
use Rattle.watch_report.specs.declared.options.Options.{Options}
use Rattle.watch_report.specs.KnownLists.{KnownIn, design_sum, known_text}
use Rattle.watch_report.specs.KnownVerdicts.{has_verdict, unknown, verdicts_so_far}
use Rattle.watch_report.specs.declared.warning.Trigger.{Trigger}
use Rattle.watch_report.specs.CauseLines.{ordered}
use Rattle.watch_report.specs.Forms.{at_most, block_as, left_after, total_as}
use Rattle.watch_report.specs.NoteForms.{founds_as, notes_as}
use Rattle.watch_report.specs.NoteGroups.{founds_of, note_groups, of_cause}
use Rattle.watch_report.specs.TraceText.{Noted, line_at, note_at, trace_of}
use Rattle.watch_report.specs.VerdictLines.{AreTakenBy, printed_of, record_lines, summary_of, trigger_of, verdicts_in}

-- what a report tells, what is known to be by design, and the name of the trace
pub record Told : Type 0 where
  pub options : Options
  pub known : KnownIn
  pub file : List ℕ

-- all of it, in lines to be read
abbrev pub options_of : Detail → Filter → Options
options_of detail filter =
    record { detail = detail; filter = filter; form = Text; most = None }

abbrev pub told_of : Options → KnownIn → List ℕ → Told
told_of options known file = record { options = options; known = known; file = file }

-- at each record, of the verdicts that the filter takes those whose finding is not known
abbrev pub told_of_taken : Told → Scheme → List Noted → List (List Warning) → List (List Warning)
told_of_taken told scheme records taken = unknown told.known.entries scheme records taken

-- how many findings each entry of the list counts
abbrev pub counts_by : Told → Scheme → List Noted → List (List Warning) → List ℕ
counts_by told scheme records taken =
    known_counts told.known.entries (verdicts_so_far scheme records taken)

-- ---- by causes

-- what is counted of each cause after the records, in the order in which they began
abbrev pub tallies_after : Scheme → List Noted → List (List Warning) → List Tally
tallies_after scheme records given = tallies_of (verdicts_of scheme (trace_of records) given)

-- a block for each of these causes at the record of its first verdict; the first one has the number
abbrev pub block_lines : Form → List ℕ → ℕ → Trigger → Noted → List Noted → List Tally → List ℕ
block_lines form file number trigger newest records [] = []
block_lines form file number trigger newest records (t ∷ tallies) =
    block_as form file number t.cause (printed_of trigger newest records t.example.warning)
    (note_at records t.example.warning.stale_since) newest.by
    ++ block_lines form file (number + 1) trigger newest records tallies

abbrev pub blocks_by : Form → List ℕ → ℕ → Option Trigger → Noted → List Noted → List Tally → List ℕ
blocks_by form file number None newest records tallies = []
blocks_by form file number (Some trigger) newest records tallies =
    block_lines form file number trigger newest records tallies

-- of the causes behind the first so many
abbrev pub blocks_behind : Form → List ℕ → ℕ → Noted → List Noted → List Tally → List ℕ
blocks_behind form file before newest records tallies =
    blocks_by form file (before + 1) (trigger_of records newest.made) newest records
    (drop before tallies)

-- of the causes that begin at a record, those among the first that are told
abbrev pub record_blocks : Form → Option ℕ → List ℕ → Scheme → Noted → List Noted → List Warning
    → List (List Warning) → List ℕ
record_blocks form most file scheme newest records warnings given =
    blocks_behind form file (length (tallies_after scheme records given)) newest records
    (at_most most (tallies_after scheme (newest ∷ records) (warnings ∷ given)))

-- the findings of these causes after the records, each with its reach
abbrev pub founds_after : Scheme → List Noted → List (List Warning) → List Tally → List Found
founds_after scheme records given tallies =
    founds_of tallies (begun_of scheme (trace_of records) given)
    (map (reach_of scheme (trace_of records) given) (begun_of scheme (trace_of records) given))

-- of the findings of a cause, the notes of the records that made their pages stale
abbrev pub notes_below : Form → List ℕ → List Noted → List Found → NumberedTally → List ℕ
notes_below form file records founds one =
    notes_as form file (note_at records) one
    (note_groups (note_at records) (of_cause one.number founds))

-- a line for each cause, on the line of its first verdict, and its notes below it
abbrev pub total_lines : Form → List ℕ → List Noted → List Found → List NumberedTally → List ℕ
total_lines form file records founds [] = []
total_lines form file records founds (one ∷ ones) =
    total_as form file (line_at records one.tally.example.number) one
    ++ notes_below form file records founds one ++ total_lines form file records founds ones

-- of these causes and their findings
abbrev pub totals_of : Form → List ℕ → List Noted → List Found → List Tally → List ℕ
totals_of form file records founds tallies =
    founds_as form file records founds ++ total_lines form file records founds (ordered founds tallies)

-- after the records, of those of the causes that are told
abbrev pub totals_after : Form → List ℕ → Scheme → List Noted → List (List Warning) → List Tally → List ℕ
totals_after form file scheme records given told =
    totals_of form file records (founds_after scheme records given told) told

-- ---- by what is told

-- at a record: of verdicts as many as are left to tell after those before
abbrev pub told_by : Detail → Options → List ℕ → Scheme → Noted → List Noted → List Warning
    → List (List Warning) → List ℕ
told_by Verdicts options file scheme newest records warnings given =
    record_lines options.form file newest records
    (at_most (left_after options.most (verdicts_in given)) warnings)
told_by Causes options file scheme newest records warnings given =
    record_blocks options.form options.most file scheme newest records warnings given
told_by Counts options file scheme newest records warnings given = []

abbrev pub told_at : Options → List ℕ → Scheme → Noted → List Noted → List Warning
    → List (List Warning) → List ℕ
told_at options file scheme newest records warnings given =
    told_by options.detail options file scheme newest records warnings given

-- at each record, in the order of the records
abbrev pub told_text : Told → Scheme → List Noted → List (List Warning) → List ℕ
told_text told scheme [] given = []
told_text told scheme (newest ∷ records) [] = []
told_text told scheme (newest ∷ records) (warnings ∷ given) =
    told_text told scheme records given
    ++ told_at told.options told.file scheme newest records warnings given

-- at the end, of the causes that are told
abbrev pub totals_for : Detail → Options → List ℕ → Scheme → List Noted → List (List Warning) → List ℕ
totals_for Verdicts options file scheme records given = []
totals_for Causes options file scheme records given =
    totals_after options.form file scheme records given
    (at_most options.most (tallies_after scheme records given))
totals_for Counts options file scheme records given = []

abbrev pub totals_by : Options → List ℕ → Scheme → List Noted → List (List Warning) → List ℕ
totals_by options file scheme records given =
    totals_for options.detail options file scheme records given

-- and what is known, by how many findings each entry counts, with the last line, which says which line
-- is wrong, if one is
abbrev pub last_text : Told → Option ℕ → List ℕ → List Noted → List (List Warning) → List ℕ
last_text told wrong counts records given =
    known_text told.options.form told.options.detail told.known counts
    ++ summary_of told.options.form told.file wrong (design_sum told.known.entries counts) records given

-- of the verdicts that the filter takes
abbrev pub end_text : Told → Option ℕ → Scheme → List Noted → List (List Warning) → List ℕ
end_text told wrong scheme records taken =
    totals_by told.options told.file scheme records (told_of_taken told scheme records taken)
    ++ last_text told wrong (counts_by told scheme records taken) records (told_of_taken told scheme records taken)

-- ---- the whole

-- what is printed of the verdicts on the records
abbrev pub VerdictText : Told → Scheme → List Noted → List ℕ → Type 0
VerdictText told scheme records text =
    (taken : List (List Warning)) × AreTakenBy told.options.filter scheme records taken
    × (text ≡ told_text told scheme records (told_of_taken told scheme records taken))

-- and after that the last lines; and whether a verdict is told
abbrev pub WholeText : Told → Option ℕ → Scheme → List Noted → Bool → List ℕ → Type 0
WholeText told wrong scheme records some text =
    (taken : List (List Warning)) × AreTakenBy told.options.filter scheme records taken
    × (text ≡ told_text told scheme records (told_of_taken told scheme records taken)
    ++ end_text told wrong scheme records taken)
    × (some ≡ has_verdict (told_of_taken told scheme records taken))

-- some verdict is told
abbrev pub TellsVerdict : Told → Scheme → List Noted → Type 0
TellsVerdict told scheme records =
    (taken : List (List Warning)) × AreTakenBy told.options.filter scheme records taken
    × (has_verdict (told_of_taken told scheme records taken) ≡ true)
