-- Each finding of a cause is counted once below it.
use Rattle.std.specs.Prelude.{ℕ, ◌≡◌, ◌+◌, List, length}
use Rattle.watch_report.specs.declared.found.Found.{Found}
use Rattle.watch_report.specs.NoteGroups.{counts_of, note_groups}
use Rattle.watch_report.specs.NoteLines.{findings_of}

-- in one group; `notes` gives the note of each record
abbrev pub notes_add_up : Type 0
notes_add_up =
    (notes : ℕ → List ℕ) (founds : List Found) → findings_of (note_groups notes founds) ≡ length founds

-- and there with one reach
abbrev pub each_has_a_reach : Type 0
each_has_a_reach =
    (founds : List Found)
    → (counts_of founds).used + (counts_of founds).reachable + (counts_of founds).not_reached
    ≡ (counts_of founds).findings
