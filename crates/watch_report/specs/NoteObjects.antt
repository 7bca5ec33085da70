-- The objects of JSON at the end: of each finding, and below a cause of each note.
use Rattle.std.specs.Prelude.{ℕ, Bool, if◌then◌else◌, codes, List, [], ◌∷◌, ◌++◌, map}
use Rattle.json.specs.Token.{Token, begin_array, boolean, end_array, key, null}
use Rattle.watch_report.specs.declared.found.Found.{Found}
use Rattle.watch_report.specs.declared.note_group.NoteGroup.{NoteGroup}
use Rattle.watch_report.specs.JsonObjects.{entry_fields, field, file_fields, json_line, note_value, number_value, object_of, place_fields, scoped_value, text_value}
use Rattle.watch_report.specs.NoteLines.{harts_in}
use Rattle.watch_report.specs.ReasonWords.{reach_word}
use Rattle.watch_report.specs.TraceText.{Noted, line_at, note_at}

-- a field with an array of numbers
unfoldable pub numbers_field : List ℕ → List ℕ → List Token
numbers_field name numbers =
    key name ∷ begin_array ∷ map number_value numbers ++ end_array ∷ []

-- ---- a finding

-- the line of its first verdict, its cause and its hart
unfoldable pub found_fields : List ℕ → ℕ → Found → List Token
found_fields file line f =
    place_fields (codes "finding") file line ++ field (codes "cause") (number_value f.number)
    ++ field (codes "kernel") (boolean f.begun.warning.entry.global)
    ++ field (codes "hart") (number_value f.begun.warning.hart)

-- the root table, and since which line the page is stale
unfoldable pub stale_fields : Found → ℕ → List ℕ → List Token
stale_fields f since stale_by =
    field (codes "root") (scoped_value f.begun.warning.entry.global f.begun.warning.root)
    ++ field (codes "stale_since") (number_value since)
    ++ field (codes "stale_by") (note_value stale_by)

abbrev pub found_object : List ℕ → ℕ → ℕ → List ℕ → Found → List Token
found_object file line since stale_by f =
    object_of (found_fields file line f ++ entry_fields f.begun.warning.entry
    ++ stale_fields f since stale_by ++ field (codes "reach") (text_value (reach_word f.reach)))

abbrev pub found_line : List ℕ → List Noted → Found → List ℕ
found_line file records f =
    json_line (found_object file (line_at records f.begun.number)
    (line_at records f.begun.warning.stale_since) (note_at records f.begun.warning.stale_since) f)

-- an object for each
abbrev pub found_lines : List ℕ → List Noted → List Found → List ℕ
found_lines file records [] = []
found_lines file records (f ∷ founds) =
    found_line file records f ++ found_lines file records founds

-- ---- a note

-- what is global is of no space
abbrev pub spaces_value : Bool → ℕ → Token
spaces_value global spaces = if global then null else number_value spaces

-- the cause and the note
unfoldable pub note_fields : List ℕ → ℕ → List ℕ → List Token
note_fields file number by =
    file_fields (codes "note") file ++ field (codes "cause") (number_value number)
    ++ field (codes "note") (note_value by)

unfoldable pub group_fields : Bool → NoteGroup → List Token
group_fields global g =
    field (codes "findings") (number_value g.findings) ++ field (codes "pages") (number_value g.pages)
    ++ field (codes "spaces") (spaces_value global g.spaces)
    ++ numbers_field (codes "harts") (harts_in g.harts)
    ++ numbers_field (codes "asked") (harts_in g.fenced)

unfoldable pub reach_fields : NoteGroup → List Token
reach_fields g =
    field (codes "used") (number_value g.used) ++ field (codes "reachable") (number_value g.reachable)
    ++ field (codes "not_reached") (number_value g.not_reached)

abbrev pub note_object : List ℕ → ℕ → List ℕ → Bool → NoteGroup → List Token
note_object file number by global g =
    object_of (note_fields file number by ++ group_fields global g ++ reach_fields g)

-- an object for each of a cause; `notes` gives the note of each record
abbrev pub note_objects : List ℕ → ℕ → (ℕ → List ℕ) → Bool → List NoteGroup → List ℕ
note_objects file number notes global [] = []
note_objects file number notes global (g ∷ groups) =
    json_line (note_object file number (notes g.since) global g)
    ++ note_objects file number notes global groups
