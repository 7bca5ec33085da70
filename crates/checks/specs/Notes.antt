-- What is noted of a scenario of `run` that has no fault: maps that stop before their leaf.
use Rattle.std.specs.Prelude.{ℕ, ◌+◌, ◌==◌, ◌&&◌, not, Bool, true, false, List, [], ◌∷◌, ◌++◌, codes, map, take, Option, Some, None, Result, Ok, Err, IsPermutation, if◌then◌else◌, string_bytes}
use Rattle.std.specs.Fmt.{decimal}
use Rattle.std.specs.List.{list_any}
use Rattle.toml.specs.Data.{Members}
use Rattle.toml.specs.Parse.{parse_document}
use Rattle.pte.specs.Address.{Span, level_of}
use Rattle.spaces.specs.declared.places.Place.{Place}
use Rattle.spaces.specs.Holders.{is_same_place}
use Rattle.history.specs.declared.event.Event.{Event}
use Rattle.history.specs.declared.event.Event.TheVariants.{Map}
use Rattle.history.specs.declared.reply.Reply.{Reply}
use Rattle.history.specs.declared.reply.Reply.TheVariants as reply
use Rattle.history.specs.Runs.{due_replies}
use Rattle.history.specs.Setup.{setup_of}
use Rattle.files.specs.Faults.{Failure}
use Rattle.files.specs.RunFile.{RunPlan, run_plan_of}
use Rattle.files.specs.declared.key_table.Command.{Command}
use Rattle.files.specs.declared.key_table.Command.TheVariants.{Walk, Run, Live}
use Rattle.checks.specs.Told.{command_of, is_there, most_told}
use Rattle.checks.specs.declared.printed.Told.{Told}

-- ---- a map

-- the place and the page that a `map` names, refused or not
abbrev pub mapped_by : Event → Option (Place × Span)
mapped_by (Map hart place page ppn flags) = Some (place, page)
mapped_by event = None

abbrev pub is_map : Event → Bool
is_map event = is_there (mapped_by event)

abbrev pub is_same_page : Span → Span → Bool
is_same_page a b = (a.base == b.base) && (level_of a.size == level_of b.size)

abbrev pub is_mapping_of : Place → Span → Option (Place × Span) → Bool
is_mapping_of place page None = false
is_mapping_of place page (Some other) = is_same_place other.0 place && is_same_page other.1 page

-- a `map` of this page of this place
abbrev pub is_map_of : Place → Span → Event → Bool
is_map_of place page event = is_mapping_of place page (mapped_by event)

-- a pointer to a new table was stored, and no leaf
abbrev pub is_table : Reply → Bool
is_table (reply.Table ppn) = true
is_table other = false

-- ---- where maps stop

abbrev pub is_last_of : Option (Place × Span) → List Event → Bool
is_last_of None later = false
is_last_of (Some mapped) later = not (list_any (is_map_of mapped.0 mapped.1) later)

-- a map that stored a pointer to a table, of a page that no later `map` names
abbrev pub stops_short : Event → Reply → List Event → Bool
stops_short event reply later = is_table reply && is_last_of (mapped_by event) later

-- the number of the step, if it is such a one
abbrev pub short_map : ℕ → Event → Reply → List Event → List ℕ
short_map number event reply later = if stops_short event reply later then number ∷ [] else []

-- the numbers of such steps, where the first step has this one
abbrev pub short_maps : ℕ → List Event → List Reply → List ℕ
short_maps number [] replies = []
short_maps number (event ∷ events) [] = []
short_maps number (event ∷ events) (reply ∷ replies) =
    short_map number event reply events ++ short_maps (number + 1) events replies

-- ---- the notes

abbrev pub note_text : ℕ → List ℕ
note_text number =
    codes "note: step " ++ decimal number
    ++ codes ": only a table was added, and no later `map` names this page"

abbrev pub text_of_note : Told → List ℕ
text_of_note note = string_bytes note.text

-- one note for each of these steps, in any order
abbrev pub AreNotesOn : List ℕ → List Told → Type 0
AreNotesOn numbers notes = IsPermutation (map note_text numbers) (map text_of_note notes)

-- ---- of a text

abbrev pub noted_of_plan : Result RunPlan Failure → List ℕ
noted_of_plan (Ok plan) =
    take most_told (short_maps 1 plan.events (due_replies (setup_of plan.config) [] plan.events))
noted_of_plan (Err failure) = []

abbrev pub noted_in_members : Command → Members → List ℕ
noted_in_members Walk ms = []
noted_in_members Run ms = noted_of_plan (run_plan_of ms)
noted_in_members Live ms = []

abbrev pub noted_by : Option Members → List ℕ
noted_by None = []
noted_by (Some ms) = noted_in_members (command_of ms) ms

-- the numbers of the steps of a text that have a note, the first 200 of them
abbrev pub noted_in : List ℕ → List ℕ
noted_in text = noted_by (parse_document text)
