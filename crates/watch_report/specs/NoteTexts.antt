-- The notes that are kept of records.
use Rattle.std.specs.Prelude.{ℕ, Bool, true, ◌≡◌, ◌≢◌, ◌≤◌, ◌<◌, ◌-◌, ◌&&◌, nat_le, nat_lt, zero, suc, List, [], get_or, length}
use Rattle.watch_report.specs.declared.notes.TheConstants.{RECENT}
use Rattle.watch_report.specs.declared.notes.Notes.{Notes}
use Rattle.watch_report.specs.declared.texts.Texts.{Texts}
use Rattle.watch_report.specs.TextEnds.{text_in}
use Rattle.watch_report.specs.TraceText.{Noted, note_at}

-- the text at a place, from 1 on; at 0 there is none
abbrev pub text_of : Texts → ℕ → List ℕ
text_of texts place = text_in texts.bytes.items texts.ends.items place

abbrev pub note_in : Notes → ℕ → List ℕ
note_in notes zero = []
note_in notes (suc number) = text_of notes.texts (get_or notes.places.items number 0)

-- these are the notes of the records
pub record AreNotes (records : List Noted) (notes : Notes) : Type 0 where
  pub count : length notes.places.items ≡ length records
  pub within : (n : ℕ) → get_or notes.places.items n 0 ≤ length notes.texts.ends.items
  pub note : (number : ℕ) → note_in notes number ≡ note_at records number

-- ---- where a text that comes again is looked for

-- the place before another in its row; 0 before the first, and before 0
abbrev pub before_in : Notes → ℕ → ℕ
before_in notes zero = 0
before_in notes (suc place) = get_or notes.before.items place 0

-- the place so many steps back from the newest of a row
abbrev pub place_back : Notes → ℕ → ℕ → ℕ
place_back notes row zero = get_or notes.newest row 0
place_back notes row (suc steps) = before_in notes (place_back notes row steps)

-- one of the last places, of so many
abbrev pub is_recent : ℕ → ℕ → Bool
is_recent count place = nat_lt (count - RECENT) place && nat_le place count

-- no recent text of the row is this: none that so many steps back lead to, all over recent places
abbrev pub IsNoneInRow : Notes → ℕ → List ℕ → Type 0
IsNoneInRow notes row note =
    (steps : ℕ) → steps < RECENT
    → ((k : ℕ) → k ≤ steps
    → is_recent (length notes.texts.ends.items) (place_back notes row k) ≡ true)
    → text_of notes.texts (place_back notes row steps) ≢ note

-- all that is kept is as it was
pub record SameNotes (old new : Notes) : Type 0 where
  pub bytes : new.texts.bytes.items ≡ old.texts.bytes.items
  pub ends : new.texts.ends.items ≡ old.texts.ends.items
  pub before : new.before.items ≡ old.before.items
  pub newest : new.newest ≡ old.newest
  pub places : new.places.items ≡ old.places.items
