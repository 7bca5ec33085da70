-- A note as it is shown. A terminal may take other bytes for commands, so each that is no printable one
-- of ASCII, and no space, stands as \xHH.
use Rattle.std.specs.Prelude.{ℕ, Bool, false, ◌==◌, ◌||◌, ◌/◌, ◌%◌, if◌then◌else◌, List, [], ◌∷◌, ◌++◌}
use Rattle.std.specs.Fmt.{digit_glyph}
use Rattle.watch_report.specs.LineFaults.{is_printable}

abbrev pub is_plain : ℕ → Bool
is_plain byte = byte == 32 || is_printable byte

abbrev pub escaped : ℕ → List ℕ
escaped byte =
    92 ∷ 120 ∷ digit_glyph false (byte / 16) ∷ digit_glyph false (byte % 16) ∷ []

abbrev pub shown_byte : ℕ → List ℕ
shown_byte byte = if is_plain byte then byte ∷ [] else escaped byte

abbrev pub shown_note : List ℕ → List ℕ
shown_note [] = []
shown_note (byte ∷ note) = shown_byte byte ++ shown_note note
