-- The lines of a trace.
use Rattle.std.specs.Prelude.{ℕ, Bool, ◌==◌, ◌||◌, ◌-◌, nat_eq, nat_lt, nat_le, ◌&&◌, codes, List, ◌∷◌, length, take, drop}
use Rattle.std.specs.Prelude.{Option, Some, None, if◌then◌else◌}
use Rattle.std.specs.List.{after_first, before_first, position_or_len, starts_with}
use Rattle.std.specs.Str.{bytes_eq}
use Rattle.pte.specs.declared.scheme.Scheme.{Scheme}
use Rattle.pte.specs.declared.scheme.Scheme.TheVariants.{Sv39, Sv48}
use Rattle.watch.specs.declared.trace.Record.{Record}
use Rattle.watch_report.specs.declared.header.Header.{Header}
use Rattle.watch_report.specs.declared.line.Line.{Line}
use Rattle.watch_report.specs.declared.line.Line.TheVariants as lines
use Rattle.watch_report.specs.Fields.{◌>>=◌, only_if, fields_of, four_fields, hart_field, number_field}
use Rattle.watch_report.specs.Records.{record_by}

-- ---- the first line

abbrev pub scheme_field : List ℕ → Option Scheme
scheme_field field =
    if bytes_eq field (codes "sv39") then Some Sv39
    else only_if (bytes_eq field (codes "sv48")) Sv48

-- 1 to 64
abbrev pub hart_count_field : List ℕ → Option ℕ
hart_count_field field = number_field 10 field >>= λ harts. only_if (nat_lt 0 harts && nat_le harts 64) harts

-- the name of the format, and its version
abbrev pub is_format : List ℕ → List ℕ → Bool
is_format name version = bytes_eq name (codes "watch") && bytes_eq version (codes "1")

-- watch 1 HARTS SCHEME
abbrev pub header_in : List (List ℕ) → Option Header
header_in fields = do
  f ← four_fields fields
  harts ← hart_count_field f.2
  scheme ← scheme_field f.3
  only_if (is_format f.0 f.1) (record { harts = harts; scheme = scheme })

-- ---- the others

pub data LineText : Type 0 where
  record_of : Record → List ℕ → LineText
  mark_of : List ℕ → LineText
  comment : LineText
  empty : LineText

-- a note begins with `@` or with `#`, and a space stands before it
abbrev pub begins_note : ℕ → Bool
begins_note byte = byte == 64 || byte == 35

abbrev pub note_of : List ℕ → List ℕ
note_of text = after_first begins_note text

abbrev pub without_space : List ℕ → Option (List ℕ)
without_space text =
    only_if (bytes_eq (drop (length text - 1) text) (codes " ")) (take (length text - 1) text)

-- what stands before the note and its space, or all where there is no note
abbrev pub before_note : List ℕ → Option (List ℕ)
before_note text =
    if nat_lt (position_or_len begins_note text) (length text)
    then without_space (before_first begins_note text)
    else Some text

-- the letter, the hart, and the fields that the letter asks for
abbrev pub record_in : Header → List (List ℕ) → Option Record
record_in header (letter ∷ hart ∷ fields) = do
  hart ← hart_field header.harts hart
  record_by header.scheme letter hart fields
record_in header _ = None

-- a record and what its note says
abbrev pub record_line_in : Header → List ℕ → Option LineText
record_line_in header text = do
  body ← before_note text
  made ← record_in header (fields_of body)
  Some (record_of made (note_of text))

-- a mark's text is all that stands after `m` and a space
abbrev pub line_in : Header → List ℕ → Option LineText
line_in header text =
    if length text == 0 then Some empty
    else if starts_with nat_eq text (codes "#") then Some comment
    else if starts_with nat_eq text (codes "m ") then Some (mark_of (drop 2 text))
    else record_line_in header text

-- what the reader returns
abbrev pub said_by : Line → LineText
said_by (lines.Record made by) = record_of made by.now
said_by (lines.Mark text) = mark_of text.now
said_by lines.Comment = comment
said_by lines.Empty = empty
