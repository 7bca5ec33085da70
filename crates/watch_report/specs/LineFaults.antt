-- Why a line has no form, and where: the first fault from the left.
use Rattle.std.specs.Prelude.{ℕ, Bool, ◌==◌, ◌&&◌, ◌||◌, ◌+◌, ◌-◌, ◌/◌, ◌%◌, ◌^◌, nat_eq, nat_lt, nat_le, not, max, codes, List, [], ◌∷◌, drop, get_or, length}
use Rattle.std.specs.Prelude.{Option, Some, None, option_map, is_some, if◌then◌else◌}
use Rattle.std.specs.Char.{digit_value}
use Rattle.std.specs.List.{before_first, list_all, position_or_len, starts_with}
use Rattle.std.specs.Str.{bytes_eq}
use Rattle.pte.specs.declared.TheConstants.{ASID_BITS}
use Rattle.pte.specs.declared.scheme.Scheme.TheVariants.{Sv39}
use Rattle.watch_report.specs.declared.header.Header.{Header}
use Rattle.watch_report.specs.declared.line_fault.LineFault.{LineFault}
use Rattle.watch_report.specs.declared.line_fault.LineReason.{LineReason}
use Rattle.watch_report.specs.declared.line_fault.LineReason.TheVariants.{EmptyStart, NoTrace, LogTime, OtherVersion, OtherHarts, OtherScheme, ByteOrderMark, ZeroByte, CarriageReturn, Tab, OtherByte, Space, OtherLetter, Missing, Excess, NotDecimal, NotHexadecimal, NotOptional, Prefixed, TooLong, NoHart, Unaligned, WideAsid, OtherMode, NoSpace}
use Rattle.watch_report.specs.declared.line_form.Field.{Field}
use Rattle.watch_report.specs.declared.line_form.FieldKind.{FieldKind}
use Rattle.watch_report.specs.declared.line_form.FieldKind.TheVariants as kinds
use Rattle.watch_report.specs.declared.line_form.LineForm.{LineForm}
use Rattle.watch_report.specs.declared.line_form.LineForm.TheVariants as forms
use Rattle.watch_report.specs.Fields.{fields_of, hexadecimal_field, number_field}
use Rattle.watch_report.specs.LineForms.{form_fields, form_of, kind_of}
use Rattle.watch_report.specs.Records.{satp_in}
use Rattle.watch_report.specs.TraceLines.{before_note, begins_note, scheme_field}

-- the first of two faults, if there is one
abbrev pub first_of : {A : Type 0} → Option A → Option A → Option A
first_of None second = second
first_of (Some fault) second = Some fault

abbrev pub unless : {A : Type 0} → Bool → A → Option A
unless test fault = if test then None else Some fault

-- ---- a word

-- why a word is no number: digits alone are too many
abbrev pub number_reason : ℕ → LineReason → List ℕ → LineReason
number_reason radix other word =
    if starts_with nat_eq word (codes "0x") || starts_with nat_eq word (codes "0X") then Prefixed
    else if list_all (λ c. nat_lt (digit_value c) radix) word then TooLong
    else other

-- why a word is no number, or what is wrong with the number
abbrev pub or_wrong : Option ℕ → LineReason → (ℕ → Option LineReason) → Option LineReason
or_wrong None why wrong = Some why
or_wrong (Some n) why wrong = wrong n

abbrev pub decimal_reason : Field → List ℕ → (ℕ → Option LineReason) → Option LineReason
decimal_reason field word wrong =
    or_wrong (number_field 10 word) (number_reason 10 (NotDecimal field) word) wrong

abbrev pub hexadecimal_reason : Field → List ℕ → (ℕ → Option LineReason) → Option LineReason
hexadecimal_reason field word wrong =
    or_wrong (hexadecimal_field word) (number_reason 16 (NotHexadecimal field) word) wrong

abbrev pub optional_reason : Field → List ℕ → (ℕ → Option LineReason) → Option LineReason
optional_reason field word wrong =
    if bytes_eq word (codes "-") then None
    else or_wrong (hexadecimal_field word) (number_reason 16 (NotOptional field) word) wrong

-- a time begins so that the log of a kernel puts before a line: `[` alone, or before a digit
abbrev pub begins_time : List ℕ → Bool
begins_time word =
    if nat_lt (length word) 2 then bytes_eq word (codes "[")
    else (get_or word 0 0 == 0x5B) && nat_lt (digit_value (get_or word 1 0)) 10

-- why the first word of a line is none that may stand there
abbrev pub first_reason : LineReason → List ℕ → LineReason
first_reason other word = if begins_time word then LogTime else other

-- why a word is none that a field may hold
abbrev pub kind_reason : Header → Field → List ℕ → FieldKind → Option LineReason
kind_reason machine field word kinds.Name =
    unless (bytes_eq word (codes "watch")) (first_reason NoTrace word)
kind_reason machine field word kinds.Version = unless (bytes_eq word (codes "1")) OtherVersion
kind_reason machine field word kinds.HartCount =
    decimal_reason field word (λ n. unless (nat_lt 0 n && nat_le n 64) (OtherHarts n))
kind_reason machine field word kinds.Scheme = unless (is_some (scheme_field word)) OtherScheme
kind_reason machine field word kinds.Hart =
    decimal_reason field word (λ n. unless (nat_lt n machine.harts) (NoHart n (machine.harts - 1)))
kind_reason machine field word kinds.WordAddress =
    hexadecimal_reason field word (λ n. unless (n % 8 == 0) (Unaligned n))
kind_reason machine field word kinds.Number = hexadecimal_reason field word (λ n. None)
kind_reason machine field word kinds.Optional = optional_reason field word (λ n. None)
kind_reason machine field word kinds.Asid =
    optional_reason field word (λ n. unless (nat_lt n (2 ^ ASID_BITS)) (WideAsid n))
kind_reason machine field word kinds.Satp =
    hexadecimal_reason field word
    (λ n. unless (is_some (satp_in machine.scheme n)) (OtherMode (n / 2 ^ 60) machine.scheme))

abbrev pub word_reason : Header → Field → List ℕ → Option LineReason
word_reason machine field word = kind_reason machine field word (kind_of field)

abbrev pub fault_at : ℕ → LineReason → LineFault
fault_at column reason = record { column = column; reason = reason }

-- words are of such bytes alone
abbrev pub is_printable : ℕ → Bool
is_printable byte = nat_lt 32 byte && nat_lt byte 127

-- where the first other byte of a word stands, from 0 on, or its length
abbrev pub first_wrong : List ℕ → ℕ
first_wrong word = position_or_len (λ byte. not (is_printable byte)) word

-- what another byte is
abbrev pub byte_reason : ℕ → LineReason
byte_reason byte =
    if byte == 0 then ZeroByte
    else if byte == 9 then Tab
    else if byte == 13 then CarriageReturn
    else OtherByte byte

-- what the first of these bytes is
abbrev pub bytes_reason : List ℕ → LineReason
bytes_reason bytes =
    if starts_with nat_eq bytes (0xEF ∷ 0xBB ∷ 0xBF ∷ []) then ByteOrderMark
    else byte_reason (get_or bytes 0 0)

-- the fault of a wrong word, before which so many bytes stand: a space too many makes an empty word,
-- and what has a byte in it that no word has is wrong at the first of these
abbrev pub wrong_word : ℕ → List ℕ → LineReason → LineFault
wrong_word before word reason =
    if length word == 0 then fault_at (max before 1) Space
    else if nat_lt (first_wrong word) (length word) then
    fault_at (before + first_wrong word + 1) (bytes_reason (drop (first_wrong word) word))
    else fault_at (before + 1) reason

abbrev pub word_fault : Header → Field → ℕ → List ℕ → Option LineFault
word_fault machine field before word =
    option_map (λ reason. wrong_word before word reason) (word_reason machine field word)

-- ---- the words of a line

-- the words after a space, if there is one
abbrev pub words_after : {A : Type 0} → Option A → (A → List ℕ) → List (List ℕ)
words_after None text = []
words_after (Some rest) text = fields_of (text rest)

-- no word stands there for the next of the fields
abbrev pub end_fault : LineForm → List Field → ℕ → Option LineFault
end_fault form [] before = None
end_fault form (field ∷ fields) before = Some (fault_at before (Missing form field))

-- the line ends at a space, behind which a word should stand
abbrev pub ends_at_space : List ℕ → List (List ℕ) → Bool
ends_at_space word words = (length word == 0) && (length words == 0)

-- the first fault of words, before which so many bytes stand: a wrong one, one too few, or one too
-- many
abbrev pub words_fault : Header → LineForm → List Field → ℕ → List (List ℕ) → Option LineFault
words_fault machine form fields before [] = end_fault form fields before
words_fault machine form [] before (word ∷ words) = Some (wrong_word before word (Excess form))
words_fault machine form (field ∷ fields) before (word ∷ words) =
    if ends_at_space word words then end_fault form (field ∷ fields) (before + 1)
    else first_of (word_fault machine field before word)
    (words_fault machine form fields (before + length word + 1) words)

-- ---- the first line

-- no field of the first line depends on a machine
abbrev pub any_machine : Header
any_machine = record { harts = 1; scheme = Sv39 }

abbrev pub header_fault : List ℕ → Option LineFault
header_fault text =
    if length text == 0 then Some (fault_at 1 EmptyStart)
    else words_fault any_machine forms.Header (form_fields forms.Header) 0 (fields_of text)

-- ---- the others

-- by the form that the letter has, if it has one
abbrev pub fields_fault : Header → List ℕ → List (List ℕ) → Option LineForm → Option LineFault
fields_fault machine letter words None =
    Some (wrong_word 0 letter (first_reason OtherLetter letter))
fields_fault machine letter words (Some form) =
    words_fault machine form (form_fields form) (length letter + 1) words

-- of the letter and the fields after it
abbrev pub record_fault : Header → List (List ℕ) → Option LineFault
record_fault machine [] = Some (fault_at 1 OtherLetter)
record_fault machine (letter ∷ words) = fields_fault machine letter words (form_of letter)

-- of what stands before the note, and then of the note
abbrev pub noted_fault : Header → List ℕ → Option (List ℕ) → Option LineFault
noted_fault machine text (Some body) = record_fault machine (fields_of body)
noted_fault machine text None =
    if position_or_len begins_note text == 0 then Some (fault_at 1 OtherLetter)
    else first_of (record_fault machine (fields_of (before_first begins_note text)))
    (Some (fault_at (position_or_len begins_note text + 1) NoSpace))

-- an empty line, a comment and a mark have none
abbrev pub fault_of : Header → List ℕ → Option LineFault
fault_of machine text =
    if length text == 0 then None
    else if starts_with nat_eq text (codes "#") then None
    else if starts_with nat_eq text (codes "m ") then None
    else noted_fault machine text (before_note text)
