-- What the text of a list of what is known says: its entries, or the first line that is none.
--
--     OWNER FIRST REASON [REACH] [START SIZE] [@NOTE]
use Rattle.std.specs.Prelude.{ℕ, Bool, ◌≡◌, ◌==◌, ◌||◌, ◌+◌, nat_eq, not, codes, List, [], ◌∷◌, ◌++◌, length, true, false}
use Rattle.std.specs.Prelude.{Option, Some, None, option_map, Result, Ok, Err, if◌then◌else◌}
use denote.Ref.{Bor}
use Rattle.std.specs.List.{before_first, ends_with, find, list_any, starts_with}
use Rattle.std.specs.Option.{ok_or}
use Rattle.std.specs.Str.{bytes_eq}
use Rattle.watch.specs.declared.trace.AddressRange.{AddressRange}
use Rattle.watch_causes.specs.declared.known.Known.{Known}
use Rattle.watch_causes.specs.KnownFindings.{KnownEntry, is_of_reach, known_entry}
use Rattle.watch_causes.specs.declared.reach.Reach.{Reach}
use Rattle.watch_causes.specs.declared.reach.Reach.TheVariants.{Used as UsedReach, Reachable, NotReached}
use Rattle.watch_causes.specs.declared.reason.Reason.{Reason}
use Rattle.watch_causes.specs.declared.reason.Reason.TheVariants.{NoFlush, NoFence, OtherHarts, OtherSpaces, OtherPages, NotDone}
use Rattle.watch_report.specs.declared.known_fault.KnownError.{KnownError}
use Rattle.watch_report.specs.declared.known_fault.KnownError.TheVariants as errors
use Rattle.watch_report.specs.declared.known_fault.KnownFault.{KnownFault}
use Rattle.watch_report.specs.declared.known_fault.KnownReason.{KnownReason}
use Rattle.watch_report.specs.declared.known_fault.KnownReason.TheVariants as reasons
use Rattle.watch_report.specs.declared.known_words.KnownTests.{KnownTests}
use Rattle.watch_report.specs.CauseLines.{owner_text}
use Rattle.watch_report.specs.Fields.{fields_of, hexadecimal_field}
use Rattle.watch_report.specs.Filters.{verdict_in}
use Rattle.watch_report.specs.LineFaults.{words_after}
use Rattle.watch_report.specs.ReasonWords.{reach_word, reason_word}
use Rattle.watch_report.specs.Records.{range_at}
use Rattle.watch_report.specs.ShownNotes.{is_plain}
use Rattle.watch_report.specs.TraceLines.{before_note, begins_note, note_of}
use Rattle.watch_report.specs.TraceText.{lines_of}

-- where one thing is wrong, all is
infixl 10 ◌>>=◌
abbrev pub ◌>>=◌ : {A B E : Type 0} → Result A E → (A → Result B E) → Result B E
Ok x >>= f = f x
Err why >>= f = Err why

-- ---- words

abbrev pub owner_in : List ℕ → Option Bool
owner_in word = find (λ global. bytes_eq word (owner_text global)) (false ∷ true ∷ [])

abbrev pub reason_in : List ℕ → Option Reason
reason_in word =
    find (λ reason. bytes_eq word (reason_word reason))
    (NoFlush ∷ NoFence ∷ OtherHarts ∷ OtherSpaces ∷ OtherPages ∷ NotDone ∷ [])

abbrev pub reach_in : List ℕ → Option Reach
reach_in word =
    find (λ reach. bytes_eq word (reach_word reach)) (UsedReach ∷ Reachable ∷ NotReached ∷ [])

-- `-` is no test
abbrev pub or_any : {A : Type 0} → (List ℕ → Option A) → List ℕ → Option (Option A)
or_any read word = if bytes_eq word (codes "-") then Some None else option_map Some (read word)

-- the words that are left
abbrev pub words_of : Option (Bor (List ℕ)) → List (List ℕ)
words_of left = words_after left (λ text. text.now)

-- what the first of the words says, and the words behind it
abbrev pub next : {A : Type 0} → (List ℕ → Option A) → List (List ℕ) → Option (A × List (List ℕ))
next read [] = None
next read (word ∷ words) = option_map (λ x. (x, words)) (read word)

-- the reach, if the first of the words is one, and the words behind it
abbrev pub if_reach : Option Reach → List ℕ → List (List ℕ) → Option Reach × List (List ℕ)
if_reach None word words = (None, word ∷ words)
if_reach (Some reach) word words = (Some reach, words)

abbrev pub next_reach : List (List ℕ) → Option Reach × List (List ℕ)
next_reach [] = (None, [])
next_reach (word ∷ words) = if_reach (reach_in word) word words

abbrev pub if_last : AddressRange → List (List ℕ) → Result (Option AddressRange) KnownReason
if_last range [] = Ok (Some range)
if_last range (word ∷ words) = Err reasons.Excess

-- the addresses, if there are words for them
abbrev pub range_in : List (List ℕ) → Result (Option AddressRange) KnownReason
range_in [] = Ok None
range_in (word ∷ words) = do
  start ← ok_or (hexadecimal_field word) reasons.NoAddress
  size ← ok_or (next hexadecimal_field words) reasons.NoSize
  if_last (range_at start size.0) size.1

abbrev pub tests_in : List (List ℕ) → Result KnownTests KnownReason
tests_in words = do
  owner ← ok_or (next owner_in words) reasons.NoOwner
  first ← ok_or (next (or_any (verdict_in false)) owner.1) reasons.NoVerdict
  reason ← ok_or (next (or_any reason_in) first.1) reasons.NoReason
  range ← range_in (next_reach reason.1).1
  Ok (record {
    global = owner.0;
    first = first.0;
    reason = reason.0;
    reach = (next_reach reason.1).0;
    range = range;
  })

-- ---- a line

-- a space meets another, or stands at an end
abbrev pub has_space_too_many : List (List ℕ) → Bool
has_space_too_many words = list_any (λ word. length word == 0) words

-- of what stands before the note, if a space stands between
abbrev pub body_tests : Option (List ℕ) → Result KnownTests KnownReason
body_tests None = Err reasons.NoSpace
body_tests (Some body) =
    if has_space_too_many (fields_of body) then Err reasons.Space else tests_in (fields_of body)

-- the first byte before the note that no word has
abbrev pub other_byte : List ℕ → Option ℕ
other_byte text = find (λ byte. not (is_plain byte)) (before_first begins_note text)

abbrev pub plain_tests : List ℕ → Option ℕ → Result KnownTests KnownReason
plain_tests text (Some byte) = Err (reasons.OtherByte byte)
plain_tests text None = body_tests (before_note text)

-- a note begins as in a trace, with `@` or with `#`
abbrev pub line_tests : List ℕ → Result KnownTests KnownReason
line_tests text =
    if ends_with nat_eq text (13 ∷ []) then Err reasons.CarriageReturn
    else plain_tests text (other_byte text)

-- ---- all lines

-- an empty line, or a comment
abbrev pub is_silent : List ℕ → Bool
is_silent text = length text == 0 || starts_with nat_eq text (codes "#")

abbrev pub fault_at : ℕ → KnownReason → KnownFault
fault_at line reason = record { line = line; reason = reason }

abbrev pub entry_at : ℕ → List ℕ → KnownTests → KnownEntry
entry_at line note tests =
    record {
      line = line;
      global = tests.global;
      first = tests.first;
      reason = tests.reason;
      reach = tests.reach;
      among = λ f. is_of_reach tests.reach None;
      range = tests.range;
      note = note;
    }

-- with the number of the line
abbrev pub at_line : ℕ → List ℕ → Result KnownTests KnownReason → Result (List KnownEntry) KnownFault
at_line line note (Ok tests) = Ok (entry_at line note tests ∷ [])
at_line line note (Err reason) = Err (fault_at line reason)

-- the entry of a line, if it has one
abbrev pub line_entries : ℕ → List ℕ → Result (List KnownEntry) KnownFault
line_entries line text = if is_silent text then Ok [] else at_line line (note_of text) (line_tests text)

-- of lines, the first of which has the number
abbrev pub entries_from : ℕ → List (List ℕ) → Result (List KnownEntry) KnownFault
entries_from line [] = Ok []
entries_from line (text ∷ lines) = do
  entries ← line_entries line text
  more ← entries_from (line + 1) lines
  Ok (entries ++ more)

-- the entries in the order of their lines, from line 1 on, or the first fault
abbrev pub known_in_text : List ℕ → Result (List KnownEntry) KnownFault
known_in_text text = entries_from 1 (lines_of text)

-- the fault of the first wrong line, if it is not for want of memory
abbrev pub FailsBy : Result (List KnownEntry) KnownFault → KnownError → Type 0
FailsBy read errors.NoMemory = Unit {0}
FailsBy read (errors.Line fault) = read ≡ Err fault

-- what a line adds to the list
abbrev pub listed : Option Known → List KnownEntry
listed None = []
listed (Some known) = known_entry known ∷ []

-- the lines that are left
abbrev pub lines_left : Option (Bor (List ℕ)) → List (List ℕ)
lines_left None = []
lines_left (Some text) = lines_of text.now
