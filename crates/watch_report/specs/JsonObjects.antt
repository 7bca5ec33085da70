-- The objects of JSON (RFC 8259) that `watch` prints, one on each line.
use Rattle.std.specs.Prelude.{ℕ, Bool, ◌==◌, if◌then◌else◌, codes, List, [], ◌∷◌, ◌++◌, length, Option, Some, None}
use Rattle.std.specs.Fmt.{decimal}
use Rattle.std.specs.Str.Lossy.{utf8_lossy}
use Rattle.json.specs.Token.{Token, begin_object, end_object, key, string, number, boolean, null}
use Rattle.json.specs.Print.{print}
use Rattle.pte.specs.Address.{bytes_of}
use Rattle.tlb.specs.declared.store.Entry.{Entry}
use Rattle.watch.specs.declared.trace.Frames.{Frames}
use Rattle.watch_causes.specs.declared.finding.Cause.{Cause}
use Rattle.watch_causes.specs.declared.tally.Verdicts.{Verdicts}
use Rattle.watch_report.specs.declared.cause_line.NumberedTally.{NumberedTally}
use Rattle.watch_report.specs.declared.counts.VerdictCounts.{VerdictCounts}
use Rattle.watch_report.specs.declared.warning.Trigger.{Trigger}
use Rattle.watch_report.specs.declared.warning.Trigger.TheVariants.{GivenBack, GivenOut, ClaimedSince, UsedAt}
use Rattle.watch_report.specs.declared.warning.Warning.{Warning}
use Rattle.watch_report.specs.ReasonWords.{reason_word}
use Rattle.watch_report.specs.Warnings.{hexadecimal, letters_text, verdict_of, verdict_text}

-- ---- values

-- a string of these bytes; each sequence of them that is not UTF-8 becomes U+FFFD
abbrev pub text_value : List ℕ → Token
text_value bytes = string (utf8_lossy bytes)

abbrev pub number_value : ℕ → Token
number_value n = number (decimal n)

-- a string of the digits
abbrev pub hexadecimal_value : ℕ → Token
hexadecimal_value n = text_value (hexadecimal n)

-- the note of a record, or null if it has none
abbrev pub note_value : List ℕ → Token
note_value by = if length by == 0 then null else text_value by

-- an ASID or a root table; what is global is of any
abbrev pub scoped_value : Bool → ℕ → Token
scoped_value global n = if global then null else hexadecimal_value n

-- a number, or null if there is none
abbrev pub optional_value : Option ℕ → Token
optional_value None = null
optional_value (Some n) = number_value n

-- ---- objects and lines

unfoldable pub field : List ℕ → Token → List Token
field name value = key name ∷ value ∷ []

abbrev pub object_of : List Token → List Token
object_of fields = begin_object ∷ fields ++ end_object ∷ []

-- a line feed ends the line
abbrev pub json_line : List Token → List ℕ
json_line object = print object ++ codes "\n"

-- which type of object it is, and the file that it is of
abbrev pub file_fields : List ℕ → List ℕ → List Token
file_fields type file = field (codes "type") (text_value type) ++ field (codes "file") (text_value file)

-- and the line of the file
abbrev pub place_fields : List ℕ → List ℕ → ℕ → List Token
place_fields type file line = file_fields type file ++ field (codes "line") (number_value line)

-- ---- a verdict

-- its place and the verdict; what is global is the kernel's
unfoldable pub verdict_fields : List ℕ → Warning → List Token
verdict_fields file w =
    place_fields (codes "verdict") file w.line
    ++ field (codes "verdict") (text_value (verdict_text (verdict_of w.trigger)))
    ++ field (codes "kernel") (boolean w.entry.global) ++ field (codes "hart") (number_value w.hart)

-- the translation that the hart may hold
unfoldable pub entry_fields : Entry → List Token
entry_fields e =
    field (codes "page") (hexadecimal_value e.page.base)
    ++ field (codes "size") (hexadecimal_value (bytes_of e.page.size))
    ++ field (codes "frame") (hexadecimal_value e.ppn)
    ++ field (codes "flags") (text_value (letters_text e.global e.flags.0))
    ++ field (codes "asid") (scoped_value e.global e.asid)

-- the root table, and since when the translation is stale
unfoldable pub since_fields : Warning → List ℕ → List Token
since_fields w stale_by =
    field (codes "root") (scoped_value w.entry.global w.root)
    ++ field (codes "stale_since") (number_value w.since)
    ++ field (codes "stale_by") (note_value stale_by)

abbrev pub frames_fields : Frames → List Token
frames_fields frames =
    field (codes "frames") (hexadecimal_value frames.first)
    ++ field (codes "count") (hexadecimal_value frames.count)

-- what the kernel did
abbrev pub trigger_fields : Trigger → List Token
trigger_fields (GivenBack frames) = frames_fields frames
trigger_fields (GivenOut frames) = frames_fields frames
trigger_fields (ClaimedSince line) = field (codes "claimed_since") (number_value line)
trigger_fields (UsedAt address) = field (codes "address") (hexadecimal_value address)

-- with the notes of the record that made the translation stale and of the record of the verdict
abbrev pub verdict_object : List ℕ → Warning → List ℕ → List ℕ → List Token
verdict_object file w stale_by by =
    object_of (verdict_fields file w ++ entry_fields w.entry ++ since_fields w stale_by
    ++ trigger_fields w.trigger ++ field (codes "by") (note_value by))

-- ---- a cause

-- the line of its first verdict, its number, and what it is
unfoldable pub cause_fields : List ℕ → List ℕ → ℕ → ℕ → Cause → List Token
cause_fields type file line ordinal cause =
    place_fields type file line ++ field (codes "cause") (number_value ordinal)
    ++ field (codes "kernel") (boolean cause.global)
    ++ field (codes "first") (text_value (verdict_text cause.first))
    ++ field (codes "reason") (text_value (reason_word cause.reason))

-- where it begins
abbrev pub cause_object : List ℕ → ℕ → ℕ → Cause → List Token
cause_object file line ordinal cause = object_of (cause_fields (codes "cause") file line ordinal cause)

-- how many verdicts of each kind
unfoldable pub counts_fields : VerdictCounts → List Token
counts_fields n =
    field (codes "free") (number_value n.free) ++ field (codes "reuse") (number_value n.reuse)
    ++ field (codes "claim") (number_value n.claimed) ++ field (codes "use") (number_value n.used)

abbrev pub counts_of_cause : Verdicts → VerdictCounts
counts_of_cause n = record { free = n.free; reuse = n.reuse; claimed = n.claimed; used = n.used }

-- how many findings, and how many verdicts of each kind
abbrev pub total_object : List ℕ → ℕ → NumberedTally → List Token
total_object file line one =
    object_of (cause_fields (codes "total") file line one.number one.tally.cause
    ++ field (codes "findings") (number_value one.tally.findings)
    ++ counts_fields (counts_of_cause one.tally.verdicts))

-- ---- at the end

-- an entry of a list of what is known, which stands on this line of the list, and its findings
abbrev pub known_object : List ℕ → ℕ → ℕ → List Token
known_object file line findings =
    object_of (place_fields (codes "known") file line ++ field (codes "findings") (number_value findings))

-- an object of the counts
abbrev pub counts_field : List ℕ → VerdictCounts → List Token
counts_field name n = key name ∷ object_of (counts_fields n)

-- the last line: of users' translations, and of the kernel's; and how many findings are by design, where
-- a list says so of some
abbrev pub summary_object : List ℕ → ℕ → Option ℕ → VerdictCounts → VerdictCounts → Option ℕ → List Token
summary_object file records wrong user kernel design =
    object_of (file_fields (codes "summary") file ++ field (codes "records") (number_value records)
    ++ field (codes "before_line") (optional_value wrong)
    ++ counts_field (codes "user") user ++ counts_field (codes "kernel") kernel
    ++ field (codes "by_design") (optional_value design))
