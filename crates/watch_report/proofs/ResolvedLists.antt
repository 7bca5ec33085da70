-- Lists of what is known, for a trace whose findings have some reach.
use Rattle.std.proofs.Common.{◌≡◌, ◌∙◌, ℕ, Bool, true, false, List, [], ◌∷◌, ◌++◌, Option, Some, None, Result, Ok, Err, map, refl, ap, ap₂, sym, subst}
use Rattle.std.specs.Prelude.{◌||◌, drop, get_or}
use Rattle.std.specs.List.{list_any}
use Rattle.std.specs.Option.{is_none, is_some}
use Rattle.std.proofs.lemmas.Bool.{false≢true}
use Rattle.watch_causes.specs.KnownFindings.{KnownEntry, is_of_reach, known_entry, resolved_by}
use Rattle.watch_causes.specs.KnownSoFar.{entries_by}
use Rattle.watch_causes.specs.declared.finding.Finding.{Finding}
use Rattle.watch_causes.specs.declared.known.Known.{Known}
use Rattle.watch_causes.specs.declared.reach.Reach.{Reach}
use Rattle.watch_engine.specs.declared.warning.Warning.{Warning}
use Rattle.watch_report.specs.declared.filter.Filter.{Filter}
use Rattle.watch_report.specs.declared.header.Header.{Header}
use Rattle.watch_report.specs.declared.known_list.KnownList.{KnownList}
use Rattle.watch_report.specs.declared.options.Form.{Form}
use Rattle.watch_report.specs.declared.reading_fault.ReadingFault.{ReadingFault}
use Rattle.watch_report.specs.declared.reading_fault.ReadingFault.TheVariants as Reading
use Rattle.watch_report.specs.Fields.{fields_of}
use Rattle.watch_report.specs.KnownLists.{KnownIn, known_as, known_in, known_lines, list_of}
use Rattle.watch_report.specs.Reading.{IsReadFault, report_fault_of}
use Rattle.watch_report.specs.TraceLines.{LineText, header_in}
use Rattle.watch_report.specs.TraceReaches.{IsUnread, AreReaches, AreReachesBy, AreReachesOn, asks_for_reach, known_by, reach_on, resolved}
use Rattle.watch_report.specs.TraceText.{Noted, lines_of, or_line, records_of, said_first, trace_of, with_record}
use Rattle.watch_report.specs.VerdictLines.{AreTakenBy}

-- an entry keeps its line
pub same_lines : (reach : Finding → Option Reach) (form : Form) (file : List ℕ) (known : List Known) (counts : List ℕ)
    → known_lines form file (map known_entry known) counts ≡ known_lines form file (entries_by reach known) counts
same_lines reach form file [] counts = refl
same_lines reach form file (k ∷ known) [] = refl
same_lines reach form file (k ∷ known) (n ∷ counts) = ap (λ (t : List ℕ). known_as form file k.line n ++ t) (same_lines reach form file known counts)

-- the list of the program is that of the trace
twice : (reach : Finding → Option Reach) (known : List Known) → entries_by reach known ≡ map (resolved_by reach) (map known_entry known)
twice reach [] = refl
twice reach (k ∷ known) = ap (λ (entries : List KnownEntry). resolved_by reach (known_entry k) ∷ entries) (twice reach known)

pub is_resolved : (reach : Finding → Option Reach) (known : KnownList) → known_by reach known ≡ resolved reach (known_in known)
is_resolved reach known = ap (list_of known.file.now) (twice reach known.entries.items)

-- without a test of reach it is as it was
no_test : (o : Option Reach) → is_some o ≡ false → o ≡ None
no_test None none = refl
no_test (Some r) none = absurd (false≢true (sym none))

rest_of : (a b : Bool) → (a || b) ≡ false → b ≡ false
rest_of true b is = absurd (false≢true (sym is))
rest_of false b is = is

first_of : (a b : Bool) → (a || b) ≡ false → a ≡ false
first_of true b is = is
first_of false b is = refl

same_entry : (reach : Finding → Option Reach) (k : Known) → k.reach ≡ None → resolved_by reach (known_entry k) ≡ known_entry k
same_entry reach k none =
    ap (λ (o : Option Reach). record (known_entry k) { among = λ f. is_of_reach o (reach f) }) none
    ∙ sym (ap (λ (o : Option Reach). record (known_entry k) { among = λ f. is_of_reach o None }) none)

unasked_entries : (reach : Finding → Option Reach) (known : List Known) → asks_for_reach (map known_entry known) ≡ false → entries_by reach known ≡ map known_entry known
unasked_entries reach [] none = refl
unasked_entries reach (k ∷ known) none =
    ap₂ (λ (e : KnownEntry) (es : List KnownEntry). e ∷ es)
    (same_entry reach k (no_test k.reach (first_of (is_some k.reach) (asks_for_reach (map known_entry known)) none)))
    (unasked_entries reach known (rest_of (is_some k.reach) (asks_for_reach (map known_entry known)) none))

pub asks_of : (known : List Known) → list_any (λ (k : Known). is_some k.reach) known ≡ asks_for_reach (map known_entry known)
asks_of [] = refl
asks_of (k ∷ known) = ap (λ (b : Bool). is_some k.reach || b) (asks_of known)

pub unasked : (reach : Finding → Option Reach) (known : KnownList) → asks_for_reach (map known_entry known.entries.items) ≡ false → known_by reach known ≡ known_in known
unasked reach known none = ap (list_of known.file.now) (unasked_entries reach known.entries.items none)

-- ---- the reaches of a trace

pub no_header : (filter : Filter) (text first : List ℕ) (lines : List (List ℕ)) (reach : Finding → Option Reach) → lines_of text ≡ first ∷ lines → header_in (fields_of first) ≡ None → AreReaches filter text reach
no_header filter text first lines reach is none =
    subst (λ (ls : List (List ℕ)). AreReachesBy filter (said_first (get_or ls 0 [])) (drop 1 ls) reach) (sym is)
    (subst (λ (said : Result Header (List ℕ)). AreReachesBy filter said lines reach) (sym (ap (or_line first) none)) tt)

pub reached : (filter : Filter) (text first : List ℕ) (lines : List (List ℕ)) (header : Header) (records : List Noted) (taken : List (List Warning)) (reach : Finding → Option Reach)
    → lines_of text ≡ first ∷ lines → header_in (fields_of first) ≡ Some header → records_of header lines ≡ records → AreTakenBy filter header.scheme records taken
    → ((f : Finding) → reach f ≡ reach_on header.scheme (trace_of records) taken f) → AreReaches filter text reach
reached filter text first lines header records taken reach is some are by of =
    subst (λ (ls : List (List ℕ)). AreReachesBy filter (said_first (get_or ls 0 [])) (drop 1 ls) reach) (sym is)
    (subst (λ (said : Result Header (List ℕ)). AreReachesBy filter said lines reach) (sym (ap (or_line first) some))
    (subst (λ (rs : List Noted). AreReachesOn filter header.scheme rs reach) (sym are) (taken, by, of)))

-- nothing was written where nothing could be read
pub unread : (fault : ReadingFault) (out : Option (List ℕ)) → IsReadFault fault → IsUnread (Err (report_fault_of fault)) out out
unread Reading.Unreadable out is = refl
unread Reading.Output out is = absurd is
unread Reading.BrokenPipe out is = absurd is
unread Reading.BrokenPipeWarned out is = absurd is
unread Reading.NoMemory out is = refl

-- of a line that has no form nothing is taken
pub no_record : (o : Option LineText) (number : ℕ) (records : List Noted) → is_none o ≡ true → with_record o number records ≡ records
no_record None number records none = refl
no_record (Some text) number records none = absurd (false≢true none)
