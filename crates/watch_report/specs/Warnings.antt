-- The lines that `watch` prints.
use Rattle.std.specs.Prelude.{ℕ, Bool, true, ◌==◌, ◌&&◌, ◌+◌, codes, List, [], ◌∷◌, ◌++◌, length, false, if◌then◌else◌, Option, Some, None}
use Rattle.std.specs.Fmt.{decimal, digits}
use Rattle.pte.specs.Address.{bytes_of}
use Rattle.pte.specs.Entry.{is_user, may_execute, may_read, may_write}
use Rattle.tlb.specs.declared.store.Entry.{Entry}
use Rattle.watch.specs.declared.trace.Frames.{Frames}
use Rattle.watch.specs.declared.trace.Verdict.{Verdict}
use Rattle.watch.specs.declared.trace.Verdict.TheVariants.{Free, Reuse, Claimed, Used}
use Rattle.watch_report.specs.declared.counts.Count.{Count}
use Rattle.watch_report.specs.declared.counts.VerdictCounts.{VerdictCounts}
use Rattle.watch_report.specs.declared.warning.Trigger.{Trigger}
use Rattle.watch_report.specs.declared.warning.Trigger.TheVariants.{GivenBack, GivenOut, ClaimedSince, UsedAt}
use Rattle.watch_report.specs.declared.warning.Warning.{Warning}
use Rattle.watch_report.specs.ShownNotes.{shown_note}

-- lower case, without a prefix and leading zeros
abbrev pub hexadecimal : ℕ → List ℕ
hexadecimal n = digits 16 false n

abbrev pub verdict_text : Verdict → List ℕ
verdict_text Free = codes "free"
verdict_text Reuse = codes "reuse"
verdict_text Claimed = codes "claim"
verdict_text Used = codes "use"

-- what is global is the kernel's
abbrev pub owner_prefix : Bool → List ℕ
owner_prefix global = if global then codes "kernel-" else []

abbrev pub letter_or_dash : Bool → List ℕ → List ℕ
letter_or_dash is_set letter = if is_set then letter else codes "-"

-- R, W, X and U of the leaf, and whether it is global, by its own G or by one above it
abbrev pub letters_text : Bool → ℕ → List ℕ
letters_text global bits =
    letter_or_dash (may_read bits) (codes "r") ++ letter_or_dash (may_write bits) (codes "w")
    ++ letter_or_dash (may_execute bits) (codes "x") ++ letter_or_dash (is_user bits) (codes "u")
    ++ letter_or_dash global (codes "g")

-- an ASID or a root table; what is global is of any
abbrev pub scoped_text : Bool → ℕ → List ℕ
scoped_text global n = if global then codes "any" else hexadecimal n

-- VA+SIZE -> PPN FLAGS asid A
abbrev pub entry_text : Entry → List ℕ
entry_text e =
    hexadecimal e.page.base ++ codes "+" ++ hexadecimal (bytes_of e.page.size) ++ codes " -> "
    ++ hexadecimal e.ppn ++ codes " " ++ letters_text e.global e.flags.0 ++ codes " asid "
    ++ scoped_text e.global e.asid

-- the note of a record, if it has one
abbrev pub by_text : List ℕ → List ℕ
by_text by = if length by == 0 then [] else codes " by " ++ shown_note by

abbrev pub verdict_of : Trigger → Verdict
verdict_of (GivenBack frames) = Free
verdict_of (GivenOut frames) = Reuse
verdict_of (ClaimedSince line) = Claimed
verdict_of (UsedAt address) = Used

-- frames PPN+COUNT
abbrev pub frames_text : Frames → List ℕ
frames_text frames =
    codes "frames " ++ hexadecimal frames.first ++ codes "+" ++ hexadecimal frames.count

abbrev pub trigger_text : ℕ → Trigger → List ℕ
trigger_text hart (GivenBack frames) = frames_text frames ++ codes " given back"
trigger_text hart (GivenOut frames) = frames_text frames ++ codes " given out"
trigger_text hart (ClaimedSince line) = codes "claimed clean since line " ++ decimal line
trigger_text hart (UsedAt address) =
    codes "hart " ++ decimal hart ++ codes " uses " ++ hexadecimal address

-- FILE:LINE:
abbrev pub place_text : List ℕ → ℕ → List ℕ
place_text file line = file ++ codes ":" ++ decimal line ++ codes ": "

-- FILE:LINE: VERDICT hart
abbrev pub verdict_part : List ℕ → Warning → List ℕ
verdict_part file w =
    place_text file w.line ++ owner_prefix w.entry.global ++ verdict_text (verdict_of w.trigger)
    ++ codes " hart "

-- H may hold page VA+SIZE -> PPN FLAGS asid A root
abbrev pub holder_part : Warning → List ℕ
holder_part w =
    decimal w.hart ++ codes " may hold page " ++ entry_text w.entry ++ codes " root "

-- R, stale since line L by TEXT; with the note of the record that made the translation stale
abbrev pub since_part : Warning → List ℕ → List ℕ
since_part w stale_by =
    scoped_text w.entry.global w.root ++ codes ", stale since line " ++ decimal w.since
    ++ by_text stale_by ++ codes "; "

-- frames PPN+COUNT given back by TEXT, with the note of the record of the verdict
abbrev pub trigger_part : Warning → List ℕ → List ℕ
trigger_part w by = trigger_text w.hart w.trigger ++ by_text by ++ codes "\n"

-- of a trace in this file
abbrev pub warning_line : List ℕ → Warning → List ℕ → List ℕ → List ℕ
warning_line file w stale_by by =
    verdict_part file w ++ holder_part w ++ since_part w stale_by ++ trigger_part w by

-- ---- the last line

abbrev pub comma_text : Bool → List ℕ
comma_text is_first = if is_first then [] else codes ", "

-- a count that is not 0, with its name, after a comma where it is not the first
abbrev pub count_text : Bool → List ℕ × ℕ → List ℕ
count_text is_first c =
    if c.1 == 0 then [] else comma_text is_first ++ c.0 ++ codes " " ++ decimal c.1

abbrev pub verdict_counts_text : Bool → List (List ℕ × ℕ) → List ℕ
verdict_counts_text is_first [] = []
verdict_counts_text is_first (c ∷ counts) =
    count_text is_first c ++ verdict_counts_text (is_first && (c.1 == 0)) counts

abbrev pub printed_count : Count → List ℕ × ℕ
printed_count c = (c.name.now, c.number)

-- in the order in which they are printed: of users' translations, and of the kernel's
abbrev pub all_counts : VerdictCounts → VerdictCounts → List (List ℕ × ℕ)
all_counts user kernel =
    (codes "free", user.free) ∷ (codes "reuse", user.reuse) ∷ (codes "claim", user.claimed)
    ∷ (codes "use", user.used) ∷ (codes "kernel-free", kernel.free)
    ∷ (codes "kernel-reuse", kernel.reuse) ∷ (codes "kernel-claim", kernel.claimed)
    ∷ (codes "kernel-use", kernel.used) ∷ []

abbrev pub sum_of : VerdictCounts → ℕ
sum_of c = c.free + c.reuse + c.claimed + c.used

-- a count and the word behind it
abbrev pub counted_text : ℕ → List ℕ → List ℕ → List ℕ
counted_text n one more = decimal n ++ (if n == 1 then one else more)

-- how many verdicts, and how many of each kind
abbrev pub total_text : VerdictCounts → VerdictCounts → List ℕ
total_text user kernel =
    if sum_of user + sum_of kernel == 0 then codes "no verdict"
    else counted_text (sum_of user + sum_of kernel) (codes " verdict: ") (codes " verdicts: ")
    ++ verdict_counts_text true (all_counts user kernel)

-- where the records end, if not at the end of the trace: before the line that is wrong
abbrev pub wrong_text : Option ℕ → List ℕ
wrong_text None = []
wrong_text (Some line) = codes " before line " ++ decimal line

abbrev pub findings_text : ℕ → List ℕ
findings_text n =
    if n == 0 then codes "no finding" else counted_text n (codes " finding") (codes " findings")

-- how many findings are known to be by design, where a list says so of some
abbrev pub design_text : Option ℕ → List ℕ
design_text None = []
design_text (Some n) = codes "; " ++ findings_text n ++ codes " by design"

abbrev pub summary_line : ℕ → Option ℕ → VerdictCounts → VerdictCounts → Option ℕ → List ℕ
summary_line records wrong user kernel design =
    counted_text records (codes " record") (codes " records") ++ wrong_text wrong ++ codes ", "
    ++ total_text user kernel ++ design_text design ++ codes "\n"
