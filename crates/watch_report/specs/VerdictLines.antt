-- The verdicts on a trace, and what is printed of them.
use Rattle.std.specs.Prelude.{ℕ, Bool, true, false, ◌≡◌, ◌+◌, ◌⊎◌, if◌then◌else◌}
use Rattle.std.specs.Prelude.{List, [], ◌∷◌, ◌++◌, length, Option, Some, None, option_map}
use Rattle.pte.specs.declared.scheme.Scheme.{Scheme}
use Rattle.watch.specs.declared.trace.Record.{Record}
use Rattle.watch.specs.declared.trace.Record.TheVariants.{GiveOut, GiveBack, ClaimEnd, Use}
use Rattle.watch.specs.declared.trace.Verdict.{Verdict}
use Rattle.watch.specs.declared.trace.Verdict.TheVariants.{Free, Reuse, Claimed, Used}
use Rattle.watch.specs.Holding.{Translation}
use Rattle.watch.specs.Trace.{Trace, claim_of}
use Rattle.watch_engine.specs.declared.warning.Warning.{Warning}
use Rattle.watch_engine.specs.Open.{claim_begun}
use Rattle.watch_engine.specs.Warnings.{AreWarnings, IsDue}
use Rattle.watch_report.specs.declared.counts.VerdictCounts.{VerdictCounts}
use Rattle.watch_report.specs.declared.filter.Filter.{Filter}
use Rattle.watch_report.specs.declared.newest.Newest.{Newest}
use Rattle.watch_report.specs.declared.options.Form.{Form}
use Rattle.watch_report.specs.declared.warning.Trigger.{Trigger}
use Rattle.watch_report.specs.declared.warning.Trigger.TheVariants.{GivenBack, GivenOut, ClaimedSince, UsedAt}
use Rattle.watch_report.specs.declared.warning.Warning.{Warning as PrintedWarning}
use Rattle.watch_report.specs.Filters.{taken, takes_of}
use Rattle.watch_report.specs.Forms.{summary_as, verdict_as}
use Rattle.watch_report.specs.Orders.{IsInOrder}
use Rattle.watch_report.specs.TraceText.{Noted, line_at, note_at, trace_of}

-- a verdict that the filter takes is given at some record of the trace, and is new there
abbrev pub GivesAt : Filter → Scheme → Record → Trace → Type 0
GivesAt filter scheme newest trace =
    (verdict : Verdict) × (hart : ℕ) × (x : Translation) × IsDue scheme verdict newest trace hart x
    × (takes_of filter verdict hart x.entry ≡ true)

abbrev pub GivesVerdict : Filter → Scheme → Trace → Type 0
GivesVerdict filter scheme [] = ⊥
GivesVerdict filter scheme (newest ∷ trace) =
    GivesAt filter scheme newest trace ⊎ GivesVerdict filter scheme trace

-- these are the warnings at each record, at the newest first
abbrev pub AreGiven : Scheme → List Noted → List (List Warning) → Type 0
AreGiven scheme [] [] = Unit {0}
AreGiven scheme [] (warnings ∷ given) = ⊥
AreGiven scheme (newest ∷ records) [] = ⊥
AreGiven scheme (newest ∷ records) (warnings ∷ given) =
    AreWarnings scheme newest.made (trace_of records) warnings × AreGiven scheme records given

abbrev pub AreInOrder : List (List Warning) → Type 0
AreInOrder [] = Unit {0}
AreInOrder (warnings ∷ given) = IsInOrder warnings × AreInOrder given

-- and these are the ones that the filter takes, in order
abbrev pub AreTakenBy : Filter → Scheme → List Noted → List (List Warning) → Type 0
AreTakenBy filter scheme records all =
    (given : List (List Warning)) × AreGiven scheme records given × (all ≡ taken filter given)
    × AreInOrder all

-- ---- their lines

-- a claim that ends, and began on this line
abbrev pub claim_trigger : List Noted → ℕ → Option Trigger
claim_trigger records token =
    option_map (λ _. ClaimedSince (line_at records (claim_begun token (trace_of records))))
    (claim_of (trace_of records) token)

-- what the kernel does at a record that may have verdicts
abbrev pub trigger_of : List Noted → Record → Option Trigger
trigger_of records (GiveBack hart frames) = Some (GivenBack frames)
trigger_of records (GiveOut hart frames) = Some (GivenOut frames)
trigger_of records (ClaimEnd hart token) = claim_trigger records token
trigger_of records (Use hart address) = Some (UsedAt address)
trigger_of records _ = None

-- a warning at the newest record, with the lines of records
abbrev pub printed_of : Trigger → Noted → List Noted → Warning → PrintedWarning
printed_of trigger newest records w =
    record {
      line = newest.line;
      hart = w.hart;
      root = w.root;
      entry = w.entry;
      since = line_at records w.stale_since;
      trigger = trigger;
    }

-- the next record, with its note and the number of its line
abbrev pub noted_by : Newest → Noted
noted_by newest = record { made = newest.made; by = newest.by.now; line = newest.line }

-- a line each, with the notes of the record since which it is stale and of the newest one
abbrev pub warning_lines : Form → List ℕ → Trigger → Noted → List Noted → List Warning → List ℕ
warning_lines form file trigger newest records [] = []
warning_lines form file trigger newest records (w ∷ warnings) =
    verdict_as form file (printed_of trigger newest records w) (note_at records w.stale_since) newest.by
    ++ warning_lines form file trigger newest records warnings

abbrev pub lines_by : Form → List ℕ → Option Trigger → Noted → List Noted → List Warning → List ℕ
lines_by form file None newest records warnings = []
lines_by form file (Some trigger) newest records warnings =
    warning_lines form file trigger newest records warnings

abbrev pub record_lines : Form → List ℕ → Noted → List Noted → List Warning → List ℕ
record_lines form file newest records warnings =
    lines_by form file (trigger_of records newest.made) newest records warnings

-- ---- their counts

-- how many verdicts there are at these records
abbrev pub verdicts_in : List (List Warning) → ℕ
verdicts_in [] = 0
verdicts_in (warnings ∷ given) = verdicts_in given + length warnings

abbrev pub no_counts : VerdictCounts
no_counts = record { free = 0; reuse = 0; claimed = 0; used = 0 }

abbrev pub with_verdict : Verdict → VerdictCounts → VerdictCounts
with_verdict Free counts = record counts { free = counts.free + 1 }
with_verdict Reuse counts = record counts { reuse = counts.reuse + 1 }
with_verdict Claimed counts = record counts { claimed = counts.claimed + 1 }
with_verdict Used counts = record counts { used = counts.used + 1 }

-- with a warning, if it is of a kernel's translation, a global one, or of a user's
abbrev pub counted : Bool → Warning → VerdictCounts → VerdictCounts
counted true w counts = if w.entry.global then with_verdict w.verdict counts else counts
counted false w counts = if w.entry.global then counts else with_verdict w.verdict counts

abbrev pub counts_after : Bool → VerdictCounts → List Warning → VerdictCounts
counts_after kernel counts [] = counts
counts_after kernel counts (w ∷ warnings) = counts_after kernel (counted kernel w counts) warnings

abbrev pub counts_of : Bool → List (List Warning) → VerdictCounts
counts_of kernel [] = no_counts
counts_of kernel (warnings ∷ given) = counts_after kernel (counts_of kernel given) warnings

-- the last line, where the line of a number may be wrong, and so many findings may be by design
abbrev pub summary_of : Form → List ℕ → Option ℕ → Option ℕ → List Noted → List (List Warning) → List ℕ
summary_of form file wrong design records given =
    summary_as form file (length records) wrong (counts_of false given) (counts_of true given) design
