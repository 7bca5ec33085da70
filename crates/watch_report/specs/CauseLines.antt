-- What is printed of the causes of verdicts, and in which order at the end.
use Rattle.std.specs.Prelude.{ℕ, Bool, true, false, ◌≡◌, ◌+◌, ◌<◌, ◌≤◌, length, nat_lt, not, slice_index_or, if◌then◌else◌, codes, List, [], ◌∷◌, ◌++◌}
use Rattle.std.specs.Fmt.{decimal}
use Rattle.watch_causes.specs.declared.finding.Cause.{Cause}
use Rattle.watch_causes.specs.declared.reach.Reach.{Reach}
use Rattle.watch_causes.specs.declared.reason.Reason.{Reason}
use Rattle.watch_causes.specs.declared.reason.Reason.TheVariants.{NoFlush, NoFence, OtherHarts, OtherSpaces, OtherPages, NotDone}
use Rattle.watch_causes.specs.declared.tally.Tally.{Tally}
use Rattle.watch_causes.specs.declared.tally.Verdicts.{Verdicts}
use Rattle.watch_report.specs.declared.cause_line.NumberedTally.{NumberedTally}
use Rattle.watch_report.specs.declared.found.Found.{Found}
use Rattle.watch_report.specs.declared.warning.Warning.{Warning}
use Rattle.watch_report.specs.NoteGroups.{best_reach, is_reachable, is_used, of_cause}
use Rattle.watch_report.specs.Warnings.{counted_text, place_text, verdict_counts_text, verdict_text, warning_line}

-- what is global is the kernel's
abbrev pub owner_text : Bool → List ℕ
owner_text global = if global then codes "kernel" else codes "user"

-- by its ASID no fence took the translation out
abbrev pub spaces_text : Bool → List ℕ
spaces_text global =
    if global then codes "its flush fenced by ASID, which leaves global pages"
    else codes "its flush fenced another ASID"

-- of pages that are global or not
abbrev pub cause_reason_text : Bool → Reason → List ℕ
cause_reason_text global NoFlush = codes "no flush of the page has begun since"
cause_reason_text global NoFence = codes "its flush asked for no fence"
cause_reason_text global OtherHarts = codes "its flush asked for no fence on this hart"
cause_reason_text global OtherSpaces = spaces_text global
cause_reason_text global OtherPages = codes "its flush fenced other pages"
cause_reason_text global NotDone = codes "its flush asked for a fence that was not done yet"

-- OWNER pages, first VERDICT: REASON
abbrev pub cause_text : Cause → List ℕ
cause_text cause =
    owner_text cause.global ++ codes " pages, first " ++ verdict_text cause.first ++ codes ": "
    ++ cause_reason_text cause.global cause.reason

-- cause N: OWNER pages, first VERDICT: REASON
abbrev pub cause_part : ℕ → Cause → List ℕ
cause_part number cause = codes "cause " ++ decimal number ++ codes ": " ++ cause_text cause

-- the line of the first verdict of a cause, and a line of the cause
abbrev pub block_text : List ℕ → ℕ → Cause → Warning → List ℕ → List ℕ → List ℕ
block_text file number cause w stale_by by =
    warning_line file w stale_by by ++ codes "  " ++ cause_part number cause ++ codes "\n"

-- ---- its counts

-- in the order in which they are printed
abbrev pub tally_counts : Verdicts → List (List ℕ × ℕ)
tally_counts n =
    (codes "free", n.free) ∷ (codes "reuse", n.reuse) ∷ (codes "claim", n.claimed)
    ∷ (codes "use", n.used) ∷ []

-- how many findings, and how many verdicts of each kind
abbrev pub findings_part : Tally → List ℕ
findings_part t =
    codes "; " ++ counted_text t.findings (codes " finding: ") (codes " findings: ")
    ++ verdict_counts_text true (tally_counts t.verdicts)

-- FILE:LINE: cause N: OWNER pages, first VERDICT: REASON; FINDINGS: COUNTS
abbrev pub total_line : List ℕ → ℕ → NumberedTally → List ℕ
total_line file line one =
    place_text file line ++ cause_part one.number one.tally.cause ++ findings_part one.tally
    ++ codes "\n"

-- ---- the order of the causes at the end

-- what passes a test comes before what fails it; what is alike there is ordered otherwise
abbrev pub by_test : Bool → Bool → Bool → Bool
by_test a b otherwise = if a then (if b then otherwise else true) else (if b then false else otherwise)

abbrev pub is_of_users : NumberedTally → Bool
is_of_users one = not one.tally.cause.global

abbrev pub has_reuse : NumberedTally → Bool
has_reuse one = nat_lt 0 one.tally.verdicts.reuse

-- of the reach of its findings, the best
abbrev pub has_used : NumberedTally → Bool
has_used one = is_used one.reach

abbrev pub has_reachable : NumberedTally → Bool
has_reachable one = is_reachable one.reach

-- users' pages before the kernel's; then a cause with a `reuse` before one without; then used before
-- reachable before not reached; then more findings before fewer
abbrev pub comes_before : NumberedTally → NumberedTally → Bool
comes_before a b =
    by_test (is_of_users a) (is_of_users b)
    (by_test (has_reuse a) (has_reuse b)
    (by_test (has_used a) (has_used b)
    (by_test (has_reachable a) (has_reachable b) (nat_lt b.tally.findings a.tally.findings))))

-- none comes before one that stands in front of it
abbrev pub AreInOrder : List NumberedTally → Type 0
AreInOrder ones =
    (front back : ℕ) (d : NumberedTally) → front ≤ back → back < length ones
    → comes_before (slice_index_or ones back d) (slice_index_or ones front d) ≡ false

-- a cause that began before these, which are in order: it is put behind those that come before it
abbrev pub placed : NumberedTally → List NumberedTally → List NumberedTally
placed one [] = one ∷ []
placed one (next ∷ ones) =
    if comes_before next one then next ∷ placed one ones else one ∷ next ∷ ones

abbrev pub numbered : ℕ → Reach → Tally → NumberedTally
numbered number reach t = record { number = number; reach = reach; tally = t }

-- with the best reach of its findings
abbrev pub numbered_by : List Found → ℕ → Tally → NumberedTally
numbered_by founds number t = numbered number (best_reach (of_cause number founds)) t

-- in the order in which they began; the first of these has this number
abbrev pub numbered_from : List Found → ℕ → List Tally → List NumberedTally
numbered_from founds number [] = []
numbered_from founds number (t ∷ tallies) =
    numbered_by founds number t ∷ numbered_from founds (number + 1) tallies

-- the first of these has this number
abbrev pub ordered_from : List Found → ℕ → List Tally → List NumberedTally
ordered_from founds number [] = []
ordered_from founds number (t ∷ tallies) =
    placed (numbered_by founds number t) (ordered_from founds (number + 1) tallies)

-- the tallies, which come in the order in which their causes began, with these findings, in the order of
-- the end
abbrev pub ordered : List Found → List Tally → List NumberedTally
ordered founds tallies = ordered_from founds 1 tallies
