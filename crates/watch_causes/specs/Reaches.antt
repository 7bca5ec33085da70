-- Whether the hart of a finding comes back to what it may hold, before a fence takes it out. A trace
-- has the newest record first, and the oldest has the number 1.
use Rattle.std.specs.Prelude.{ℕ, Bool, true, false, ◌==◌, ◌&&◌, ◌||◌, not, nat_le, nat_lt, if◌then◌else◌, List, [], ◌∷◌, Option, Some, None, length}
use Rattle.std.specs.List.{list_any}
use Rattle.pte.specs.declared.scheme.Scheme.{Scheme}
use Rattle.tlb.specs.declared.store.Entry.{Entry}
use Rattle.tlb.specs.Fence.{is_fenced}
use Rattle.watch.specs.declared.trace.Record.{Record}
use Rattle.watch.specs.declared.trace.Record.TheVariants.{Fence, RemoteEnd}
use Rattle.watch.specs.declared.trace.RemoteFence.{RemoteFence}
use Rattle.watch.specs.declared.trace.Space.{Space}
use Rattle.watch.specs.declared.trace.Verdict.TheVariants as verdicts
use Rattle.watch.specs.Holding.{is_covered, names}
use Rattle.watch.specs.Trace.{Trace, fence_of, satp_of}
use Rattle.watch_engine.specs.declared.warning.Warning.{Warning}
use Rattle.watch_engine.specs.Open.{fence_begun}
use Rattle.watch_causes.specs.declared.begun.Begun.{Begun}
use Rattle.watch_causes.specs.declared.finding.Finding.{Finding}
use Rattle.watch_causes.specs.declared.reach.Reach.{Reach}
use Rattle.watch_causes.specs.declared.reach.Reach.TheVariants.{Used, Reachable, NotReached}
use Rattle.watch_causes.specs.Findings.{Judged, finding_of, is_same_finding, is_same_verdict}
use Rattle.watch_causes.specs.Judging.{verdicts_of}

-- ---- what takes the translation from the hart

-- a remote fence that ends takes it: it is for the hart, covers the entry, and began after the page was
-- stale, so that the hart executed it after that. It began with the record of that number
abbrev pub takes_at_end : Scheme → Warning → ℕ → Option RemoteFence → Bool
takes_at_end scheme w begun None = false
takes_at_end scheme w begun (Some fence) =
    names fence w.hart && (is_covered scheme fence w.entry && nat_lt w.stale_since begun)

-- the record after the trace takes it: a fence of the hart, or the end of a remote fence
abbrev pub takes : Scheme → Warning → Record → Trace → Bool
takes scheme w (Fence of rs1 rs2) trace = (of == w.hart) && is_fenced scheme rs1 rs2 w.entry
takes scheme w (RemoteEnd of token) trace =
    takes_at_end scheme w (fence_begun token trace) (fence_of trace token)
takes scheme w _ trace = false

-- no record behind the one of that number takes it
abbrev pub is_left : Scheme → Warning → ℕ → Trace → Bool
is_left scheme w number [] = true
is_left scheme w number (newest ∷ trace) =
    not (nat_le number (length trace) && takes scheme w newest trace) && is_left scheme w number trace

-- ---- coming back

-- an access by the hart may use the entry, by its ASID; one that is global, in each address space
abbrev pub is_under : Entry → Option Space → Bool
is_under e None = false
is_under e (Some space) = e.global || (space.asid == e.asid)

-- it can at the newest record
abbrev pub is_back : Scheme → Warning → ℕ → Trace → Bool
is_back scheme w number trace =
    is_left scheme w number trace && is_under w.entry (satp_of trace w.hart)

-- it can at the record of that number, or at a later one
abbrev pub comes_back : Scheme → Warning → ℕ → Trace → Bool
comes_back scheme w number [] = false
comes_back scheme w number (newest ∷ trace) =
    comes_back scheme w number trace
    || (nat_le number (length (newest ∷ trace)) && is_back scheme w number (newest ∷ trace))

-- ---- reach

-- a verdict of the finding is a use
abbrev pub is_use_of : Finding → Judged → Bool
is_use_of f v =
    is_same_verdict v.warning.verdict verdicts.Used && is_same_finding (finding_of v.warning) f

abbrev pub is_used : List Judged → Finding → Bool
is_used verdicts f = list_any (is_use_of f) verdicts

abbrev pub reach_by : Bool → Bool → Reach
reach_by used back = if used then Used else if back then Reachable else NotReached

-- the reach of a finding on a trace, by the verdicts on it
abbrev pub reach_among : Scheme → Trace → List Judged → Begun → Reach
reach_among scheme trace verdicts b =
    reach_by (is_used verdicts (finding_of b.warning)) (comes_back scheme b.warning b.number trace)

-- by the warnings at each record
abbrev pub reach_of : Scheme → Trace → List (List Warning) → Begun → Reach
reach_of scheme trace given b = reach_among scheme trace (verdicts_of scheme trace given) b
