-- A finding is what one record made stale of one page for one hart. Its cause is whether the page is
-- global, the kind of its first verdict, and the reason of that.
use Rattle.std.specs.Prelude.{ℕ, Bool, ◌==◌, ◌&&◌, if◌then◌else◌, List, [], ◌∷◌, Option, Some, None}
use Rattle.std.specs.Option.{is_none, option_or, unwrap_or}
use Rattle.std.specs.Ordering.{bool_cmp, nat_cmp, ordering_then}
use Rattle.std.specs.declared.cmp.Ordering.{Ordering}
use Rattle.pte.specs.Address.{level_of}
use Rattle.watch.specs.declared.trace.Verdict.{Verdict}
use Rattle.watch.specs.declared.trace.Verdict.TheVariants.{Free, Reuse, Claimed, Used}
use Rattle.watch.specs.Computed.{is_same}
use Rattle.watch_engine.specs.declared.warning.Warning.{Warning}
use Rattle.watch_engine.specs.Held.{own}
use Rattle.watch_causes.specs.declared.finding.Cause.{Cause}
use Rattle.watch_causes.specs.declared.finding.Finding.{Finding}
use Rattle.watch_causes.specs.declared.reason.Reason.{Reason}
use Rattle.watch_causes.specs.declared.reason.Reason.TheVariants.{NoFlush, NoFence, OtherHarts, OtherSpaces, OtherPages, NotDone}

-- ---- findings

-- the finding that a verdict belongs to: of what is global neither root nor ASID counts
abbrev pub finding_of : Warning → Finding
finding_of w =
    record {
      since = w.stale_since;
      hart = w.hart;
      base = w.entry.page.base;
      level = level_of w.entry.page.size;
      global = w.entry.global;
      asid = own w.entry.global w.entry.asid;
      root = own w.entry.global w.root;
    }

abbrev pub is_same_finding : Finding → Finding → Bool
is_same_finding a b =
    (a.since == b.since)
    && ((a.hart == b.hart)
    && ((a.base == b.base)
    && ((a.level == b.level)
    && (is_same a.global b.global && ((a.asid == b.asid) && (a.root == b.root))))))

-- the order of findings in the map
abbrev pub finding_cmp : Finding → Finding → Ordering
finding_cmp a b =
    ordering_then (nat_cmp a.since b.since)
    (ordering_then (nat_cmp a.hart b.hart)
    (ordering_then (nat_cmp a.base b.base)
    (ordering_then (nat_cmp a.level b.level)
    (ordering_then (bool_cmp a.global b.global)
    (ordering_then (nat_cmp a.asid b.asid) (nat_cmp a.root b.root))))))

-- ---- causes

abbrev pub verdict_number : Verdict → ℕ
verdict_number Free = 0
verdict_number Reuse = 1
verdict_number Claimed = 2
verdict_number Used = 3

abbrev pub is_same_verdict : Verdict → Verdict → Bool
is_same_verdict a b = verdict_number a == verdict_number b

abbrev pub reason_number : Reason → ℕ
reason_number NoFlush = 0
reason_number NoFence = 1
reason_number OtherHarts = 2
reason_number OtherSpaces = 3
reason_number OtherPages = 4
reason_number NotDone = 5

abbrev pub is_same_reason : Reason → Reason → Bool
is_same_reason a b = reason_number a == reason_number b

abbrev pub is_same_cause : Cause → Cause → Bool
is_same_cause a b =
    is_same a.global b.global && (is_same_verdict a.first b.first && is_same_reason a.reason b.reason)

-- a verdict: the number of its record, the warning, and its reason
pub record Judged : Type 0 where
  pub number : ℕ
  pub warning : Warning
  pub reason : Reason

-- the cause of a finding that begins with the verdict
abbrev pub cause_by : Judged → Cause
cause_by v =
    record { global = v.warning.entry.global; first = v.warning.verdict; reason = v.reason }

abbrev pub begins_by : Judged → Finding → Option Cause
begins_by v f = if is_same_finding (finding_of v.warning) f then Some (cause_by v) else None

-- the cause of a finding, by the verdicts so far, the newest first: its first verdict makes it
abbrev pub cause_of : List Judged → Finding → Option Cause
cause_of [] f = None
cause_of (newest ∷ verdicts) f = option_or (cause_of verdicts f) (begins_by newest f)

-- the next verdict begins its finding
abbrev pub begins_finding : Judged → List Judged → Bool
begins_finding next verdicts = is_none (cause_of verdicts (finding_of next.warning))

-- the cause that it belongs to: that of its finding
abbrev pub cause_with : Judged → List Judged → Cause
cause_with next verdicts = unwrap_or (cause_of verdicts (finding_of next.warning)) (cause_by next)
