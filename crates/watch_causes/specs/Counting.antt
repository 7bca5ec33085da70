-- How many findings and verdicts there are, of a cause and of all.
use Rattle.std.specs.Prelude.{ℕ, Bool, false, ◌≡◌, ◌+◌, ◌&&◌, if◌then◌else◌, List, [], ◌∷◌, Option, Some, None, filter, length}
use Rattle.std.specs.List.{list_any}
use Rattle.std.specs.Option.{option_or}
use Rattle.watch.specs.declared.trace.Verdict.{Verdict}
use Rattle.watch.specs.declared.trace.Verdict.TheVariants.{Free, Reuse, Claimed, Used}
use Rattle.watch_engine.specs.declared.warning.Warning.{Warning}
use Rattle.watch_causes.specs.declared.begun.Begun.{Begun}
use Rattle.watch_causes.specs.declared.finding.Cause.{Cause}
use Rattle.watch_causes.specs.declared.finding.Finding.{Finding}
use Rattle.watch_causes.specs.declared.tally.Example.{Example}
use Rattle.watch_causes.specs.declared.tally.Tally.{Tally}
use Rattle.watch_causes.specs.declared.tally.Verdicts.{Verdicts}
use Rattle.watch_causes.specs.Findings.{Judged, begins_finding, cause_with, finding_of, is_same_cause, is_same_finding, is_same_verdict}
use Rattle.watch_causes.specs.Tallies.{is_of, more_if}

-- the next verdict belongs to the cause
abbrev pub belongs : Cause → Judged → List Judged → Bool
belongs cause next verdicts = is_same_cause cause (cause_with next verdicts)

-- findings, of which each has one verdict that begins it; of all causes, and of one
abbrev pub finding_count : List Judged → ℕ
finding_count [] = 0
finding_count (newest ∷ verdicts) = more_if (begins_finding newest verdicts) (finding_count verdicts)

abbrev pub findings_of : Cause → List Judged → ℕ
findings_of cause [] = 0
findings_of cause (newest ∷ verdicts) =
    more_if (begins_finding newest verdicts && belongs cause newest verdicts) (findings_of cause verdicts)

-- the verdicts of a kind that belong to a cause
abbrev pub verdicts_of : Cause → Verdict → List Judged → ℕ
verdicts_of cause kind [] = 0
verdicts_of cause kind (newest ∷ verdicts) =
    more_if (belongs cause newest verdicts && is_same_verdict kind newest.warning.verdict)
    (verdicts_of cause kind verdicts)

-- the first verdict that belongs to it
abbrev pub example_of : Cause → List Judged → Option Example
example_of cause [] = None
example_of cause (newest ∷ verdicts) =
    option_or (example_of cause verdicts)
    (if belongs cause newest verdicts
    then Some (record { number = newest.number; warning = newest.warning })
    else None)

-- ---- the same in a tally, where there is one

abbrev pub findings_in : Option Tally → ℕ
findings_in None = 0
findings_in (Some t) = t.findings

abbrev pub of_kind : Verdict → Verdicts → ℕ
of_kind Free n = n.free
of_kind Reuse n = n.reuse
of_kind Claimed n = n.claimed
of_kind Used n = n.used

abbrev pub verdicts_in : Verdict → Option Tally → ℕ
verdicts_in kind None = 0
verdicts_in kind (Some t) = of_kind kind t.verdicts

abbrev pub sum_of : Verdicts → ℕ
sum_of n = n.free + n.reuse + n.claimed + n.used

-- ---- the same of what has begun

-- how often the finding is among these
abbrev pub times_begun : Finding → List Begun → ℕ
times_begun f begun = length (filter (λ b. is_same_finding (finding_of b.warning) f) begun)

-- how many of these are of a cause
abbrev pub begun_of_cause : Cause → List Begun → ℕ
begun_of_cause cause begun = length (filter (λ b. is_same_cause cause b.cause) begun)

-- ---- causes, and findings

-- no two of them are of one cause
abbrev pub AreApart : List Tally → Type 0
AreApart [] = Unit {0}
AreApart (t ∷ tallies) = (list_any (is_of t.cause) tallies ≡ false) × AreApart tallies

-- two verdicts of one page, one hart and one record: they agree in this and, if the page is not global,
-- in its root and its ASID
pub record AreOfOneFinding (a b : Warning) : Type 0 where
  pub since : a.stale_since ≡ b.stale_since
  pub hart : a.hart ≡ b.hart
  pub page : a.entry.page ≡ b.entry.page
  pub global : a.entry.global ≡ b.entry.global
  pub root : a.entry.global ≡ false → a.root ≡ b.root
  pub asid : a.entry.global ≡ false → a.entry.asid ≡ b.entry.asid
