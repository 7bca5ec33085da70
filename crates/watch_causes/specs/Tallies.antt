-- What is counted of each cause.
use Rattle.std.specs.Prelude.{ℕ, Bool, true, false, ◌+◌, if◌then◌else◌, List, [], ◌∷◌}
use Rattle.watch.specs.declared.trace.Verdict.{Verdict}
use Rattle.watch.specs.declared.trace.Verdict.TheVariants.{Free, Reuse, Claimed, Used}
use Rattle.watch_causes.specs.declared.finding.Cause.{Cause}
use Rattle.watch_causes.specs.declared.tally.Tally.{Tally}
use Rattle.watch_causes.specs.declared.tally.Verdicts.{Verdicts}
use Rattle.watch_causes.specs.Findings.{Judged, begins_finding, cause_with, is_same_cause}

abbrev pub more_if : Bool → ℕ → ℕ
more_if true count = count + 1
more_if false count = count

abbrev pub no_verdicts : Verdicts
no_verdicts = record { free = 0; reuse = 0; claimed = 0; used = 0 }

-- with one more
abbrev pub counted : Verdict → Verdicts → Verdicts
counted Free n = record n { free = n.free + 1 }
counted Reuse n = record n { reuse = n.reuse + 1 }
counted Claimed n = record n { claimed = n.claimed + 1 }
counted Used n = record n { used = n.used + 1 }

abbrev pub tallied : Bool → Verdict → Tally → Tally
tallied begins verdict t =
    record t { findings = more_if begins t.findings; verdicts = counted verdict t.verdicts }

abbrev pub first_tally : Cause → Bool → Judged → Tally
first_tally cause begins v =
    record {
      cause = cause;
      findings = more_if begins 0;
      verdicts = counted v.warning.verdict no_verdicts;
      example = record { number = v.number; warning = v.warning };
    }

abbrev pub is_of : Cause → Tally → Bool
is_of cause t = is_same_cause cause t.cause

-- with a verdict of the cause, which begins its finding or not: a cause that is new comes last
abbrev pub with_verdict : Cause → Bool → Judged → List Tally → List Tally
with_verdict cause begins v [] = first_tally cause begins v ∷ []
with_verdict cause begins v (t ∷ tallies) =
    if is_of cause t
    then tallied begins v.warning.verdict t ∷ tallies
    else t ∷ with_verdict cause begins v tallies

-- the tallies of the verdicts so far, the newest first: of each cause one, in the order in which they
-- began
abbrev pub tallies_of : List Judged → List Tally
tallies_of [] = []
tallies_of (newest ∷ verdicts) =
    with_verdict (cause_with newest verdicts) (begins_finding newest verdicts) newest (tallies_of verdicts)
