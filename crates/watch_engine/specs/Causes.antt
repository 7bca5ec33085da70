-- What verdicts are given for, and of what.
use Rattle.std.specs.Prelude.{Bool, not, ◌&&◌}
use Rattle.watch.specs.declared.trace.Verdict.{Verdict}
use Rattle.watch.specs.declared.trace.Verdict.TheVariants.{Free, Reuse, Claimed, Used}
use Rattle.watch_engine.specs.declared.cause.Cause.{Cause}
use Rattle.watch_engine.specs.declared.cause.Cause.TheVariants.{Back, Out, Claim, Access}
use Rattle.watch_engine.specs.declared.held.Held.{Held}
use Rattle.watch_engine.specs.Held.{is_claimed_by, is_exposed_by, is_given, is_used_by}

abbrev pub verdict_of : Cause → Verdict
verdict_of (Back frames) = Free
verdict_of (Out frames) = Reuse
verdict_of (Claim found) = Claimed
verdict_of (Access hart space address) = Used

-- the cause is of it
abbrev pub applies : Cause → Held → Bool
applies (Back frames) i = is_exposed_by frames i
applies (Out frames) i = is_exposed_by frames i
applies (Claim found) i = is_claimed_by found i
applies (Access hart space address) i = is_used_by hart space address i

abbrev pub is_given_by : Cause → Held → Bool
is_given_by cause i = applies cause i && not (is_given (verdict_of cause) i)
