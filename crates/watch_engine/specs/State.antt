-- The state of a translation that a hart may hold: whether the tables have it and, where they do not,
-- since when, and which verdicts it has had since then; or that it has gone.
use Rattle.std.specs.Prelude.{ℕ, Bool, true, false, not, ◌&&◌, ◌||◌, Option, Some, None, if◌then◌else◌}
use Rattle.watch.specs.declared.trace.Verdict.{Verdict}
use Rattle.watch.specs.declared.trace.Verdict.TheVariants.{Free, Reuse, Claimed, Used}
use Rattle.watch_engine.specs.declared.state.Given.{Given}
use Rattle.watch_engine.specs.declared.state.State.{State}
use Rattle.watch_engine.specs.declared.state.State.TheVariants.{Current, Gone, Stale}

-- the verdicts that are given once, of which there are flags; `Used` is given at each use
abbrev pub is_once : Verdict → Bool
is_once Free = true
is_once Reuse = true
is_once Claimed = true
is_once Used = false

abbrev pub none_given : Given
none_given = record { free = false; reuse = false; claimed = false }

abbrev pub was_given : Verdict → Given → Bool
was_given Free g = g.free
was_given Reuse g = g.reuse
was_given Claimed g = g.claimed
was_given Used g = false

-- the verdict alone, if it is given
abbrev pub alone : Verdict → Bool → Given
alone Free is = record none_given { free = is }
alone Reuse is = record none_given { reuse = is }
alone Claimed is = record none_given { claimed = is }
alone Used is = none_given

-- the verdicts of both
abbrev pub joint : Given → Given → Given
joint a b =
    record {
      free = a.free || b.free;
      reuse = a.reuse || b.reuse;
      claimed = a.claimed || b.claimed;
    }

-- it is held no more
abbrev pub is_gone : State → Bool
is_gone Current = false
is_gone (Stale given since) = false
is_gone Gone = true

-- since when it is stale
abbrev pub since_of : State → Option ℕ
since_of Current = None
since_of (Stale given since) = Some since
since_of Gone = None

-- it has had the verdict since then
abbrev pub has_had : Verdict → State → Bool
has_had verdict Current = false
has_had verdict (Stale given since) = was_given verdict given
has_had verdict Gone = false

-- after a record that may change what the tables have, by whether they have it now; what has gone
-- stays so
abbrev pub rechecked : Bool → ℕ → State → State
rechecked mapped now Current = if mapped then Current else Stale none_given now
rechecked mapped now (Stale given since) = if mapped then Current else Stale given since
rechecked mapped now Gone = Gone

-- after verdicts of it: only what is stale can have them
abbrev pub given_all : Given → State → State
given_all more Current = Current
given_all more (Stale given since) = Stale (joint more given) since
given_all more Gone = Gone

abbrev pub given_too : Verdict → State → State
given_too verdict s = given_all (alone verdict true) s

-- the state to which a recheck changes it, if it does
abbrev pub recheck_of : Bool → ℕ → State → Option State
recheck_of current now Current = if current then None else Some (Stale none_given now)
recheck_of current now (Stale given since) = if current then Some Current else None
recheck_of current now Gone = None

-- the same of a recheck of what is current alone
abbrev pub stale_of : Bool → ℕ → State → Option State
stale_of current now Current = if current then None else Some (Stale none_given now)
stale_of current now (Stale given since) = None
stale_of current now Gone = None

-- the state to which a verdict changes it, if it does
abbrev pub given_of : Verdict → State → Option State
given_of verdict Current = None
given_of verdict (Stale given since) =
    if is_once verdict && not (was_given verdict given)
    then Some (Stale (joint (alone verdict true) given) since)
    else None
given_of verdict Gone = None
