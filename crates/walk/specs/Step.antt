-- What a walk makes of the next word
-- (privileged manual 4.3.2, step 4: a pointer goes on one level below).
use Rattle.std.specs.Prelude.{ℕ, Bool, ◌-◌, ◌==◌, ◌||◌, if◌then◌else◌, Option, Some, None, Result, Ok}
use Rattle.std.specs.Prelude.{Err}
use Rattle.std.specs.declared.ops.ControlFlow.{ControlFlow}
use Rattle.std.specs.declared.ops.ControlFlow.TheVariants.{Continue, Break}
use Rattle.pte.specs.declared.entry.Kind.{Kind}
use Rattle.pte.specs.declared.entry.Kind.TheVariants as kinds
use Rattle.pte.specs.Entry.{kind_of, is_global}
use Rattle.walk.specs.declared.found_or_trap.Found.{Found}
use Rattle.walk.specs.declared.found_or_trap.Trap.{Trap}
use Rattle.walk.specs.declared.walking.Progress.{Progress}
use Rattle.walk.specs.declared.walking.Progress.TheVariants as progress
use Rattle.walk.specs.Stage.{Stage}
use Rattle.walk.specs.Answer.{kind_answer, outside_trap}

-- what a walk ends with
abbrev pub ended : Result Found Trap → Progress
ended (Ok found) = progress.Found found
ended (Err trap) = progress.Trap trap

-- the walk that goes on, or what it ends with
abbrev pub flow_of : Progress → ControlFlow (Result Found Trap) Stage
flow_of (progress.More next) = Continue next
flow_of (progress.Found found) = Break (Ok found)
flow_of (progress.Trap trap) = Break (Err trap)

-- the walk one level below, at a pointer's table
abbrev pub below : Stage → ℕ → Bool → Stage
below s ppn global = record s { level = s.level - 1; table = ppn; global = s.global || global }

-- a pointer above level 0 is gone to; anything else ends the walk with the answer for it
abbrev pub step_of : Stage → Kind → Progress
step_of s kinds.Invalid = ended (kind_answer s.va s.access s.ctx s.level s.global kinds.Invalid)
step_of s kinds.Reserved = ended (kind_answer s.va s.access s.ctx s.level s.global kinds.Reserved)
step_of s (kinds.Leaf ppn flags) =
    ended (kind_answer s.va s.access s.ctx s.level
    (s.global || is_global flags.0) (kinds.Leaf ppn flags))
step_of s (kinds.Table ppn global) =
    if s.level == 0
    then ended (kind_answer s.va s.access s.ctx s.level s.global (kinds.Table ppn global))
    else progress.More (below s ppn global)

-- what a load makes of a walk: by the word, or an access fault where there is none
abbrev pub load_of : Stage → Option ℕ → Progress
load_of s None = ended (Err (outside_trap s.access))
load_of s (Some word) = step_of s (kind_of word)
