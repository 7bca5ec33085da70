-- What a walk computes that is fed the words of one memory.
use Rattle.std.specs.Prelude.{ℕ, zero, suc, ◌≡◌, ◌+◌, Result, Ok, Err}
use Rattle.pte.specs.declared.scheme.Scheme.{Scheme}
use Rattle.walk.specs.declared.found_or_trap.Found.{Found}
use Rattle.walk.specs.declared.found_or_trap.Trap.{Trap}
use Rattle.walk.specs.declared.found_or_trap.Why.TheVariants.{TooDeep}
use Rattle.walk.specs.declared.walking.Progress.{Progress}
use Rattle.walk.specs.declared.walking.Progress.TheVariants as progress
use Rattle.walk.specs.Answer.{page_trap}
use Rattle.walk.specs.Leads.{Tables, word_at}
use Rattle.walk.specs.Outcome.{Outcome}
use Rattle.walk.specs.Stage.{Stage, OnPath, IsFor}
use Rattle.walk.specs.Step.{load_of}

abbrev pub finish : (Stage → Result Found Trap) → Progress → Result Found Trap
finish go (progress.More next) = go next
finish go (progress.Found found) = Ok found
finish go (progress.Trap trap) = Err trap

-- the answer of a walk within n loads; TooDeep if it would need more
abbrev pub answer_after : ℕ → Tables → Stage → Result Found Trap
answer_after zero words s = Err (page_trap s.access TooDeep)
answer_after (suc n) words s =
    finish (answer_after n words) (load_of s (word_at words s.va s.level s.table))

-- what the word of a memory makes of a walk on its path: a walk on the path one level below, or the
-- outcome
abbrev pub GoesOn : Scheme → Tables → ℕ → Stage → Progress → Type 0
GoesOn scheme words root s (progress.More next) =
    OnPath scheme words root next × (next.level + 1 ≡ s.level) × IsFor next s.va s.access s.ctx
GoesOn scheme words root s (progress.Found found) =
    Outcome scheme words root s.va s.access s.ctx (Ok found)
GoesOn scheme words root s (progress.Trap trap) =
    Outcome scheme words root s.va s.access s.ctx (Err trap)
