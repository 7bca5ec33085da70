-- What a command may make of a text, and how it ends by that.
use Rattle.std.specs.Prelude.{◌≡◌, ◌⊎◌, ◌≤◌, ℕ, Bool, List, length, string_bytes, Option, Some, None, Result, Ok, Err, if◌then◌else◌}
use Rattle.std.specs.Io.KnownBytes.{Appends, Keeps}
use Rattle.std.specs.Str.{IsUtf8}
use Rattle.scenario.specs.declared.outcome.Outcome.{Outcome}
use Rattle.scenario.specs.declared.finding.Finding.{Finding}
use Rattle.scenario.specs.declared.finding.Finding.TheVariants.{Nothing, StaleUsed, Faulty}
use Rattle.scenario.specs.declared.trouble.Trouble.{Trouble}
use Rattle.scenario.specs.declared.trouble.Trouble.TheVariants as troubles
use Rattle.files.specs.declared.fault.Fault.{Fault}
use Rattle.files.specs.declared.fault.Fault.TheVariants.{NoMemory}
use Rattle.files.specs.declared.fault.Fault.TheVariants as faults
use Rattle.files.specs.Faults.{Failure, failure_of}
use Rattle.scenario.specs.Command.{done, Ending, ending_of, ending_of_fault, EndsAs, explained, output_failed, Reports, stale_used}
use Rattle.scenario.specs.Commands.{Meaning}
use Rattle.scenario.specs.Limits.{most_bytes}
use Rattle.scenario.specs.Output.{AppendsFront}

-- it found this, and these lines are printed; of a faulty text by a command that explains alone
abbrev pub IsFound : Meaning → List ℕ → List ℕ → Finding → Type 0
IsFound meaning text lines Nothing = (meaning.fault text ≡ None) × meaning.Lines text lines
    × ¬ meaning.FindsUses text
IsFound meaning text lines StaleUsed = (meaning.fault text ≡ None) × meaning.Lines text lines
    × meaning.FindsUses text
IsFound meaning text lines (Faulty fault) = meaning.Explains × meaning.Lines text lines
    × (failure : Failure) × (failure_of fault ≡ Some failure)
    × (meaning.fault text ≡ Some failure)

-- why there is nothing to print: the text's first fault, or no memory
abbrev pub IsUntold : Fault → Option Failure → Type 0
IsUntold faults.Output first = ⊥
IsUntold faults.NoMemory first = Unit {0}
IsUntold fault first = first ≡ failure_of fault

-- the same; a command that explains lacks memory alone
abbrev pub IsRefused : Meaning → List ℕ → Fault → Type 0
IsRefused meaning text fault = IsUntold fault (meaning.fault text)
    × (meaning.Explains → fault ≡ NoMemory)

-- the same, or a thread could not be started
abbrev pub IsUnanswered : Meaning → List ℕ → Trouble → Type 0
IsUnanswered meaning text troubles.Usage = ⊥
IsUnanswered meaning text troubles.Unreadable = ⊥
IsUnanswered meaning text troubles.TooLarge = ⊥
IsUnanswered meaning text troubles.NoThread = meaning.StartsThreads
    × (meaning.fault text ≡ None)
IsUnanswered meaning text (troubles.Line number fault some) = ⊥
IsUnanswered meaning text (troubles.NoVerdict line) = ⊥
IsUnanswered meaning text (troubles.KnownLine fault) = ⊥
IsUnanswered meaning text (troubles.Refused fault) = IsRefused meaning text fault

-- why a run has no answers: no memory, or no thread
abbrev pub IsUnstarted : Trouble → Type 0
IsUnstarted troubles.Usage = ⊥
IsUnstarted troubles.Unreadable = ⊥
IsUnstarted troubles.TooLarge = ⊥
IsUnstarted troubles.NoThread = Unit {0}
IsUnstarted (troubles.Line number fault some) = ⊥
IsUnstarted (troubles.NoVerdict line) = ⊥
IsUnstarted (troubles.KnownLine fault) = ⊥
IsUnstarted (troubles.Refused fault) = fault ≡ NoMemory

-- ---- how the code's findings stand for endings

abbrev pub finding_by_use : Bool → Finding
finding_by_use used = if used then StaleUsed else Nothing

abbrev pub finding_of : Option Fault → Finding
finding_of None = Nothing
finding_of (Some fault) = Faulty fault

abbrev pub explained_in : Option Failure → Ending → Ending
explained_in (Some failure) other = explained failure
explained_in None other = other

abbrev pub ending_of_finding : Finding → Ending
ending_of_finding Nothing = done
ending_of_finding StaleUsed = stale_used
ending_of_finding (Faulty fault) = explained_in (failure_of fault) (ending_of_fault fault)

-- ---- files

-- what is answered of a file of these bytes: an outcome of their text; or how it may end, with
-- nothing written
abbrev pub IsAnswered : Meaning → List ℕ → Result Outcome Trouble → Type 0
IsAnswered meaning bytes (Ok outcome) = (length bytes ≤ most_bytes) × IsUtf8 bytes
    × IsFound meaning bytes (string_bytes outcome.lines) outcome.finding
IsAnswered meaning bytes (Err trouble) = (old new : Option (List ℕ)) → Keeps old new
    → EndsAs meaning bytes (ending_of trouble) old new

-- what is written of an answer that ends so
abbrev pub LeavesOf : Result Outcome Trouble → Ending → Option (List ℕ) → Option (List ℕ) → Type 0
LeavesOf (Ok outcome) ending old new =
    ((ending ≡ ending_of_finding outcome.finding) × Appends old new (string_bytes outcome.lines))
    ⊎ ((ending ≡ output_failed) × AppendsFront old new (string_bytes outcome.lines))
LeavesOf (Err trouble) ending old new = (ending ≡ ending_of trouble) × Keeps old new

pub record EndsAnswered (answered : Result Outcome Trouble) (file : List ℕ) (status : ℕ)
    (out_old out_new err_old err_new : Option (List ℕ)) : Type 0 where
  pub ending : Ending
  pub leaves : LeavesOf answered ending out_old out_new
  pub reports : Reports file ending status err_old err_new
