-- How a command ends, by its status.
use Rattle.std.specs.Prelude.{◌≡◌, ℕ, Bool, ◌<◌, ◌≤◌, ◌⊎◌, ◌++◌, List, [], length, codes, string_bytes, Option, Some, None, if◌then◌else◌}
use Rattle.std.specs.Fmt.{decimal}
use Rattle.std.specs.Io.KnownBytes.{Keeps}
use Rattle.scenario.specs.declared.trouble.Trouble.{Trouble}
use Rattle.scenario.specs.declared.trouble.Trouble.TheVariants as troubles
use Rattle.files.specs.declared.fault.Fault.{Fault}
use Rattle.files.specs.declared.fault.Fault.TheVariants as faults
use Rattle.watch_report.specs.declared.known_fault.KnownFault.{KnownFault}
use Rattle.watch_report.specs.declared.line_fault.LineFault.{LineFault}
use Rattle.watch_report.specs.KnownFaults.{known_fault_text}
use Rattle.watch_report.specs.ReasonTexts.{line_fault_text}
use Rattle.files.specs.Faults.{Failure, not_toml, wrong_key, bad_layout, too_many, wrong_step, wrong_script, failure_text}
use Rattle.scenario.specs.Commands.{Meaning}
use Rattle.scenario.specs.Output.{AppendsFront, WritesAll, WritesFront}
use Rattle.scenario.specs.Limits.{most_bytes}
use Rattle.std.specs.Str.{IsUtf8, is_utf8}

-- the first fault of a file's bytes, if they have one: they are not UTF-8, or their text's
abbrev pub file_fault : Meaning → List ℕ → Option Failure
file_fault meaning bytes = if is_utf8 bytes then meaning.fault bytes else Some not_toml

-- whether it is said what is wrong with a faulty file, and not only its first fault
abbrev pub IsExplained : Meaning → List ℕ → Type 0
IsExplained meaning bytes = meaning.Explains × IsUtf8 bytes

-- whether there is something to print
abbrev pub IsPrinted : Meaning → List ℕ → Type 0
IsPrinted meaning bytes = (file_fault meaning bytes ≡ None) ⊎ IsExplained meaning bytes

pub data Ending : Type 0 where
  done : Ending
  stale_used : Ending
  explained : Failure → Ending
  misused : Ending
  unreadable : Ending
  too_large : Ending
  refused : Failure → Ending
  output_failed : Ending
  no_memory : Ending
  no_thread : Ending
  warned : Ending
  wrong_line : ℕ → LineFault → Bool → Ending
  no_verdict : ℕ → Ending
  wrong_entry : KnownFault → Ending

abbrev pub failure_status : Failure → ℕ
failure_status not_toml = 2
failure_status _ = 3

abbrev pub status_of : Ending → ℕ
status_of done = 0
status_of stale_used = 1
status_of (explained failure) = failure_status failure
status_of misused = 2
status_of unreadable = 2
status_of too_large = 2
status_of (refused failure) = failure_status failure
status_of output_failed = 4
status_of no_memory = 5
status_of no_thread = 5
status_of warned = 1
status_of (wrong_line number fault some) = if some then 1 else 3
status_of (no_verdict line) = 1
status_of (wrong_entry fault) = 3

abbrev pub reason : List ℕ → Ending → List ℕ
reason file done = []
reason file stale_used = []
reason file (explained failure) = failure_text failure
reason file misused = codes "usage: svsim COMMAND FILE"
reason file unreadable = codes "cannot read " ++ file
reason file too_large = codes "file too large"
reason file (refused failure) = failure_text failure
reason file output_failed = codes "output failed"
reason file no_memory = codes "no memory"
reason file no_thread = codes "no thread"
reason file warned = []
reason file (wrong_line number fault some) =
    file ++ codes ":" ++ decimal number ++ codes ":" ++ line_fault_text fault
reason file (no_verdict line) =
    file ++ codes ":" ++ decimal line ++ codes ": no such verdict"
reason file (wrong_entry fault) = file ++ codes ":" ++ known_fault_text fault

-- the line on standard error: of a line of a file as compilers write it
abbrev pub error_line : List ℕ → Ending → List ℕ
error_line file done = []
error_line file stale_used = []
error_line file warned = []
error_line file (wrong_line number fault some) =
    reason file (wrong_line number fault some) ++ codes "\n"
error_line file (no_verdict line) = reason file (no_verdict line) ++ codes "\n"
error_line file (wrong_entry fault) = reason file (wrong_entry fault) ++ codes "\n"
error_line file ending = codes "svsim: " ++ reason file ending ++ codes "\n"

-- of a file named `f`, an ending has this status and this line
abbrev pub IsTold : Ending → ℕ → List ℕ → Type 0
IsTold ending status line = (status_of ending ≡ status) × (error_line (codes "f") ending ≡ line)

-- when a file of these bytes may end so; any may be unreadable or find no memory, and a faultless
-- one for `live` no thread
abbrev pub Suits : Meaning → List ℕ → Ending → Type 0
Suits meaning bytes done = (length bytes ≤ most_bytes) × (file_fault meaning bytes ≡ None)
    × ¬ meaning.FindsUses bytes
Suits meaning bytes stale_used = (length bytes ≤ most_bytes) × (file_fault meaning bytes ≡ None)
    × meaning.FindsUses bytes
Suits meaning bytes (explained failure) = IsExplained meaning bytes × (length bytes ≤ most_bytes)
    × (file_fault meaning bytes ≡ Some failure)
Suits meaning bytes misused = ⊥
Suits meaning bytes unreadable = Unit {0}
Suits meaning bytes too_large = most_bytes < length bytes
Suits meaning bytes (refused failure) = ¬ IsExplained meaning bytes × (length bytes ≤ most_bytes)
    × (file_fault meaning bytes ≡ Some failure)
Suits meaning bytes output_failed = (length bytes ≤ most_bytes) × IsPrinted meaning bytes
Suits meaning bytes no_memory = Unit {0}
Suits meaning bytes no_thread = meaning.StartsThreads × (length bytes ≤ most_bytes)
    × (file_fault meaning bytes ≡ None)
Suits meaning bytes warned = ⊥
Suits meaning bytes (wrong_line number fault some) = ⊥
Suits meaning bytes (no_verdict line) = ⊥
Suits meaning bytes (wrong_entry fault) = ⊥

-- what was written of the lines: all, a beginning, or nothing
abbrev pub Leaves : (List ℕ → Type 0) → Ending → Option (List ℕ) → Option (List ℕ) → Type 0
Leaves Lines done old new = WritesAll Lines old new
Leaves Lines stale_used old new = WritesAll Lines old new
Leaves Lines (explained failure) old new = WritesAll Lines old new
Leaves Lines output_failed old new = WritesFront Lines old new
Leaves Lines _ old new = Keeps old new

-- the file may end so, and this is what it leaves
pub record EndsAs (meaning : Meaning) (bytes : List ℕ) (ending : Ending)
    (old new : Option (List ℕ)) : Type 0 where
  pub suits : Suits meaning bytes ending
  pub leaves : Leaves (meaning.Lines bytes) ending old new

-- what is reported of an ending: itself, or that there was no memory for its line, if it has one
abbrev pub IsToldAs : Ending → Ending → Type 0
IsToldAs done told = told ≡ done
IsToldAs stale_used told = told ≡ stale_used
IsToldAs warned told = told ≡ warned
IsToldAs ending told = (told ≡ ending) ⊎ (told ≡ no_memory)

-- the status is that of what is reported, and its line was written as far as standard error took it
pub record Reports (file : List ℕ) (ending : Ending) (status : ℕ)
    (old new : Option (List ℕ)) : Type 0 where
  pub told : Ending
  pub is_told : IsToldAs ending told
  pub status_is : status ≡ status_of told
  pub tells : AppendsFront old new (error_line file told)

-- how a command ends on a file of these bytes: one ending gives the output, the status and the line
-- on standard error
pub record Ends (meaning : Meaning) (file bytes : List ℕ) (status : ℕ)
    (out_old out_new err_old err_new : Option (List ℕ)) : Type 0 where
  pub ending : Ending
  pub ends_as : EndsAs meaning bytes ending out_old out_new
  pub reports : Reports file ending status err_old err_new

-- ---- how the code's troubles stand for endings

abbrev pub ending_of_fault : Fault → Ending
ending_of_fault faults.NotToml = refused not_toml
ending_of_fault (faults.Key name) = refused (wrong_key (string_bytes name))
ending_of_fault faults.Layout = refused bad_layout
ending_of_fault faults.TooMany = refused too_many
ending_of_fault (faults.Step n fault) = refused (wrong_step n fault)
ending_of_fault (faults.Script hart n fault) = refused (wrong_script hart n fault)
ending_of_fault faults.Output = output_failed
ending_of_fault faults.NoMemory = no_memory

abbrev pub ending_of : Trouble → Ending
ending_of troubles.Usage = misused
ending_of troubles.Unreadable = unreadable
ending_of troubles.TooLarge = too_large
ending_of troubles.NoThread = no_thread
ending_of (troubles.Line number fault some) = wrong_line number fault some
ending_of (troubles.NoVerdict line) = no_verdict line
ending_of (troubles.KnownLine fault) = wrong_entry fault
ending_of (troubles.Refused fault) = ending_of_fault fault
