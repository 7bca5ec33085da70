-- How the program ends on what the words ask for: on a list that was opened and read, or could not be, and
-- then on a file.
use Rattle.std.specs.Prelude.{ℕ, List, Option, None, Some, Result, Ok, Err}
use Rattle.std.specs.Io.KnownBytes.{Keeps}
use Rattle.scenario.specs.declared.task.Task.{Task}
use Rattle.scenario.specs.declared.task.Task.TheVariants.{Plain, Live, Watch, Explain, Picture}
use Rattle.scenario.specs.Command.{Ending, Ends, Reports, unreadable}
use Rattle.scenario.specs.CommandLine.{Asked}
use Rattle.scenario.specs.Commands.{live, meaning_of}
use Rattle.scenario.specs.Input.{AreLeft}
use Rattle.scenario.specs.KnownFiles.{ReadsList}
use Rattle.scenario.specs.Watches.{EndsExplain, EndsPicture, EndsWatch}
use Rattle.watch_causes.specs.KnownFindings.{KnownEntry}
use Rattle.watch_report.specs.Explaining.{asked_of}
use Rattle.watch_report.specs.KnownLists.{KnownIn, list_of, none_known}
use Rattle.watch_report.specs.Reports.{told_of}

-- on a file of these bytes, where this is known, which `watch` alone is told
abbrev pub EndsTask : Task → KnownIn → List ℕ → List ℕ → ℕ → Option (List ℕ) → Option (List ℕ)
    → Option (List ℕ) → Option (List ℕ) → Type 0
EndsTask (Plain which) known file bytes status out_old out_new err_old err_new =
    Ends (meaning_of file which) file bytes status out_old out_new err_old err_new
EndsTask Live known file bytes status out_old out_new err_old err_new =
    Ends live file bytes status out_old out_new err_old err_new
EndsTask (Watch options) known file bytes status out_old out_new err_old err_new =
    EndsWatch (told_of options known file) bytes status out_old out_new err_old err_new
EndsTask (Explain filter line) known file bytes status out_old out_new err_old err_new =
    EndsExplain (asked_of file line filter) bytes status out_old out_new err_old err_new
EndsTask (Picture filter line) known file bytes status out_old out_new err_old err_new =
    EndsPicture (asked_of file line filter) bytes status out_old out_new err_old err_new

-- without a reader the file is unreadable, and nothing is written of it
abbrev pub EndsOn : {R : Type 0} → (R → Option (List ℕ)) → Task → KnownIn → List ℕ → Option R → ℕ
    → Option (List ℕ) → Option (List ℕ) → Option (List ℕ) → Option (List ℕ) → Type 0
EndsOn remaining task known file None status out_old out_new err_old err_new =
    Reports file unreadable status err_old err_new × Keeps out_old out_new
EndsOn remaining task known file (Some reader) status out_old out_new err_old err_new =
    (bytes : List ℕ) × AreLeft (remaining reader) bytes
    × EndsTask task known file bytes status out_old out_new err_old err_new

-- ---- what is opened

-- files: what a name may be opened as, and what is then left to read
pub record Files (R : Type 0) : Type 1 where
  pub opens : List ℕ → Option R → Type 0
  pub remaining : R → Option (List ℕ)

abbrev pub files_by : {R : Type 0} → (List ℕ → Option R → Type 0) → (R → Option (List ℕ)) → Files R
files_by opens remaining = record { opens = opens; remaining = remaining }

-- on the file that is asked for
abbrev pub EndsFile : {R : Type 0} → Files R → Asked → KnownIn → ℕ → Option (List ℕ)
    → Option (List ℕ) → Option (List ℕ) → Option (List ℕ) → Type 0
EndsFile {R} files ask known status out_old out_new err_old err_new =
    (input : Option R) × files.opens ask.file input
    × EndsOn files.remaining ask.task known ask.file input status out_old out_new err_old err_new

-- by the entries of the list of this name; without them nothing is written, and no file is opened
abbrev pub EndsListed : {R : Type 0} → Files R → Asked → List ℕ → Result (List KnownEntry) Ending → ℕ
    → Option (List ℕ) → Option (List ℕ) → Option (List ℕ) → Option (List ℕ) → Type 0
EndsListed files ask list (Ok entries) status out_old out_new err_old err_new =
    EndsFile files ask (list_of list entries) status out_old out_new err_old
    err_new
EndsListed files ask list (Err ending) status out_old out_new err_old err_new =
    Reports list ending status err_old err_new × Keeps out_old out_new

-- without a list, or by one that is opened and read before the file is opened
abbrev pub EndsBy : {R L : Type 0} → Files R → Files L → Asked → Option (List ℕ) → ℕ
    → Option (List ℕ) → Option (List ℕ) → Option (List ℕ) → Option (List ℕ) → Type 0
EndsBy files lists ask None status out_old out_new err_old err_new =
    EndsFile files ask none_known status out_old out_new err_old err_new
EndsBy {R} {L} files lists ask (Some list) status out_old out_new err_old err_new =
    (input : Option L) × lists.opens list input
    × (entries : Result (List KnownEntry) Ending) × ReadsList lists.remaining input entries
    × EndsListed files ask list entries status out_old out_new err_old err_new

-- on what is asked for
abbrev pub EndsAsked : {R L : Type 0} → Files R → Files L → Asked → ℕ → Option (List ℕ)
    → Option (List ℕ) → Option (List ℕ) → Option (List ℕ) → Type 0
EndsAsked files lists ask status out_old out_new err_old err_new =
    EndsBy files lists ask ask.known status out_old out_new err_old err_new
