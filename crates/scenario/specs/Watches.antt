-- How `watch` and `explain` end.
use Rattle.std.specs.Prelude.{ℕ, ◌≡◌, Bool, true, false, List, Option, None, Some, Result, Ok, Err, if◌then◌else◌}
use Rattle.scenario.specs.declared.trouble.Trouble.{Trouble}
use Rattle.scenario.specs.Command.{Ending, Reports, done, ending_of, no_memory, no_verdict, output_failed, unreadable, warned, wrong_line}
use Rattle.watch_report.specs.Explaining.{Asked, Explains, Gives, Tells, up_to}
use Rattle.watch_report.specs.Output.{WritesAll, WritesFront}
use Rattle.watch_report.specs.TraceReaches.{EndsJudged}
use Rattle.watch_report.specs.Reports.{Told}
use Rattle.watch_report.specs.TraceText.{body_of, fault_in, faulty_line, header_of}
use Rattle.watch_report.specs.declared.fault.ReportFault.{ReportFault}
use Rattle.watch_report.specs.declared.fault.ReportFault.TheVariants as faults
use Rattle.watch_report.specs.declared.header.Header.{Header}

-- how it ends, by what is reported of its trace: without a word where nobody reads the report any more
abbrev pub ending_of_report : Result Bool ReportFault → Ending
ending_of_report (Ok some) = if some then warned else done
ending_of_report (Err faults.Unreadable) = unreadable
ending_of_report (Err (faults.Line number fault some)) = wrong_line number fault some
ending_of_report (Err faults.Output) = output_failed
ending_of_report (Err (faults.BrokenPipe some)) = if some then warned else done
ending_of_report (Err (faults.BrokenPipeAtLine number fault some)) = wrong_line number fault some
ending_of_report (Err faults.NoMemory) = no_memory

-- by whether there is a verdict, or by what is told on standard error
abbrev pub ending_of_judged : Result Bool Trouble → Ending
ending_of_judged (Ok some) = if some then warned else done
ending_of_judged (Err trouble) = ending_of trouble

-- how it ends on a trace of this text, of which this is told: one report gives the output, the status
-- and the line on standard error
pub record EndsWatch (told : Told) (text : List ℕ) (status : ℕ)
    (out_old out_new err_old err_new : Option (List ℕ)) : Type 0 where
  pub reported : Result Bool ReportFault
  pub leaves : EndsJudged told text reported out_old out_new
  pub reports : Reports told.file (ending_of_report reported) status err_old err_new

-- ---- `explain`

-- how it ends, by what is told of the line of this number
abbrev pub ending_of_story : ℕ → Result Bool ReportFault → Ending
ending_of_story line (Ok found) = if found then done else no_verdict line
ending_of_story line (Err faults.Unreadable) = unreadable
ending_of_story line (Err (faults.Line number fault some)) = wrong_line number fault false
ending_of_story line (Err faults.Output) = output_failed
ending_of_story line (Err (faults.BrokenPipe some)) = done
ending_of_story line (Err (faults.BrokenPipeAtLine number fault some)) =
    wrong_line number fault false
ending_of_story line (Err faults.NoMemory) = no_memory

-- without a word, or by what is told on standard error
abbrev pub ending_of_told : Option Trouble → Ending
ending_of_told None = done
ending_of_told (Some trouble) = ending_of trouble

-- how it ends on a trace of this text, of a line in which these verdicts are asked for
pub record EndsExplain (asked : Asked) (text : List ℕ) (status : ℕ)
    (out_old out_new err_old err_new : Option (List ℕ)) : Type 0 where
  pub told : Result Bool ReportFault
  pub leaves : Explains asked text told out_old out_new
  pub reports : Reports asked.file (ending_of_story asked.line told) status err_old err_new

-- ---- `explain --svg`

-- a picture is written, or a beginning of it where the output ends: no clause says which text it is
abbrev pub WritesPicture : Result Bool ReportFault → Option (List ℕ) → Option (List ℕ) → Type 0
WritesPicture (Ok true) old new = WritesAll (λ picture. Unit {0}) old new
WritesPicture (Err faults.NoMemory) old new = new ≡ old
WritesPicture (Err faults.Output) old new = WritesFront (λ picture. Unit {0}) old new
WritesPicture (Err (faults.BrokenPipe some)) old new =
    (some ≡ true) × WritesFront (λ picture. Unit {0}) old new
WritesPicture _ old new = ⊥

-- a story is told, and this is its picture
abbrev pub IsPicture : Asked → Result Header (List ℕ) → List (List ℕ) → List ℕ → Type 0
IsPicture asked said lines picture = (story : List ℕ) × Tells asked said lines story

-- for what the first line says, and the lines after it up to that one: a picture is written where
-- `explain` writes a story, and nothing where it writes nothing
abbrev pub DrawsBy : Asked → Result Header (List ℕ) → List (List ℕ) → Result Bool ReportFault
    → Option (List ℕ) → Option (List ℕ) → Type 0
DrawsBy asked said lines (Ok true) old new =
    (faulty_line said lines ≡ None) × WritesAll (IsPicture asked said lines) old new
DrawsBy asked said lines (Ok false) old new =
    (faulty_line said lines ≡ None) × ¬ Gives asked said lines × (new ≡ old)
DrawsBy asked said lines (Err (faults.Line number fault some)) old new =
    (faulty_line said lines ≡ Some number) × (fault_in said lines number ≡ Some fault)
    × (some ≡ false) × (new ≡ old)
DrawsBy asked said lines (Err faults.Unreadable) old new = new ≡ old
DrawsBy asked said lines (Err faults.NoMemory) old new = new ≡ old
DrawsBy asked said lines (Err faults.Output) old new =
    (faulty_line said lines ≡ None) × WritesFront (IsPicture asked said lines) old new
DrawsBy asked said lines (Err (faults.BrokenPipe some)) old new =
    (some ≡ true) × (faulty_line said lines ≡ None)
    × WritesFront (IsPicture asked said lines) old new
DrawsBy asked said lines (Err (faults.BrokenPipeAtLine number fault some)) old new = ⊥

abbrev pub Draws : Asked → List ℕ → Result Bool ReportFault → Option (List ℕ)
    → Option (List ℕ) → Type 0
Draws asked text result old new =
    DrawsBy asked (header_of text) (up_to asked.line (body_of text)) result old new

-- how it ends on a trace of this text, of a line in which these verdicts are asked for
pub record EndsPicture (asked : Asked) (text : List ℕ) (status : ℕ)
    (out_old out_new err_old err_new : Option (List ℕ)) : Type 0 where
  pub told : Result Bool ReportFault
  pub leaves : Draws asked text told out_old out_new
  pub reports : Reports asked.file (ending_of_story asked.line told) status err_old err_new
