-- What is printed of a scenario.
use Rattle.std.specs.Prelude.{◌≡◌, ◌↔◌, ℕ, Bool, true, List, [], length, map, Option, None, Result, Ok, Err}
use Rattle.board.specs.Reports.{pairs_of}
use Rattle.board.specs.declared.report.PairReport.{PairReport}
use Rattle.harts.specs.declared.live_reply.LiveReply.{LiveReply}
use Rattle.harts.specs.Scripts.{are_made, AreAnswered}
use Rattle.history.specs.Runs.{due_replies}
use Rattle.history.specs.Setup.{setup_of}
use Rattle.lines.specs.AnswerLines.{WritesLines}
use Rattle.scenario.specs.LiveLines.{live_lines}
use Rattle.lines.specs.ReplyLines.{reply_lines}
use Rattle.files.specs.Faults.{Failure}
use Rattle.files.specs.LiveFile.{LivePlan}
use Rattle.files.specs.RunFile.{RunPlan}
use Rattle.files.specs.WalkFile.{WalkPlan}
use Rattle.stale.specs.Told.{UsedBy}
use Rattle.scenario.specs.Printed.{Prints as PrintsItems}
use Rattle.tlb.specs.Mappings.{Mapping}
use Rattle.lines.specs.Sheet.{Shows}
use Rattle.checks.specs.Lines.{IsInOrder, told_line}
use Rattle.checks.specs.Notes.{AreNotesOn, noted_in}
use Rattle.checks.specs.Shown.{shown_name}
use Rattle.checks.specs.Told.{name_by, whole_text}
use Rattle.checks.specs.declared.printed.Told.{Told}
use Rattle.toml.specs.Parse.{parse_document}

-- what `walk` prints: the lines of the answers of its steps, over the memory that the file
-- describes
abbrev pub Prints : WalkPlan → List ℕ → Type 0
Prints plan lines = WritesLines plan.scheme plan.tables plan.root 1 plan.steps lines

-- what `run` prints: the lines of the replies that are due to its steps, from the opening on
abbrev pub PrintsReplies : RunPlan → List ℕ → Type 0
PrintsReplies plan lines = lines ≡ reply_lines (due_replies (setup_of plan.config) [] plan.events)

-- a run of the plan may answer so: each step of the setup was made and has its reply, each hart has
-- answered its script, up to its end or to the step before which it was halted, and each mailbox is
-- reported once, by sender and then by receiver
pub record AreAnswers (plan : LivePlan) (setup : List LiveReply) (scripts : List (List LiveReply))
    (pairs : List PairReport) : Type 0 where
  pub setup_count : length setup ≡ length plan.setup
  pub setup_made : are_made (map (λ step. step.1) plan.setup) setup ≡ true
  pub script_count : length scripts ≡ plan.config.harts
  pub answered : AreAnswered plan.scripts scripts
  pub pairs_are : map (λ pair. (pair.sender, pair.receiver)) pairs
      ≡ pairs_of plan.config.harts plan.config.harts

-- what `live` prints: the lines of the answers of some run; what the threads do when, no clause
-- says
pub record PrintsLive (plan : LivePlan) (lines : List ℕ) : Type 0 where
  pub setup : List LiveReply
  pub scripts : List (List LiveReply)
  pub pairs : List PairReport
  pub are_answers : AreAnswers plan setup scripts pairs
  pub lines_are : lines ≡ live_lines setup scripts pairs

-- what a text prints, by what it was read as; of a faulty one, nothing
abbrev pub LinesOf : {P : Type 0} → (P → List ℕ → Type 0) → Result P Failure → List ℕ → Type 0
LinesOf prints (Ok plan) lines = prints plan lines
LinesOf prints (Err e) lines = lines ≡ []

-- what `stale` prints: lines of the mappings that become stale and of the accesses that a stale one
-- answers, in the order of the steps
abbrev pub PrintsStale : RunPlan → List ℕ → Type 0
PrintsStale plan lines = (used : Bool) × PrintsItems (setup_of plan.config) plan.events lines used

-- what `show` prints: the state of a machine after the steps, each of which had its due reply
abbrev pub PrintsState : RunPlan → List ℕ → Type 0
PrintsState plan lines = Shows plan.config plan.events lines

-- what `check` prints of a text with this first fault: the command that it is for, of each fault
-- that is told a line that begins with the file's name, in the order of their lines and columns,
-- none if there is no fault; and likewise a line on each of the first 200 steps that have a note
abbrev pub TellsFaults : List ℕ → List ℕ → Option Failure → List ℕ → Type 0
TellsFaults file text first lines = (told notes : List Told)
    × (lines ≡ whole_text (name_by (parse_document text)) (map (told_line (shown_name file)) told)
    (map (told_line (shown_name file)) notes))
    × IsInOrder told × ((first ≡ None) ↔ (told ≡ []))
    × IsInOrder notes × AreNotesOn (noted_in text) notes

-- a stale mapping answers some access of the scenario
abbrev pub UsesOf : Result RunPlan Failure → Type 0
UsesOf (Ok plan) = (number hart : ℕ) × (m : Mapping)
    × UsedBy (setup_of plan.config) [] plan.events number hart m
UsesOf (Err e) = ⊥
