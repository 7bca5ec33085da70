-- The table of commands: the word that asks for each, and what it makes of a file.
use Rattle.std.specs.Prelude.{ℕ, List, codes, Option, Some, None, option_map, Result, if◌then◌else◌}
use Rattle.std.specs.Str.{bytes_eq}
use Rattle.files.specs.Faults.{Failure, fault_in}
use Rattle.files.specs.LiveFile.{live_scenario_of}
use Rattle.files.specs.RunFile.{run_scenario_of}
use Rattle.files.specs.WalkFile.{walk_scenario_of}
use Rattle.checks.specs.Told.{fault_of}
use Rattle.scenario.specs.declared.commands.Command.{Command}
use Rattle.scenario.specs.declared.commands.Command.TheVariants.{Plain, Live, Watch, Explain}
use Rattle.scenario.specs.declared.commands.Which.{Which}
use Rattle.scenario.specs.declared.commands.Which.TheVariants.{Walk, Run, Stale, Show, Draw, Check}
use Rattle.scenario.specs.Prints.{LinesOf, Prints, PrintsLive, PrintsReplies, PrintsStale, PrintsState, TellsFaults, UsesOf}

-- what a command makes of the text of a file that it reads whole
pub record Meaning : Type 1 where
  -- the text's first fault, if it has one
  pub fault : List ℕ → Option Failure
  -- what is printed of the text
  pub Lines : List ℕ → List ℕ → Type 0
  -- its status says that stale mappings were used, and they were
  pub FindsUses : List ℕ → Type 0
  -- it says what is wrong with a faulty text, and not only its first fault
  pub Explains : Type 0
  -- it starts threads
  pub StartsThreads : Type 0

-- of a command that reads a text as a plan, and prints something of the plan
abbrev pub printing : {P : Type 0} → (List ℕ → Result P Failure) → (P → List ℕ → Type 0) → Meaning
printing read prints = record {
  fault = λ text. fault_in (read text);
  Lines = λ text. LinesOf prints (read text);
  FindsUses = λ text. ⊥;
  Explains = ⊥;
  StartsThreads = ⊥;
}

abbrev pub walk : Meaning
walk = printing walk_scenario_of Prints

abbrev pub run : Meaning
run = printing run_scenario_of PrintsReplies

abbrev pub live : Meaning
live = record (printing live_scenario_of PrintsLive) { StartsThreads = Unit {0} }

abbrev pub stale : Meaning
stale = record (printing run_scenario_of PrintsStale) {
  FindsUses = λ text. UsesOf (run_scenario_of text);
}

abbrev pub show : Meaning
show = printing run_scenario_of PrintsState

-- of a picture no clause says which text it is
abbrev pub draw : Meaning
draw = record (printing run_scenario_of PrintsState) { Lines = λ text lines. Unit {0} }

-- of a file of this name
abbrev pub check : List ℕ → Meaning
check file = record {
  fault = fault_of;
  Lines = λ text. TellsFaults file text (fault_of text);
  FindsUses = λ text. ⊥;
  Explains = Unit {0};
  StartsThreads = ⊥;
}

-- of a file of this name, which all but `check` ignore
abbrev pub meaning_of : List ℕ → Which → Meaning
meaning_of file Walk = walk
meaning_of file Run = run
meaning_of file Stale = stale
meaning_of file Show = show
meaning_of file Draw = draw
meaning_of file Check = check file

-- ---- the words

abbrev pub which_of : List ℕ → Option Which
which_of word =
    if bytes_eq word (codes "walk") then Some Walk
    else if bytes_eq word (codes "run") then Some Run
    else if bytes_eq word (codes "stale") then Some Stale
    else if bytes_eq word (codes "show") then Some Show
    else if bytes_eq word (codes "draw") then Some Draw
    else if bytes_eq word (codes "check") then Some Check
    else None

abbrev pub command_of : List ℕ → Option Command
command_of word =
    if bytes_eq word (codes "live") then Some Live
    else if bytes_eq word (codes "watch") then Some Watch
    else if bytes_eq word (codes "explain") then Some Explain
    else option_map Plain (which_of word)
