-- What is reported of a text: the command that it is for, its first fault, and the lines.
use Rattle.std.specs.Prelude.{ℕ, ◌≡◌, ◌==◌, Bool, true, false, nat_lt, List, [], ◌∷◌, ◌++◌, length, codes, Option, Some, None, if◌then◌else◌}
use Rattle.std.specs.Fmt.{decimal}
use Rattle.std.specs.List.{list_any}
use Rattle.toml.specs.Data.{Members}
use Rattle.toml.specs.Parse.{parse_document}
use Rattle.files.specs.Faults.{Failure, fault_in, not_toml}
use Rattle.files.specs.declared.fault.Fault.{Fault}
use Rattle.files.specs.declared.fault.Fault.TheVariants as faults
use Rattle.files.specs.LiveFile.{live_plan_of, live_scenario_of}
use Rattle.files.specs.RunFile.{run_plan_of, run_scenario_of}
use Rattle.files.specs.WalkFile.{walk_plan_of, walk_scenario_of}
use Rattle.files.specs.Keys.{member_of}
use Rattle.files.specs.KeyTable.{command_name, own_keys}
use Rattle.files.specs.declared.key_table.Command.{Command}
use Rattle.files.specs.declared.key_table.Command.TheVariants.{Walk, Run, Live}
use Rattle.files.specs.declared.key_table.Key.{Key}

-- ---- the command

abbrev pub is_there : {X : Type 0} → Option X → Bool
is_there None = false
is_there (Some x) = true

abbrev pub has_key : Members → Key → Bool
has_key ms key = is_there (member_of key ms)

-- a key that no other command knows
abbrev pub has_own_key : Command → Members → Bool
has_own_key command ms = list_any (has_key ms) (own_keys command)

abbrev pub command_of : Members → Command
command_of ms = if has_own_key Live ms then Live else if has_own_key Walk ms then Walk else Run

-- ---- the first fault

-- that of a text for a command
abbrev pub fault_for : Command → List ℕ → Option Failure
fault_for Walk text = fault_in (walk_scenario_of text)
fault_for Run text = fault_in (run_scenario_of text)
fault_for Live text = fault_in (live_scenario_of text)

-- that of a document for a command
abbrev pub fault_in_members : Command → Members → Option Failure
fault_in_members Walk ms = fault_in (walk_plan_of ms)
fault_in_members Run ms = fault_in (run_plan_of ms)
fault_in_members Live ms = fault_in (live_plan_of ms)

abbrev pub fault_by : Option Members → List ℕ → Option Failure
fault_by None text = Some not_toml
fault_by (Some ms) text = fault_for (command_of ms) text

-- that of a text for the command that its keys are for
abbrev pub fault_of : List ℕ → Option Failure
fault_of text = fault_by (parse_document text) text

-- the fault is no fault of the text: memory ran out
abbrev pub is_memory : Fault → Bool
is_memory faults.NoMemory = true
is_memory faults.NotToml = false
is_memory (faults.Key name) = false
is_memory faults.Layout = false
is_memory faults.TooMany = false
is_memory (faults.Step n fault) = false
is_memory (faults.Script hart n fault) = false
is_memory faults.Output = false

-- a report that ran out of memory goes on to say so
abbrev pub IsStillTrue : Bool → Bool → Type 0
IsStillTrue before after = before ≡ true → after ≡ true

-- ---- the lines

abbrev pub name_by : Option Members → List ℕ
name_by None = codes "no command"
name_by (Some ms) = command_name (command_of ms)

abbrev pub lines_text : List (List ℕ) → List ℕ
lines_text [] = []
lines_text (line ∷ lines) = line ++ codes "\n" ++ lines_text lines

abbrev pub most_told : ℕ
most_told = 200

abbrev pub last_text : ℕ → List ℕ
last_text n =
    if n == 0 then codes "ok\n"
    else if n == 1 then codes "1 fault\n"
    else if nat_lt n most_told then decimal n ++ codes " faults\n"
    else decimal n ++ codes " faults are told, and there may be more\n"

-- the command, a line for each fault, a line for each note, and the last line
abbrev pub whole_text : List ℕ → List (List ℕ) → List (List ℕ) → List ℕ
whole_text name faults notes =
    codes "file for " ++ name ++ codes "\n" ++ lines_text faults ++ lines_text notes
    ++ last_text (length faults)
