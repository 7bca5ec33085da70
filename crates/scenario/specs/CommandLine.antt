-- What the words of the command line ask for.
use Rattle.std.specs.Prelude.{◌≡◌, ℕ, Bool, ◌==◌, ◌&&◌, ◌++◌, true, false, List, [], ◌∷◌, drop, find, fold, map, codes, string_bytes, Option, Some, None, option_and_then, option_map, Result, Ok, Err, if◌then◌else◌, Vec, String}
use Rattle.std.specs.declared.alloc.Global.{Global}
use Rattle.std.specs.List.{after_first, before_first, list_any}
use Rattle.std.specs.Option.{ok_or}
use Rattle.std.specs.Str.{bytes_eq}
use Rattle.std.specs.declared.io.ErrorKind.{ErrorKind}
use Rattle.std.specs.declared.io.ErrorKind.TheVariants as kinds
use Rattle.clap.specs.Words.{App, Row, Rule, fault_of, first_of, matches_of, new_app, new_rule, with_rule}
use Rattle.clap.specs.Simple.{on_top}
use Rattle.clap.specs.Walk.{is_empty}
use Rattle.clap.specs.declared.builder.action.ArgAction.{ArgAction}
use Rattle.clap.specs.declared.builder.action.ArgAction.TheVariants.{Set, SetTrue}
use Rattle.files.specs.declared.fault.Fault.TheVariants.{NoMemory}
use Rattle.scenario.specs.declared.command_line.Ask.{Ask}
use Rattle.scenario.specs.declared.command_line.NoWords.{NoWords}
use Rattle.scenario.specs.declared.command_line.NoWords.TheVariants as none
use Rattle.scenario.specs.declared.task.Task.{Task}
use Rattle.scenario.specs.declared.trouble.Trouble.{Trouble}
use Rattle.scenario.specs.declared.trouble.Trouble.TheVariants.{Usage, Refused}
use Rattle.scenario.specs.Command.{Ending, misused, no_memory}
use Rattle.scenario.specs.Commands.{command_of}
use Rattle.scenario.specs.Tasks.{GivenOptions, options_given, task_of}

-- what is done, the name of the file with which it is, and that of a list of what is known
pub record Asked : Type 0 where
  pub task : Task
  pub file : List ℕ
  pub known : Option (List ℕ)

abbrev pub ask_view : Ask → Asked
ask_view ask = record {
  task = ask.task;
  file = ask.file.now;
  known = option_map (λ text. text.now) ask.known;
}

-- by the word of a command, options and a file
abbrev pub asked_by : List ℕ → GivenOptions → List ℕ → Option Asked
asked_by word options file =
    option_map (λ task. record { task = task; file = file; known = options.known })
    (option_and_then (task_of options) (command_of word))

-- ---- by names

-- COMMAND, options and FILE
abbrev pub asked_with : Option (List ℕ) → GivenOptions → Option (List ℕ) → Option Asked
asked_with (Some word) options (Some file) = asked_by word options file
asked_with _ options _ = None

abbrev pub asked_of : (List ℕ → Option (List ℕ)) → Option Asked
asked_of named = asked_with (named (codes "COMMAND")) (options_given named) (named (codes "FILE"))

-- ---- the names

-- of the values that are required, and of all, in their order
abbrev pub required : List (List ℕ)
required = codes "COMMAND" ∷ codes "FILE" ∷ []

abbrev pub values : List (List ℕ)
values = required ++ codes "LINE" ∷ []

-- a name of an option, which is a flag or takes a value
pub record OptionName : Type 0 where
  pub name : List ℕ
  pub takes_value : Bool

abbrev pub flag : List ℕ → OptionName
flag name = record { name = name; takes_value = false }

abbrev pub valued : List ℕ → OptionName
valued name = record { name = name; takes_value = true }

-- of the options
abbrev pub option_names : List OptionName
option_names = flag (codes "all") ∷ flag (codes "quiet") ∷ flag (codes "json") ∷ valued (codes "hart")
    ∷ valued (codes "page") ∷ valued (codes "kind") ∷ valued (codes "max") ∷ valued (codes "known") ∷ flag (codes "svg") ∷ []

-- ---- what clap takes

abbrev pub value_rule : List ℕ → Rule
value_rule name = record (new_rule name) { required = true }

abbrev pub action_of : OptionName → ArgAction
action_of option = if option.takes_value then Set else SetTrue

abbrev pub option_rule : OptionName → Rule
option_rule option = record (new_rule option.name) {
  long = Some option.name;
  action = Some (action_of option);
}

abbrev pub without_help : App → App
without_help app = on_top (λ top. record top { disable_help_flag = true }) app

-- the values and the options; `--help` is none
abbrev pub svsim : App
svsim = fold with_rule (without_help (new_app (codes "svsim")))
    (map value_rule required ++ new_rule (codes "LINE") ∷ map option_rule option_names)

abbrev pub asked_in_rows : List Row → Option Asked
asked_in_rows rows = asked_of (λ name. first_of name rows)

-- what is asked for by words of which clap refuses none; the first is the program's name
unfoldable pub asked : List (List ℕ) → Option Asked
asked words =
    if is_empty (fault_of svsim words) then asked_in_rows (matches_of svsim words) else None

-- ---- the same, read off the words

-- `-` and more
abbrev pub is_option : List ℕ → Bool
is_option (first ∷ second ∷ rest) = first == 45
is_option _ = false

-- `--`, which ends the options
abbrev pub is_end : List ℕ → Bool
is_end word = bytes_eq word (codes "--")

-- `--` and what follows it
abbrev pub is_long : List ℕ → Bool
is_long (first ∷ second ∷ rest) = first == 45 && second == 45
is_long _ = false

abbrev pub is_equals : ℕ → Bool
is_equals byte = byte == 61

-- NAME of `--NAME` and of `--NAME=VALUE`
abbrev pub name_in : List ℕ → List ℕ
name_in word = before_first is_equals (drop 2 word)

-- VALUE of `--NAME=VALUE`
abbrev pub value_in : List ℕ → Option (List ℕ)
value_in word =
    if list_any is_equals (drop 2 word) then Some (after_first is_equals (drop 2 word)) else None

-- the option that the word names
abbrev pub option_in : List ℕ → Option OptionName
option_in word =
    if is_long word then find (λ option. bytes_eq option.name (name_in word)) option_names else None

-- where a word stands: before `--`, behind the option whose value it is, or behind `--`
pub data Place : Type 0 where
  before_end : Place
  behind_option : List ℕ → Place
  behind_end : Place

-- what the words so far give: names with their texts, the names of the values that are to come, and
-- the place of the next word
pub record Read : Type 0 where
  pub given : List (List ℕ × List ℕ)
  pub values : List (List ℕ)
  pub place : Place

abbrev pub is_given : List ℕ → List (List ℕ × List ℕ) → Bool
is_given name given = list_any (λ g. bytes_eq g.0 name) given

-- a name is given one text
abbrev pub give : List ℕ → List ℕ → Read → Option Read
give name text read =
    if is_given name read.given then None
    else Some (record read { given = read.given ++ (name, text) ∷ [] })

-- a value has the next name
abbrev pub give_value : List (List ℕ) → List ℕ → Read → Option Read
give_value [] word read = None
give_value (name ∷ names) word read = give name word (record read { values = names })

-- a flag has no value, and its text is `true`; another option has its value in its word, or in the
-- next word
abbrev pub give_option : Bool → List ℕ → Option (List ℕ) → Read → Option Read
give_option false name None read = give name (codes "true") read
give_option false name (Some value) read = None
give_option true name (Some value) read = give name value read
give_option true name None read = Some (record read { place = behind_option name })

abbrev pub give_known : Option OptionName → Option (List ℕ) → Read → Option Read
give_known None value read = None
give_known (Some option) value read = give_option option.takes_value option.name value read

abbrev pub read_word : Place → List ℕ → Read → Option Read
read_word before_end word read =
    if is_end word then Some (record read { place = behind_end })
    else if is_option word then give_known (option_in word) (value_in word) read
    else give_value read.values word read
read_word (behind_option name) word read =
    if is_option word then None else give name word (record read { place = before_end })
read_word behind_end word read = give_value read.values word read

abbrev pub text_of : List (List ℕ × List ℕ) → List ℕ → Option (List ℕ)
text_of given name = option_map (λ g. g.1) (find (λ g. bytes_eq g.0 name) given)

-- no word is left
abbrev pub asked_at_end : Place → List (List ℕ × List ℕ) → Option Asked
asked_at_end (behind_option name) given = None
asked_at_end _ given = asked_of (text_of given)

-- what is asked for, once these words are read too
abbrev pub asked_after : Read → List (List ℕ) → Option Asked
asked_after read [] = asked_at_end read.place read.given
asked_after read (word ∷ words) =
    option_and_then (λ next. asked_after next words) (read_word read.place word read)

-- what is asked for by the words behind the program's name
abbrev pub asked_in_words : List (List ℕ) → Option Asked
asked_in_words words =
    asked_after (record { given = []; values = values; place = before_end }) words

-- ---- what the code makes of them

-- what the words ask for, or that they ask for nothing; or memory ran out
abbrev pub AsksFor : List (List ℕ) → Result Ask Trouble → Type 0
AsksFor words (Ok ask) = asked words ≡ Some (ask_view ask)
AsksFor words (Err Usage) = asked words ≡ None
AsksFor words (Err (Refused fault)) = fault ≡ NoMemory
AsksFor words (Err _) = ⊥

-- why there are no words, by the kind of the error of the system
abbrev pub no_words_by : ErrorKind → NoWords
no_words_by kinds.OutOfMemory = none.NoMemory
no_words_by _ = none.NotText

-- what there is to do, or how the program ends without it
abbrev pub asked_in : Result (Vec (String Global) Global) NoWords → Result Asked Ending
asked_in (Ok words) = ok_or (asked (map string_bytes words.items)) misused
asked_in (Err none.NotText) = Err misused
asked_in (Err none.NoMemory) = Err no_memory
