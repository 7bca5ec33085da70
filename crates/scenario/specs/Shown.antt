-- What the program shows of itself where the words ask for no file.
use Rattle.std.specs.Prelude.{◌≡◌, ℕ, ◌||◌, ◌⊎◌, Bool, List, [], ◌∷◌, map, codes, string_bytes, Option, Some, None, option_map, Result, Ok, Err, if◌then◌else◌, Vec, String}
use Rattle.std.specs.declared.alloc.Global.{Global}
use Rattle.std.specs.Io.KnownBytes.{Keeps}
use Rattle.std.specs.Str.{bytes_eq}
use Rattle.scenario.specs.declared.command_line.NoWords.{NoWords}
use Rattle.scenario.specs.declared.shown.Shown.{Shown}
use Rattle.scenario.specs.declared.shown.Shown.TheVariants.{Help, HelpOf, Version}
use Rattle.scenario.specs.Command.{done, Ending, Leaves, no_memory, output_failed, Reports}
use Rattle.scenario.specs.Commands.{command_of}

abbrev pub is_help_flag : List ℕ → Bool
is_help_flag word = bytes_eq word (codes "--help") || bytes_eq word (codes "-h")

abbrev pub is_version_flag : List ℕ → Bool
is_version_flag word = bytes_eq word (codes "--version") || bytes_eq word (codes "-V")

-- by one word, and by two
abbrev pub shown_by_one : List ℕ → Option Shown
shown_by_one word =
    if bytes_eq word (codes "help") || is_help_flag word then Some Help
    else if is_version_flag word then Some Version
    else None

abbrev pub help_for : List ℕ → Option Shown
help_for word = option_map HelpOf (command_of word)

abbrev pub shown_by_two : List ℕ → List ℕ → Option Shown
shown_by_two word other =
    if bytes_eq word (codes "help") then help_for other
    else if is_help_flag other then help_for word
    else None

abbrev pub shown_by : List (List ℕ) → Option Shown
shown_by (word ∷ []) = shown_by_one word
shown_by (word ∷ other ∷ []) = shown_by_two word other
shown_by _ = None

-- by all words, of which the first is the program's name
abbrev pub shown : List (List ℕ) → Option Shown
shown [] = None
shown (name ∷ words) = shown_by words

abbrev pub shown_in : Result (Vec (String Global) Global) NoWords → Option Shown
shown_in (Ok words) = shown (map string_bytes words.items)
shown_in (Err e) = None

-- it was shown, or the output failed; no clause says which text it is
pub record EndsShown (status : ℕ) (out_old out_new err_old err_new : Option (List ℕ)) : Type 0 where
  pub ending : Ending
  pub is : (ending ≡ done) ⊎ (ending ≡ output_failed)
  pub leaves : Leaves (λ text. Unit {0}) ending out_old out_new
  pub reports : Reports [] ending status err_old err_new

-- the words ask for no file: what is to be shown is shown, or memory ran out over the words; else
-- this ending is reported
abbrev pub EndsUnasked : Option Shown → Ending → ℕ → Option (List ℕ) → Option (List ℕ)
    → Option (List ℕ) → Option (List ℕ) → Type 0
EndsUnasked None ending status out_old out_new err_old err_new =
    Reports [] ending status err_old err_new × Keeps out_old out_new
EndsUnasked (Some what) ending status out_old out_new err_old err_new =
    EndsShown status out_old out_new err_old err_new
    ⊎ (Reports [] no_memory status err_old err_new × Keeps out_old out_new)
