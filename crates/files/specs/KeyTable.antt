-- The table of keys: the name of each, the commands that know it, and what its value is.
use Rattle.std.specs.Prelude.{ℕ, ◌-◌, ◌^◌, ◌++◌, ◌&&◌, Bool, nat_le, nat_lt, not, true, false, codes, List, [], ◌∷◌, map, Option, Some, None}
use Rattle.std.specs.List.{list_any}
use Rattle.std.specs.Str.{bytes_eq}
use Rattle.pte.specs.declared.TheConstants.{MAX_CAPACITY, MAX_HARTS}
use Rattle.pte.specs.declared.entry.TheConstants.{PPN_BITS}
use Rattle.spaces.specs.Defaults.{default_config}
use Rattle.spaces.specs.declared.configuration.TheConstants.{MAX_WINDOW}
use Rattle.files.specs.declared.key_table.Command.{Command}
use Rattle.files.specs.declared.key_table.Command.TheVariants.{Walk, Run, Live}
use Rattle.files.specs.declared.key_table.Key.{Key}
use Rattle.files.specs.declared.key_table.Key.TheVariants.{Harts, Window, Base, Capacity, Spares, Spaces, Root, Frames, Words, Steps, Setup, Scripts, Turns, Mode}
use Rattle.files.specs.declared.key_table.Kind.{Kind}
use Rattle.files.specs.declared.key_table.Kind.TheVariants as kinds

-- ---- the names

abbrev pub command_name : Command → List ℕ
command_name Walk = codes "walk"
command_name Run = codes "run"
command_name Live = codes "live"

abbrev pub name_of : Key → List ℕ
name_of Harts = codes "harts"
name_of Window = codes "window"
name_of Base = codes "base"
name_of Capacity = codes "capacity"
name_of Spares = codes "spares"
name_of Spaces = codes "spaces"
name_of Root = codes "root"
name_of Frames = codes "frames"
name_of Words = codes "words"
name_of Steps = codes "steps"
name_of Setup = codes "setup"
name_of Scripts = codes "scripts"
name_of Turns = codes "turns"
name_of Mode = codes "mode"

-- ---- the commands that know them

-- the keys that no other command knows (law `own_keys_are_of_one_command`)
abbrev pub own_keys : Command → List Key
own_keys Walk = Root ∷ Frames ∷ Words ∷ []
own_keys Run = []
own_keys Live = Setup ∷ Scripts ∷ Turns ∷ []

-- the keys of the harts, the spaces and the table memory
abbrev pub layout_keys : List Key
layout_keys = Harts ∷ Window ∷ Base ∷ Capacity ∷ Spares ∷ Spaces ∷ []

-- the keys that a command knows, in the order in which they are read
abbrev pub keys_of : Command → List Key
keys_of Walk = own_keys Walk ++ Steps ∷ Mode ∷ []
keys_of Run = layout_keys ++ Steps ∷ Mode ∷ []
keys_of Live = layout_keys ++ own_keys Live ++ Mode ∷ []

abbrev pub names_of : Command → List (List ℕ)
names_of command = map name_of (keys_of command)

abbrev pub others : Command → List Command
others Walk = Run ∷ Live ∷ []
others Run = Walk ∷ Live ∷ []
others Live = Walk ∷ Run ∷ []

-- no other command knows a key of this name
abbrev pub is_own : Command → Key → Bool
is_own command key =
    not (list_any (λ other. list_any (bytes_eq (name_of key)) (names_of other)) (others command))

-- ---- the values, with their limits and defaults

-- the most turns of a wait where no key says how many
abbrev pub default_turns : ℕ
default_turns = 1000000

abbrev pub kind_of : Key → Kind
kind_of Harts = kinds.Whole 1 MAX_HARTS default_config.harts
kind_of Window = kinds.Whole 1 MAX_WINDOW default_config.window
kind_of Base = kinds.Ppn None default_config.base
kind_of Capacity = kinds.Whole 1 MAX_CAPACITY default_config.capacity
kind_of Spares = kinds.Spares
kind_of Spaces = kinds.Texts
kind_of Root = kinds.Ppn (Some (2 ^ PPN_BITS)) default_config.base
kind_of Frames = kinds.Texts
kind_of Words = kinds.Texts
kind_of Steps = kinds.Texts
kind_of Setup = kinds.Texts
kind_of Scripts = kinds.Scripts
kind_of Turns = kinds.Whole 1 (2 ^ 32 - 1) default_turns
kind_of Mode = kinds.Scheme

-- a value of this kind is a number, and this one is within its limits
abbrev pub is_within : Kind → ℕ → Bool
is_within (kinds.Whole least most default) n = nat_le least n && nat_le n most
is_within (kinds.Ppn None default) n = true
is_within (kinds.Ppn (Some limit) default) n = nat_lt n limit
is_within kinds.Scheme n = false
is_within kinds.Spares n = false
is_within kinds.Texts n = false
is_within kinds.Scripts n = false

-- the number that stands for a value of this kind that is left out
abbrev pub default_of : Kind → Option ℕ
default_of (kinds.Whole least most default) = Some default
default_of (kinds.Ppn limit default) = Some default
default_of kinds.Scheme = None
default_of kinds.Spares = None
default_of kinds.Texts = None
default_of kinds.Scripts = None
