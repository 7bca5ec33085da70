-- The harts, the spaces and the table memory that the keys of a document ask for, and whether they
-- are within the limits.
use Rattle.std.specs.Prelude.{ℕ, ℤ, pos, negsuc, ◌^◌, nat_le, codes, List, [], ◌∷◌, length, Option, Some, None, option_and_then, option_map, Result, Ok, Err, if◌then◌else◌}
use Rattle.toml.specs.Data.{Data, as_str, as_integer, as_array, Members}
use Rattle.std.specs.Str.{bytes_eq}
use Rattle.pte.specs.declared.scheme.Scheme.{Scheme}
use Rattle.pte.specs.declared.scheme.Scheme.TheVariants.{Sv39, Sv48}
use Rattle.pte.specs.declared.TheConstants.{ASID_BITS, MAX_HARTS}
use Rattle.spaces.specs.declared.configuration.Config.{Config}
use Rattle.spaces.specs.declared.configuration.Space.{Space}
use Rattle.spaces.specs.declared.configuration.TheConstants.{MAX_SPACES}
use Rattle.spaces.specs.Defaults.{default_config, default_spaces, default_spares}
use Rattle.spaces.specs.Limits.{is_within_limits}
use Rattle.steps.specs.Num.{num_of}
use Rattle.steps.specs.Words.{words_of}
use Rattle.files.specs.Faults.{Failure, bad_layout, ◌>>=◌}
use Rattle.files.specs.Keys.{below, each, listed, one_number, one_word, texts_of, value_at}
use Rattle.files.specs.declared.key_table.Key.{Key}
use Rattle.files.specs.declared.key_table.Key.TheVariants as keys

-- ---- the values of the keys

abbrev pub small : ℤ → Option ℕ
small (pos n) = below (2 ^ 16) n
small (negsuc n) = None

-- a whole number from 0 to 65535
abbrev pub whole_of : Data → Option ℕ
whole_of d = option_and_then small (as_integer d)

abbrev pub whole_at : Key → ℕ → Members → Result ℕ Failure
whole_at key default ms = value_at key default whole_of ms

-- the scheme that a word names
abbrev pub scheme_named : List ℕ → Option Scheme
scheme_named word =
    if bytes_eq word (codes "sv39") then Some Sv39
    else if bytes_eq word (codes "sv48") then Some Sv48
    else None

-- the scheme of translation
abbrev pub mode_of : Data → Option Scheme
mode_of d =
    option_and_then (λ text. option_and_then scheme_named (one_word (words_of text))) (as_str d)

abbrev pub mode_at : Members → Result Scheme Failure
mode_at ms = value_at keys.Mode default_config.scheme mode_of ms

-- the PPN of the first table frame
abbrev pub base_of : Data → Option ℕ
base_of d = option_and_then one_number (as_str d)

abbrev pub base_at : Members → Result ℕ Failure
base_at ms = value_at keys.Base default_config.base base_of ms

-- at most as many of them as this
abbrev pub at_most : {X : Type 0} → ℕ → List X → Option (List X)
at_most most xs = if nat_le (length xs) most then Some xs else None

-- how many spare frames each hart has
abbrev pub wholes_of : List Data → Option (List ℕ)
wholes_of ds = option_and_then (each whole_of) (at_most MAX_HARTS ds)

abbrev pub spares_of : Data → Option (List ℕ)
spares_of d = option_and_then (λ ds. wholes_of (listed ds)) (as_array d)

abbrev pub spares_at : ℕ → Members → Result (List ℕ) Failure
spares_at harts ms = value_at keys.Spares (default_spares harts) spares_of ms

abbrev pub space : ℕ → ℕ → Space
space home asid = record { home = home; asid = asid }

abbrev pub space_of_words : List (List ℕ) → Option Space
space_of_words (home ∷ asid ∷ []) =
    option_and_then
    (λ h. option_map (λ a. space h a) (option_and_then (below (2 ^ ASID_BITS)) (num_of asid)))
    (option_and_then (below (2 ^ 8)) (num_of home))
space_of_words _ = None

-- the space that a text `HOME ASID` writes
abbrev pub space_of : List ℕ → Option Space
space_of text = space_of_words (words_of text)

abbrev pub few_spaces : List (List ℕ) → Option (List Space)
few_spaces texts = option_and_then (each space_of) (at_most MAX_SPACES texts)

abbrev pub spaces_of : Data → Option (List Space)
spaces_of d = option_and_then few_spaces (texts_of d)

abbrev pub spaces_at : Members → Result (List Space) Failure
spaces_at ms = value_at keys.Spaces default_spaces spaces_of ms

-- ---- the configuration, in the order of checking, but for the scheme
-- (whose key comes after the steps)

unfoldable pub config_at : Members → Result Config Failure
config_at ms = do
  harts ← whole_at keys.Harts default_config.harts ms
  window ← whole_at keys.Window default_config.window ms
  base ← base_at ms
  capacity ← whole_at keys.Capacity default_config.capacity ms
  spares ← spares_at harts ms
  spaces ← spaces_at ms
  Ok (record {
    scheme = default_config.scheme;
    harts = harts;
    spaces = record { items = spaces };
    window = window;
    base = base;
    spares = record { items = spares };
    capacity = capacity;
  })

abbrev pub checked : ℕ → Config → Result (Unit {0}) Failure
checked frames c = if is_within_limits frames c then Ok tt else Err bad_layout
