-- A key that is absent is read as the default of its row of the table.
use Rattle.std.proofs.Common.{◌≡◌, ℕ, List, Option, Some, None, Result, Ok, Err, refl, ap, sym, subst, ◌∙◌}
use Rattle.std.specs.Prelude.{if◌then◌else◌, option_and_then}
use Rattle.std.proofs.lemmas.Option.{same_Some}
use Rattle.std.specs.Result.{result_ok}
use Rattle.toml.specs.Data.{Data, Members, no_members}
use Rattle.spaces.specs.Defaults.{default_config}
use Rattle.spaces.specs.declared.configuration.Config.{Config}
use Rattle.spaces.specs.declared.configuration.Space.{Space}
use Rattle.files.specs.declared.key_table.Key.{Key}
use Rattle.files.specs.declared.key_table.Key.TheVariants.{Base, Capacity, Harts, Root, Turns, Window}
use Rattle.files.specs.Faults.{Failure, ◌>>=◌}
use Rattle.files.specs.Keys.{IsDefaultIfAbsent, member_of, value_at}
use Rattle.files.specs.KeyTable.{default_turns, is_within, kind_of}
use Rattle.files.specs.LiveFile.{turns_at, turns_of}
use Rattle.files.specs.Settings.{base_at, base_of, config_at, spaces_at, spares_at, whole_at, whole_of}
use Rattle.files.specs.WalkFile.{root_at, root_of}

absent : {X : Type 0} (key : Key) (default : X) (read : Data → Option X) (ms : Members) → member_of key ms ≡ None → value_at key default read ms ≡ Ok default
absent key default read ms none = rw none refl

pub turns_default : (ms : Members) → IsDefaultIfAbsent Turns ms (turns_at ms)
turns_default ms none = ap Some (sym (absent Turns default_turns turns_of ms none))

pub root_default : (ms : Members) → IsDefaultIfAbsent Root ms (root_at ms)
root_default ms none = ap Some (sym (absent Root default_config.base root_of ms none))

-- ---- the numbers of a configuration

abbrev made : ℕ → ℕ → ℕ → ℕ → List ℕ → List Space → Config
made harts window base capacity spares spaces = record {
  scheme = default_config.scheme;
  harts = harts;
  spaces = record { items = spaces };
  window = window;
  base = base;
  spares = record { items = spares };
  capacity = capacity;
}

-- the numbers that were read are those of the configuration
record AreRead (harts window base capacity : Result ℕ Failure) (config : Config) : Type 0 where
  pub harts_read : harts ≡ Ok config.harts
  pub window_read : window ≡ Ok config.window
  pub base_read : base ≡ Ok config.base
  pub capacity_read : capacity ≡ Ok config.capacity

by_lists : (h w b c : ℕ) (s : Result (List ℕ) Failure) (p : Result (List Space) Failure) (config : Config)
    → (s >>= λ spares. p >>= λ spaces. Ok (made h w b c spares spaces)) ≡ Ok config → AreRead (Ok h) (Ok w) (Ok b) (Ok c) config
by_lists h w b c (Err x) p config e = let bad : Err x ≡ Ok config = e in cc
by_lists h w b c (Ok s) (Err x) config e = let bad : Err x ≡ Ok config = e in cc
by_lists h w b c (Ok s) (Ok p) config e =
    subst (AreRead (Ok h) (Ok w) (Ok b) (Ok c)) (same_Some _ _ (ap result_ok e))
    (record { harts_read = refl; window_read = refl; base_read = refl; capacity_read = refl })

by_numbers : (h w b c : Result ℕ Failure) (s : ℕ → Result (List ℕ) Failure) (p : Result (List Space) Failure) (config : Config)
    → (h >>= λ harts. w >>= λ window. b >>= λ base. c >>= λ capacity. s harts >>= λ spares. p >>= λ spaces.
    Ok (made harts window base capacity spares spaces)) ≡ Ok config → AreRead h w b c config
by_numbers (Err x) w b c s p config e = let bad : Err x ≡ Ok config = e in cc
by_numbers (Ok h) (Err x) b c s p config e = let bad : Err x ≡ Ok config = e in cc
by_numbers (Ok h) (Ok w) (Err x) c s p config e = let bad : Err x ≡ Ok config = e in cc
by_numbers (Ok h) (Ok w) (Ok b) (Err x) s p config e = let bad : Err x ≡ Ok config = e in cc
by_numbers (Ok h) (Ok w) (Ok b) (Ok c) s p config e = by_lists h w b c (s h) p config e

are_read : (ms : Members) (config : Config) → config_at ms ≡ Ok config
    → AreRead (whole_at Harts default_config.harts ms) (whole_at Window default_config.window ms) (base_at ms) (whole_at Capacity default_config.capacity ms) config
unfolding config_at
are_read ms config e =
    by_numbers (whole_at Harts default_config.harts ms) (whole_at Window default_config.window ms) (base_at ms)
    (whole_at Capacity default_config.capacity ms) (λ harts. spares_at harts ms) (spaces_at ms) config e

pub no_key : config_at no_members ≡ Ok default_config
unfolding config_at
no_key = refl

pub harts_default : (ms : Members) (config : Config) → config_at ms ≡ Ok config → IsDefaultIfAbsent Harts ms (Ok config.harts)
harts_default ms config e none = ap Some (sym (absent Harts default_config.harts whole_of ms none) ∙ (are_read ms config e).harts_read)

pub window_default : (ms : Members) (config : Config) → config_at ms ≡ Ok config → IsDefaultIfAbsent Window ms (Ok config.window)
window_default ms config e none = ap Some (sym (absent Window default_config.window whole_of ms none) ∙ (are_read ms config e).window_read)

pub base_default : (ms : Members) (config : Config) → config_at ms ≡ Ok config → IsDefaultIfAbsent Base ms (Ok config.base)
base_default ms config e none = ap Some (sym (absent Base default_config.base base_of ms none) ∙ (are_read ms config e).base_read)

pub capacity_default : (ms : Members) (config : Config) → config_at ms ≡ Ok config → IsDefaultIfAbsent Capacity ms (Ok config.capacity)
capacity_default ms config e none = ap Some (sym (absent Capacity default_config.capacity whole_of ms none) ∙ (are_read ms config e).capacity_read)

-- ---- every number may be a base

pub each_base : (read : Option ℕ) → read ≡ option_and_then (λ n. if is_within (kind_of Base) n then Some n else None) read
each_base None = refl
each_base (Some n) = refl
