-- What memory is opened with where nothing else is said.
use Rattle.std.specs.Prelude.{ℕ, List, [], ◌∷◌, replicate, take}
use Rattle.pte.specs.declared.TheConstants.{MAX_HARTS}
use Rattle.pte.specs.declared.scheme.Scheme.TheVariants.{Sv39}
use Rattle.spaces.specs.declared.configuration.Config.{Config}
use Rattle.spaces.specs.declared.configuration.TheConstants.{DEFAULT_SPARES}
use Rattle.spaces.specs.declared.configuration.Space.{Space}

-- the same number of spare frames for each hart
abbrev pub default_spares : ℕ → List ℕ
default_spares harts = take harts (replicate MAX_HARTS DEFAULT_SPARES)

-- one space, of hart 0, with ASID 1
abbrev pub default_spaces : List Space
default_spaces = record { home = 0; asid = 1 } ∷ []

-- the configuration for this many harts
abbrev pub default_for : ℕ → Config
default_for harts = record {
  scheme = Sv39;
  harts = harts;
  spaces = record { items = default_spaces };
  window = 1;
  base = 0x80000;
  spares = record { items = default_spares harts };
  capacity = 4;
}

-- the default: one hart
abbrev pub default_config : Config
default_config = default_for 1
