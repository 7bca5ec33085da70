-- The configuration of a machine that the numbers of C ask for.
use Rattle.std.specs.Prelude.{ℕ, if◌then◌else◌, nat_lt, ◌||◌, List, length, map, Result, Ok, Err}
use Rattle.pte.specs.declared.TheConstants.{MAX_HARTS}
use Rattle.spaces.specs.declared.configuration.Config.{Config}
use Rattle.spaces.specs.declared.configuration.Space.{Space}
use Rattle.spaces.specs.declared.configuration.TheConstants.{MAX_SPACES}
use Rattle.melissaledge_c.specs.declared.codes.Fault.{Fault}
use Rattle.melissaledge_c.specs.declared.codes.Fault.TheVariants as fault
use Rattle.melissaledge_c.specs.declared.configs.ConfigAsked.{ConfigAsked}
use Rattle.melissaledge_c.specs.declared.configs.SpaceAsked.{SpaceAsked}
use Rattle.melissaledge_c.specs.Codes.{or_fault, scheme_of}

abbrev pub opened_space : SpaceAsked → Space
opened_space asked = record { home = asked.home; asid = asked.asid }

abbrev pub config_of : ConfigAsked → List SpaceAsked → List ℕ → Result Config Fault
config_of asked spaces spares =
    or_fault (scheme_of asked.scheme) fault.Scheme (λ scheme.
    if nat_lt MAX_SPACES (length spaces) || nat_lt MAX_HARTS (length spares) then Err fault.Layout
    else Ok (record {
      scheme = scheme;
      harts = asked.harts;
      spaces = record { items = map opened_space spaces };
      window = asked.window;
      base = asked.base;
      spares = record { items = spares };
      capacity = asked.capacity;
    }))
