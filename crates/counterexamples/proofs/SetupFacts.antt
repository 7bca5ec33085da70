-- The setup of a configuration, number by number.
use Rattle.std.proofs.Common.{◌≡◌, refl}
use Rattle.spaces.specs.declared.configuration.Config.{Config}
use Rattle.history.specs.Setup.{setup_of}
use Rattle.counterexamples.specs.WorkedRuns.{IsOfThreeHarts, three_harts}

pub three_harts_are_configured : (c : Config) → IsOfThreeHarts c → setup_of c ≡ three_harts
three_harts_are_configured c is = rw (is.scheme, is.harts, is.capacity, is.spaces, is.window, is.base, is.spares) refl
