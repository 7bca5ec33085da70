-- A configuration within the limits makes a setup that the laws are about.
use Rattle.std.proofs.Common.{◌≡◌, ◌<◌, ◌^◌, length, map, sym, ◌∙◌, arith}
use Rattle.std.specs.Prelude.{All}
use Rattle.std.proofs.lemmas.List.{length-map}
use Rattle.std.proofs.lemmas.List.Elements.{All-map}
use Rattle.spaces.specs.declared.configuration.Config.{Config}
use Rattle.spaces.specs.Limits.{MeetsLimits}
use Rattle.spaces.specs.declared.configuration.TheConstants.{MAX_FRAMES}
use Rattle.spaces.proofs.DistinctAsids.{differ}
use Rattle.spaces.proofs.Opened.{layout-meets}
use Rattle.pte.specs.declared.TheConstants.{ASID_BITS}
use Rattle.history.specs.Setup.{setup_of}
use Rattle.laws.specs.Kept.{IsSetup}

pub setup : (c : Config) → MeetsLimits MAX_FRAMES c → All (λ s. s.asid < 2 ^ ASID_BITS) c.spaces.items → IsSetup (setup_of c)
setup c meets fit =
    let asids : length (map (λ s. s.asid) c.spaces.items) ≡ length c.spaces.items = length-map c.spaces.items (λ s. s.asid) in
    let homes : length (map (λ s. s.home) c.spaces.items) ≡ length c.spaces.items = length-map c.spaces.items (λ s. s.home) in
    let bounds : All (λ asid. asid < 2 ^ ASID_BITS) (map (λ s. s.asid) c.spaces.items) = All-map (λ asid. asid < 2 ^ ASID_BITS) (λ s. s.asid) c.spaces.items fit in
    record {
      harts = (let spares = meets.spares in let fits = (layout-meets c meets).harts in omega (arith, spares, fits));
      layout = layout-meets c meets;
      homes = asids ∙ sym homes;
      asids = record {
        some_space = omega (arith, meets.some_space, asids);
        bound = λ s less. bounds s 0 less;
        distinct = λ s t less less' e. differ c.spaces.items s t meets.asids (omega (arith, less, asids)) (omega (arith, less', asids)) e;
      };
    }
