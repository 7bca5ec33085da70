-- The default is within the limits.
use Rattle.std.proofs.Common.{◌≡◌, ℕ, ◌*◌, ◌<◌, ◌≤◌, replicate, sum, refl, arith}
use Rattle.std.proofs.lemmas.List.{length-replicate, take-replicate}
use Rattle.std.proofs.lemmas.List.Elements.{All-from_recursion}
use Rattle.std.proofs.lemmas.List.Folds.{sum_by-replicate}
use Rattle.pte.specs.declared.TheConstants.{MAX_HARTS}
use Rattle.spaces.specs.Defaults.{default_for, default_spaces, default_spares}
use Rattle.spaces.specs.Limits.{MeetsLimits}
use Rattle.spaces.specs.declared.configuration.TheConstants.{MAX_LIVE_FRAMES}

pub meets_for : (harts : ℕ) → 1 ≤ harts → harts ≤ MAX_HARTS → MeetsLimits MAX_LIVE_FRAMES (default_for harts)
meets_for harts some few =
    let spares : default_spares harts ≡ replicate harts 8 = take-replicate harts MAX_HARTS 8 few in
    let count : sum (default_spares harts) ≡ harts * 8 = rw spares (sum_by-replicate (λ n. n) harts 8) in
    record {
      some_hart = some;
      harts = few;
      some_space = omega arith;
      spaces = omega arith;
      homes = All-from_recursion (λ s. s.home < harts) default_spaces (some, tt);
      asids = refl;
      some_window = omega arith;
      window = omega arith;
      spares = rw spares (length-replicate harts 8);
      frames_fit = omega arith;
      ppns_fit = omega arith;
      some_capacity = omega arith;
      capacity = omega arith;
    }
