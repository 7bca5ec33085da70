-- Harts among which are all that have a root in their satps.
use Rattle.std.specs.Prelude.{ℕ, ◌≡◌, ◌<◌, ◌≤◌, List, Option, None, false, get_or, length}
use Rattle.watch.specs.declared.trace.Space.{Space}
use Rattle.watch.specs.Trace.{has_root}
use Rattle.watch_engine.specs.declared.satps.Harts.{Harts}

-- no other hart has the root in its satp
pub record AreAllOf (satps : List (Option Space)) (root : ℕ) (harts : Harts) : Type 0 where
  pub order : harts.first ≤ harts.end
  pub within : harts.end ≤ length satps
  pub before : (k : ℕ) → k < harts.first → has_root (get_or satps k None) root ≡ false
  pub behind : (k : ℕ) → harts.end ≤ k → has_root (get_or satps k None) root ≡ false
