-- The ways to tables stay where frames are given out in which each word is 0.
use Rattle.std.proofs.Common.{◌≡◌, ℕ, Bool, true, false, Some, [], ap, sym, subst, refl, arith}
use Rattle.std.specs.Prelude.{cond}
use Rattle.std.specs.List.{All, Contains}
use Rattle.std.proofs.lemmas.List.Elements.{All-weaker}
use Rattle.std.proofs.Math.Logic.{∥∥₁_map}
use Rattle.pte.specs.declared.scheme.Scheme.{Scheme}
use Rattle.walk.specs.Leads.{PointsTo, Tables}
use Rattle.watch.specs.declared.trace.Frames.{Frames}
use Rattle.watch.specs.Trace.{is_among}
use Rattle.watch_tables.specs.Words.{AreFilled}
use Rattle.watch_tables.proofs.SameWays.{KeepsPointers, ways-still}
use Rattle.watch_tables.proofs.Storing.{zero-points-nowhere}
use Rattle.watch_engine.specs.declared.kept_ways.KeptWays.{KeptWays}
use Rattle.watch_engine.specs.KeptWays.{AreKept, AreOfTable}
use Rattle.watch_engine.proofs.Keeping.{all-among}

module _ (words : Tables) (old new : ℕ → ℕ → ℕ) (frames : Frames) (since : (t i : ℕ) → is_among frames t ≡ false → new t i ≡ old t i) (filled : AreFilled words frames []) where
  abbrev emptied : Tables
  emptied t i = cond (is_among frames t) (Some 0) (words t i)

  -- a pointer lies in none of the frames
  apart : (t i next : ℕ) (test : Bool) → is_among frames t ≡ test → PointsTo (words t i) next → test ≡ false
  apart t i next false is point = refl
  apart t i next true is point =
      let has = filled.each t i is (λ zero. zero-points-nowhere next (subst (λ o. PointsTo o next) zero point)) in
      absurd (omega (arith, has.among.1))

  still : (t i next : ℕ) (test : Bool) → is_among frames t ≡ test → PointsTo (cond test (Some 0) (words t i)) next → test ≡ false
  still t i next false is point = refl
  still t i next true is point = absurd (zero-points-nowhere next point)

  same : (t i : ℕ) → is_among frames t ≡ false → emptied t i ≡ words t i
  same t i is = ap (λ b. cond b (Some 0) (words t i)) is

  none-among : (t i next : ℕ) → PointsTo (words t i) next → is_among frames t ≡ false
  none-among t i next point = apart t i next (is_among frames t) refl point

  none-among-still : (t i next : ℕ) → PointsTo (emptied t i) next → is_among frames t ≡ false
  none-among-still t i next point = still t i next (is_among frames t) refl point

  keeps : KeepsPointers words emptied old new
  keeps = record {
    word = λ t i next point. same t i (none-among t i next point);
    since = λ t i next point. since t i (none-among t i next point);
  }

  back : KeepsPointers emptied words new old
  back = record {
    word = λ t i next point. sym (same t i (none-among-still t i next point));
    since = λ t i next point. sym (since t i (none-among-still t i next point));
  }

  pub kept-over : (scheme : Scheme) (kept after : KeptWays) → AreKept scheme words old kept → All (Contains kept.known.items) after.known.items → AreKept scheme emptied new after
  kept-over scheme kept after are among =
      All-weaker (AreOfTable scheme words old) (AreOfTable scheme emptied new) (λ known some. ∥∥₁_map some (ways-still scheme words emptied old new keeps back known.table known.ways.items)) after.known.items
      (all-among (AreOfTable scheme words old) kept.known.items after.known.items among are)
