-- What is kept of a trace: for each hart what it may hold and the tables do not tell.
use Rattle.std.specs.Prelude.{ℕ, true, false, ◌≡◌, if◌then◌else◌, length}
use Rattle.std.specs.Prelude.{◌≤◌, ◌⊎◌, List, [], ◌∷◌, Option, None}
use Rattle.pte.specs.declared.scheme.Scheme.{Scheme}
use Rattle.watch.specs.declared.trace.Verdict.{Verdict}
use Rattle.watch.specs.Trace.{Trace}
use Rattle.watch.specs.Holding.{Translation}
use Rattle.watch.specs.ComputedTraces.{has_held, is_current, is_held, is_live, is_stale}
use Rattle.watch_engine.specs.declared.held.Held.{Held}
use Rattle.watch_engine.specs.Held.{Each, IsNormalized, is_given, knows, since_after, stale_since, translation_of}
use Rattle.watch_engine.specs.State.{is_gone, is_once}

-- the number of records after which it was live last
abbrev pub last_live_of : Scheme → Trace → ℕ → Translation → ℕ
last_live_of scheme [] hart x = 0
last_live_of scheme (newest ∷ trace) hart x =
    if is_live scheme (newest ∷ trace) hart x
    then length (newest ∷ trace)
    else last_live_of scheme trace hart x

-- the number of records after which it was stale, and ever since
abbrev pub stale_since_of : Scheme → Trace → ℕ → Translation → Option ℕ
stale_since_of scheme [] hart x = None
stale_since_of scheme (newest ∷ trace) hart x =
    since_after (is_stale scheme (newest ∷ trace) hart x) (length (newest ∷ trace))
    (stale_since_of scheme trace hart x)

-- what is known of a translation is so, and it has not gone
pub record IsKnown (scheme : Scheme) (trace : Trace) (i : Held) : Type 0 where
  pub there : is_gone i.state ≡ false
  pub held : is_held scheme trace i.hart (translation_of i) ≡ true
  pub last : i.last_live ≤ last_live_of scheme trace i.hart (translation_of i)
  pub since : stale_since i ≡ stale_since_of scheme trace i.hart (translation_of i)
  pub given :
      (verdict : Verdict) → is_once verdict ≡ true
      → is_given verdict i ≡ has_held scheme verdict trace i.hart (translation_of i)

-- the hart may hold it, and did so after these many records, and it is not stale
pub record IsHeldFrom (scheme : Scheme) (trace : Trace) (hart : ℕ) (x : Translation)
    (n : ℕ) : Type 0 where
  pub held : is_held scheme trace hart x ≡ true
  pub last : n ≤ last_live_of scheme trace hart x
  pub current : is_current scheme trace x ≡ true

-- these are what harts may hold, and what they have left: each is held, and together they are all
-- that is held but for what is live
pub record AreHeld (scheme : Scheme) (trace : Trace) (IsLeft : ℕ → Translation → ℕ → Type 0)
    (held : List Held) : Type 0 where
  pub each : Each (IsKnown scheme trace) held
  pub left : (hart : ℕ) (x : Translation) (n : ℕ) → IsLeft hart x n → IsHeldFrom scheme trace hart x n
  pub all :
      (hart : ℕ) (x : Translation) → IsNormalized x → is_held scheme trace hart x ≡ true
      → is_live scheme trace hart x ≡ false
      → (knows hart x (last_live_of scheme trace hart x) held ≡ true)
      ⊎ IsLeft hart x (last_live_of scheme trace hart x)
