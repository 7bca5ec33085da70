-- The tests of what is live, held, current and stale: what is live is current, and of what is global
-- root and ASID change no test.
use Rattle.std.proofs.Common.{◌≡◌, ℕ, Bool, true, false, IsTrue}
use Rattle.std.specs.Prelude.{◌↔◌}
use Rattle.pte.specs.declared.scheme.Scheme.{Scheme}
use Rattle.walk.proofs.Unique.{same_bool}
use Rattle.watch.specs.declared.trace.Record.{Record}
use Rattle.watch.specs.declared.trace.Verdict.{Verdict}
use Rattle.watch.specs.Trace.{Trace}
use Rattle.watch.specs.Holding.{Translation}
use Rattle.watch.specs.ComputedTraces.{has_held, has_verdict, is_current, is_dropped, is_held, is_live, is_live_since, is_new, is_stale}
use Rattle.watch.proofs.ComputedTraces.{current_iff, drops_iff, has_held_iff, held_iff, live_iff, live_since_iff, new_iff, stale_iff, verdict_iff}
use Rattle.watch.proofs.Held.{live-held}
use Rattle.watch.proofs.Roots.{live-current}
use Rattle.watch.proofs.Global.{current_placed, drops_placed, given_placed, held_placed, live_placed, new_placed, placed, since_placed, stale_placed, was_placed}
use Rattle.std.proofs.lemmas.Bool.{false_from_ne_true}

module _ (scheme : Scheme) (trace : Trace) (hart : ℕ) (x : Translation) where
  pub live-is_held : is_live scheme trace hart x ≡ true → is_held scheme trace hart x ≡ true
  live-is_held live = (held_iff scheme trace hart x).1 (live-held scheme trace hart x ((live_iff scheme trace hart x).0 live))

  pub live-is_current : is_live scheme trace hart x ≡ true → is_current scheme trace x ≡ true
  live-is_current live = (current_iff scheme trace x).1 (live-current scheme trace hart x ((live_iff scheme trace hart x).0 live))

  pub live-not_stale : is_live scheme trace hart x ≡ true → is_stale scheme trace hart x ≡ false
  live-not_stale live =
      false_from_ne_true (is_stale scheme trace hart x) (λ stale. ((stale_iff scheme trace hart x).0 stale).gone (live-current scheme trace hart x ((live_iff scheme trace hart x).0 live)))

-- tests of the same are the same
same_tests : (a b : Bool) (A B : Type 0) → (IsTrue a ↔ A) → (IsTrue b ↔ B) → (A ↔ B) → a ≡ b
same_tests a b A B p q same = same_bool a b ((λ h. q.1 (same.0 (p.0 h))), (λ h. p.1 (same.1 (q.0 h))))

module _ (scheme : Scheme) (trace : Trace) (hart : ℕ) (x : Translation) (root asid : ℕ) (g : IsTrue x.entry.global) where
  pub is_live-placed : is_live scheme trace hart (placed root asid x) ≡ is_live scheme trace hart x
  is_live-placed = same_tests _ _ _ _ (live_iff scheme trace hart (placed root asid x)) (live_iff scheme trace hart x) (live_placed scheme trace hart x root asid g)

  pub is_held-placed : is_held scheme trace hart (placed root asid x) ≡ is_held scheme trace hart x
  is_held-placed = same_tests _ _ _ _ (held_iff scheme trace hart (placed root asid x)) (held_iff scheme trace hart x) (held_placed scheme trace hart x root asid g)

  pub is_current-placed : is_current scheme trace (placed root asid x) ≡ is_current scheme trace x
  is_current-placed = same_tests _ _ _ _ (current_iff scheme trace (placed root asid x)) (current_iff scheme trace x) (current_placed scheme trace hart x root asid g)

  pub is_stale-placed : is_stale scheme trace hart (placed root asid x) ≡ is_stale scheme trace hart x
  is_stale-placed = same_tests _ _ _ _ (stale_iff scheme trace hart (placed root asid x)) (stale_iff scheme trace hart x) (stale_placed scheme trace hart x root asid g)

  pub is_live_since-placed : (token : ℕ) → is_live_since scheme token trace hart (placed root asid x) ≡ is_live_since scheme token trace hart x
  is_live_since-placed token = same_tests _ _ _ _ (live_since_iff scheme token trace hart (placed root asid x)) (live_since_iff scheme token trace hart x) (since_placed scheme trace hart x root asid g token)

  pub is_dropped-placed : (newest : Record) → is_dropped scheme newest trace hart (placed root asid x) ≡ is_dropped scheme newest trace hart x
  is_dropped-placed newest = same_tests _ _ _ _ (drops_iff scheme newest trace hart (placed root asid x)) (drops_iff scheme newest trace hart x) (drops_placed scheme trace hart x root asid g newest)

  pub has_verdict-placed : (verdict : Verdict) (newest : Record) → has_verdict scheme verdict newest trace hart (placed root asid x) ≡ has_verdict scheme verdict newest trace hart x
  has_verdict-placed verdict newest =
      same_tests _ _ _ _ (verdict_iff scheme verdict newest trace hart (placed root asid x)) (verdict_iff scheme verdict newest trace hart x) (given_placed scheme trace hart x root asid g verdict newest)

  pub has_held-placed : (verdict : Verdict) → has_held scheme verdict trace hart (placed root asid x) ≡ has_held scheme verdict trace hart x
  has_held-placed verdict = same_tests _ _ _ _ (has_held_iff scheme verdict trace hart (placed root asid x)) (has_held_iff scheme verdict trace hart x) (was_placed scheme trace hart x root asid g verdict)

  pub is_new-placed : (verdict : Verdict) → is_new scheme verdict trace hart (placed root asid x) ≡ is_new scheme verdict trace hart x
  is_new-placed verdict = same_tests _ _ _ _ (new_iff scheme verdict trace hart (placed root asid x)) (new_iff scheme verdict trace hart x) (new_placed scheme trace hart x root asid g verdict)
