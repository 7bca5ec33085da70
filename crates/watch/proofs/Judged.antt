-- What verdicts say, and that later records do not change them.
use Rattle.std.proofs.Common.{ℕ, ◌<◌, [], ◌∷◌, ◌++◌, length, refl, inl, inr, arith}
use Rattle.std.specs.Prelude.{◌⊎◌, ◌↔◌}
use Rattle.std.proofs.lemmas.List.{length-append}
use Rattle.pte.specs.declared.scheme.Scheme.{Scheme}
use Rattle.watch.specs.declared.trace.Record.{Record}
use Rattle.watch.specs.declared.trace.Record.TheVariants.{GiveOut, GiveBack, ClaimEnd, Use}
use Rattle.watch.specs.declared.trace.Verdict.{Verdict}
use Rattle.watch.specs.declared.trace.Verdict.TheVariants.{Free, Reuse, Claimed, Used}
use Rattle.watch.specs.Trace.{Trace}
use Rattle.watch.specs.Holding.{Translation}
use Rattle.watch.specs.Staleness.{Stale}
use Rattle.watch.specs.Verdicts.{WasGiven, StaleSince, TakesForGone, TakenForGone, IsGiven, IsGivenAt}

-- later records leave a verdict
later-back : (scheme : Scheme) (later trace : Trace) (number : ℕ) (verdict : Verdict) (hart : ℕ) (x : Translation) → number < length trace → IsGivenAt scheme (later ++ trace) number verdict hart x → IsGivenAt scheme trace number verdict hart x
later-back scheme [] trace number verdict hart x early at = at
later-back scheme (newest ∷ later) trace number verdict hart x early (inl now) = let long = length-append later trace in absurd (omega (arith, now.0))
later-back scheme (newest ∷ later) trace number verdict hart x early (inr before) = later-back scheme later trace number verdict hart x early before

later-on : (scheme : Scheme) (later trace : Trace) (number : ℕ) (verdict : Verdict) (hart : ℕ) (x : Translation) → IsGivenAt scheme trace number verdict hart x → IsGivenAt scheme (later ++ trace) number verdict hart x
later-on scheme [] trace number verdict hart x at = at
later-on scheme (newest ∷ later) trace number verdict hart x at = inr (later-on scheme later trace number verdict hart x at)

pub later_same : (scheme : Scheme) (later trace : Trace) (number : ℕ) (verdict : Verdict) (hart : ℕ) (x : Translation) → number < length trace
    → IsGivenAt scheme (later ++ trace) number verdict hart x ↔ IsGivenAt scheme trace number verdict hart x
later_same scheme later trace number verdict hart x early = (later-back scheme later trace number verdict hart x early, later-on scheme later trace number verdict hart x)

-- no verdict is of a record that is not there
pub number-below : (scheme : Scheme) (trace : Trace) (number : ℕ) (verdict : Verdict) (hart : ℕ) (x : Translation) → IsGivenAt scheme trace number verdict hart x → number < length trace
number-below scheme [] number verdict hart x at = absurd at
number-below scheme (newest ∷ trace) number verdict hart x (inl now) = omega (arith, now.0)
number-below scheme (newest ∷ trace) number verdict hart x (inr before) = let b = number-below scheme trace number verdict hart x before in omega arith

-- the verdicts at the newest record
newest-back : (scheme : Scheme) (newest : Record) (trace : Trace) (verdict : Verdict) (hart : ℕ) (x : Translation) → IsGivenAt scheme (newest ∷ trace) (length trace) verdict hart x → IsGiven scheme verdict newest trace hart x
newest-back scheme newest trace verdict hart x (inl now) = now.1
newest-back scheme newest trace verdict hart x (inr before) = let b = number-below scheme trace (length trace) verdict hart x before in absurd (omega arith)

pub newest_holds : (scheme : Scheme) (newest : Record) (trace : Trace) (verdict : Verdict) (hart : ℕ) (x : Translation) → IsGivenAt scheme (newest ∷ trace) (length trace) verdict hart x ↔ IsGiven scheme verdict newest trace hart x
newest_holds scheme newest trace verdict hart x = (newest-back scheme newest trace verdict hart x, (λ h. inl (refl, h)))

-- each verdict is of what the hart may hold as stale
since-stale : (scheme : Scheme) (Happens : Record → Trace → Type 0) (trace : Trace) (hart : ℕ) (x : Translation) → StaleSince scheme Happens trace hart x → Stale scheme trace hart x
since-stale scheme Happens [] hart x s = absurd s
since-stale scheme Happens (newest ∷ trace) hart x s = s.0

free-stale : (scheme : Scheme) (newest : Record) (trace : Trace) (hart : ℕ) (x : Translation) → IsGiven scheme Free newest trace hart x → Stale scheme trace hart x
free-stale scheme (GiveBack of frames) trace hart x h = h.stale
free-stale scheme _ trace hart x h = absurd h

reuse-stale : (scheme : Scheme) (newest : Record) (trace : Trace) (hart : ℕ) (x : Translation) → IsGiven scheme Reuse newest trace hart x → Stale scheme trace hart x
reuse-stale scheme (GiveOut of frames) trace hart x h = h.stale
reuse-stale scheme _ trace hart x h = absurd h

claimed-stale : (scheme : Scheme) (newest : Record) (trace : Trace) (hart : ℕ) (x : Translation) → IsGiven scheme Claimed newest trace hart x → Stale scheme trace hart x
claimed-stale scheme (ClaimEnd of token) trace hart x h = since-stale scheme _ trace hart x h.stale
claimed-stale scheme _ trace hart x h = absurd h

used-gone : (scheme : Scheme) (newest : Record) (trace : Trace) (hart : ℕ) (x : Translation) → IsGiven scheme Used newest trace hart x → TakenForGone scheme trace hart x
used-gone scheme (Use of address) trace hart x h = h.1
used-gone scheme _ trace hart x h = absurd h

pub verdict-stale : (scheme : Scheme) (verdict : Verdict) (newest : Record) (trace : Trace) (hart : ℕ) (x : Translation) → IsGiven scheme verdict newest trace hart x → Stale scheme trace hart x
verdict-stale scheme Free newest trace hart x h = free-stale scheme newest trace hart x h
verdict-stale scheme Reuse newest trace hart x h = reuse-stale scheme newest trace hart x h
verdict-stale scheme Claimed newest trace hart x h = claimed-stale scheme newest trace hart x h
verdict-stale scheme Used newest trace hart x h = since-stale scheme _ trace hart x (used-gone scheme newest trace hart x h)

-- what was taken for gone had the verdict of a free or of a claim
taken-verdict : (scheme : Scheme) (newest : Record) (trace : Trace) (hart : ℕ) (x : Translation) → TakesForGone scheme newest trace hart x
    → IsGiven scheme Free newest trace hart x ⊎ IsGiven scheme Claimed newest trace hart x
taken-verdict scheme (GiveBack of frames) trace hart x t = inl t
taken-verdict scheme (ClaimEnd of token) trace hart x t = inr t
taken-verdict scheme _ trace hart x t = absurd t

free-taken : (scheme : Scheme) (newest : Record) (trace : Trace) (hart : ℕ) (x : Translation) → IsGiven scheme Free newest trace hart x → TakesForGone scheme newest trace hart x
free-taken scheme (GiveBack of frames) trace hart x h = h
free-taken scheme _ trace hart x h = absurd h

claimed-taken : (scheme : Scheme) (newest : Record) (trace : Trace) (hart : ℕ) (x : Translation) → IsGiven scheme Claimed newest trace hart x → TakesForGone scheme newest trace hart x
claimed-taken scheme (ClaimEnd of token) trace hart x h = h
claimed-taken scheme _ trace hart x h = absurd h

taken-had : (scheme : Scheme) (trace : Trace) (hart : ℕ) (x : Translation) → TakenForGone scheme trace hart x → WasGiven scheme Free trace hart x ⊎ WasGiven scheme Claimed trace hart x
taken-had scheme [] hart x g = absurd g
taken-had scheme (newest ∷ trace) hart x (s, inl t) =
    elim (taken-verdict scheme newest trace hart x t) [
      | inl f ↦ inl (s, inl f)
      | inr c ↦ inr (s, inl c)
    ]
taken-had scheme (newest ∷ trace) hart x (s, inr before) =
    elim (taken-had scheme trace hart x before) [
      | inl f ↦ inl (s, inr f)
      | inr c ↦ inr (s, inr c)
    ]

free-had : (scheme : Scheme) (trace : Trace) (hart : ℕ) (x : Translation) → WasGiven scheme Free trace hart x → TakenForGone scheme trace hart x
free-had scheme [] hart x h = absurd h
free-had scheme (newest ∷ trace) hart x (s, inl f) = (s, inl (free-taken scheme newest trace hart x f))
free-had scheme (newest ∷ trace) hart x (s, inr before) = (s, inr (free-had scheme trace hart x before))

claimed-had : (scheme : Scheme) (trace : Trace) (hart : ℕ) (x : Translation) → WasGiven scheme Claimed trace hart x → TakenForGone scheme trace hart x
claimed-had scheme [] hart x h = absurd h
claimed-had scheme (newest ∷ trace) hart x (s, inl c) = (s, inl (claimed-taken scheme newest trace hart x c))
claimed-had scheme (newest ∷ trace) hart x (s, inr before) = (s, inr (claimed-had scheme trace hart x before))

pub taken_had : (scheme : Scheme) (trace : Trace) (hart : ℕ) (x : Translation) → TakenForGone scheme trace hart x ↔ (WasGiven scheme Free trace hart x ⊎ WasGiven scheme Claimed trace hart x)
taken_had scheme trace hart x = (
  taken-had scheme trace hart x,
  (λ h. elim h [ inl f ↦ free-had scheme trace hart x f | inr c ↦ claimed-had scheme trace hart x c ]),
)

-- what had a verdict had it at some record
pub had_at : (scheme : Scheme) (verdict : Verdict) (trace : Trace) (hart : ℕ) (x : Translation) → WasGiven scheme verdict trace hart x → (number : ℕ) × IsGivenAt scheme trace number verdict hart x
had_at scheme verdict [] hart x h = absurd h
had_at scheme verdict (newest ∷ trace) hart x (s, inl now) = (length trace, inl (refl, now))
had_at scheme verdict (newest ∷ trace) hart x (s, inr before) = let at = had_at scheme verdict trace hart x before in (at.0, inr at.1)
