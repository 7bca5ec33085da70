-- What a fence surely takes from a hart, the hart may not hold.
use Rattle.std.proofs.Common.{◌≡◌, ◌<◌, ◌≤◌, ℕ, true, false, [], ◌∷◌, Option, Some, None, ap, arith, inl, inr, length, refl, sym}
use Rattle.std.specs.Prelude.{◌==◌, cond}
use Rattle.std.proofs.lemmas.Bool.{and_parts, eqb-true, ltb-true, true≢false}
use Rattle.pte.specs.declared.scheme.Scheme.{Scheme}
use Rattle.watch.specs.declared.trace.Record.{Record}
use Rattle.watch.specs.declared.trace.Record.TheVariants.{Fence, RemoteEnd}
use Rattle.watch.specs.declared.trace.RemoteFence.{RemoteFence}
use Rattle.watch.specs.Holding.{DropsAtEnd, Live, LiveSince, MayHold, Translation, is_covered, names}
use Rattle.watch.specs.Staleness.{Stale}
use Rattle.watch.specs.Trace.{Trace, begins_fence, fence_of}
use Rattle.watch_engine.specs.declared.warning.Warning.{Warning}
use Rattle.watch_engine.specs.Open.{fence_begun}
use Rattle.watch_engine.specs.Warnings.{StaleFrom, shown_of}
use Rattle.watch_causes.specs.Reaches.{takes, takes_at_end}

abbrev NeverBoth : Type 0
NeverBoth =
    (scheme : Scheme) (trace : Trace) (hart : ℕ) (x : Translation) → Live scheme trace hart x → ¬ Stale scheme trace hart x

begun-within : (token : ℕ) (trace : Trace) → fence_begun token trace ≤ length trace
begun-within token [] = omega arith
begun-within token (r ∷ trace) =
    let rest = begun-within token trace in
    elim (begins_fence token r) as (λ b. cond b (length (r ∷ trace)) (fence_begun token trace) ≤ length (r ∷ trace)) [
      | true ↦ omega arith
      | false ↦ omega (arith, rest)
    ]

stale-now : (scheme : Scheme) (moment : ℕ) (trace : Trace) (hart : ℕ) (x : Translation) → StaleFrom scheme moment trace hart x → Stale scheme trace hart x
stale-now scheme moment [] hart x since = absurd since
stale-now scheme moment (r ∷ trace) hart x since = since.0

not-live : NeverBoth → (scheme : Scheme) (moment token hart : ℕ) (x : Translation) (trace : Trace) → StaleFrom scheme moment trace hart x
    → moment < fence_begun token trace → ¬ LiveSince scheme token trace hart x
not-live never scheme moment token hart x [] since late = λ lives. lives
not-live never scheme moment token hart x (r ∷ trace) (now, before) late = λ lives.
    elim lives [
      | inl live ↦ never scheme (r ∷ trace) hart x live now
      | inr more ↦
          let begun : fence_begun token (r ∷ trace) ≡ fence_begun token trace = ap (λ b. cond b (length (r ∷ trace)) (fence_begun token trace)) more.0 in
          elim before [
            | inl here ↦ omega (arith, here, late, begun, begun-within token trace)
            | inr earlier ↦ not-live never scheme moment token hart x trace earlier (omega (arith, late, begun)) more.1
          ]
    ]

drops-at-end : NeverBoth → (scheme : Scheme) (token : ℕ) (trace : Trace) (w : Warning) → StaleFrom scheme w.stale_since trace w.hart (shown_of w)
    → (o : Option RemoteFence) → fence_of trace token ≡ o → takes_at_end scheme w (fence_begun token trace) o ≡ true → DropsAtEnd scheme token trace w.hart (shown_of w)
drops-at-end never scheme token trace w since None begun is = absurd (true≢false (sym is))
drops-at-end never scheme token trace w since (Some fence) begun is =
    let named = and_parts (names fence w.hart) _ is in
    let covered = and_parts (is_covered scheme fence w.entry) _ named.1 in
    record {
      fence = fence;
      begun = begun;
      named = named.0;
      covered = covered.0;
      not_live = not-live never scheme w.stale_since token w.hart (shown_of w) trace since (ltb-true w.stale_since (fence_begun token trace) covered.1);
    }

pub taken-not-held : NeverBoth → (scheme : Scheme) (newest : Record) (trace : Trace) (w : Warning) → StaleFrom scheme w.stale_since trace w.hart (shown_of w)
    → takes scheme w newest trace ≡ true → ¬ MayHold scheme (newest ∷ trace) w.hart (shown_of w)
taken-not-held never scheme (Fence of rs1 rs2) trace w since is = λ held.
    let parts = and_parts (of == w.hart) _ is in
    elim held [
      | inl live ↦
          never scheme trace w.hart (shown_of w) (record { space = live.space; satp = live.satp; belongs = live.belongs; leaf = live.leaf })
          (stale-now scheme w.stale_since trace w.hart (shown_of w) since)
      | inr kept ↦ kept.1 (eqb-true of w.hart parts.0, parts.1)
    ]
taken-not-held never scheme (RemoteEnd of token) trace w since is = λ held.
    elim held [
      | inl live ↦
          never scheme trace w.hart (shown_of w) (record { space = live.space; satp = live.satp; belongs = live.belongs; leaf = live.leaf })
          (stale-now scheme w.stale_since trace w.hart (shown_of w) since)
      | inr kept ↦ kept.1 (drops-at-end never scheme token trace w since (fence_of trace token) refl is)
    ]
taken-not-held never scheme _ trace w since is = absurd (true≢false (sym is))
