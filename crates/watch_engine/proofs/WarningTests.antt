-- Lists of warnings, the moment from which a translation is stale and what one warning shows, by
-- tests that compute.
use Rattle.std.proofs.Common.{◌≡◌, ℕ, Bool, true, false, ◌<◌, zero, suc, List, [], ◌∷◌, length, get_or, sym, ◌∙◌, subst, refl, inl, inr, arith}
use Rattle.std.specs.Prelude.{◌&&◌, cond, Contains}
use Rattle.std.specs.List.{AllPairs}
use Rattle.std.proofs.lemmas.Bool.{and_from, and_parts, true≢false}
use Rattle.pte.specs.declared.scheme.Scheme.TheVariants.{Sv39}
use Rattle.watch.specs.declared.trace.Frames.{Frames}
use Rattle.watch.specs.declared.trace.Record.{Record}
use Rattle.watch.specs.declared.trace.Record.TheVariants.{ClaimEnd, GiveBack, GiveOut, Use}
use Rattle.watch.specs.declared.trace.Verdict.{Verdict}
use Rattle.watch.specs.declared.trace.Verdict.TheVariants.{Claimed, Free, Reuse, Used}
use Rattle.watch.specs.Trace.{Trace}
use Rattle.watch.specs.Holding.{MayHold, Translation}
use Rattle.watch.specs.Verdicts.{IsGiven}
use Rattle.watch.specs.ComputedTraces.{has_verdict, is_new, is_stale}
use Rattle.watch.proofs.ComputedTraces.{new_iff, stale_iff, verdict_iff}
use Rattle.watch.proofs.Gone.{nothing_held}
use Rattle.watch.proofs.Judged.{verdict-stale}
use Rattle.watch_engine.specs.declared.warning.Warning.{Warning}
use Rattle.watch_engine.specs.Warnings.{AreApart, AreWarnings, IsDue, IsStaleFrom, Shows, shown_of}
use Rattle.watch_engine.proofs.WarningLaws.{as_long, moment_begun, moment_kept, one_moment, since_stale}
use Rattle.watch_engine.proofs.OnePage.{Among, Candidate}

-- the moment from which a translation is stale
abbrev pub begun : Trace → ℕ → Translation → ℕ
begun [] hart x = 0
begun (newest ∷ trace) hart x = cond (is_stale Sv39 trace hart x) (begun trace hart x) (length (newest ∷ trace))

stale_begun : (trace : Trace) (hart : ℕ) (x : Translation) → is_stale Sv39 trace hart x ≡ true → IsStaleFrom Sv39 (begun trace hart x) trace hart x
stale_begun [] hart x stale = absurd (nothing_held Sv39 [] hart x refl ((stale_iff Sv39 [] hart x).0 stale).held)
stale_begun (newest ∷ trace) hart x stale =
    let now = (stale_iff Sv39 (newest ∷ trace) hart x).0 stale in
    let go : (b : Bool) → is_stale Sv39 trace hart x ≡ b → IsStaleFrom Sv39 (cond b (begun trace hart x) (length (newest ∷ trace))) (newest ∷ trace) hart x =
    λ b. elim b as (λ b. is_stale Sv39 trace hart x ≡ b → IsStaleFrom Sv39 (cond b (begun trace hart x) (length (newest ∷ trace))) (newest ∷ trace) hart x) [
      | true ↦ λ was. moment_kept Sv39 hart x (begun trace hart x) newest trace (stale_begun trace hart x was) now
      | false ↦ λ was. moment_begun Sv39 hart x newest trace (λ s. true≢false (sym ((stale_iff Sv39 trace hart x).1 s) ∙ was)) now
    ] in
    go (is_stale Sv39 trace hart x) refl

pub began : (trace : Trace) (hart : ℕ) (x : Translation) (moment : ℕ) → is_stale Sv39 trace hart x ≡ true → begun trace hart x ≡ moment → IsStaleFrom Sv39 moment trace hart x
began trace hart x moment stale is = subst (λ m. IsStaleFrom Sv39 m trace hart x) is (stale_begun trace hart x stale)

pub began_otherwise : (trace : Trace) (hart : ℕ) (x : Translation) (moment other : ℕ) → IsStaleFrom Sv39 moment trace hart x → (moment ≡ other → ⊥) → ¬ IsStaleFrom Sv39 other trace hart x
began_otherwise trace hart x moment other is differs p = differs (one_moment Sv39 hart x moment other trace is p)

pub never_began : (trace : Trace) (hart : ℕ) (x : Translation) (moment : ℕ) → is_stale Sv39 trace hart x ≡ false → ¬ IsStaleFrom Sv39 moment trace hart x
never_began trace hart x moment not_stale p = true≢false (sym ((stale_iff Sv39 trace hart x).1 (since_stale Sv39 _ trace hart x p.since)) ∙ not_stale)

-- a verdict that is given and new
abbrev pub is_due : Verdict → Record → Trace → ℕ → Translation → Bool
is_due verdict newest trace hart x = has_verdict Sv39 verdict newest trace hart x && is_new Sv39 verdict trace hart x

pub due_by : (verdict : Verdict) (newest : Record) (trace : Trace) (hart : ℕ) (x : Translation) → is_due verdict newest trace hart x ≡ true → IsDue Sv39 verdict newest trace hart x
due_by verdict newest trace hart x is =
    let parts = and_parts (has_verdict Sv39 verdict newest trace hart x) (is_new Sv39 verdict trace hart x) is in
    record { given = (verdict_iff Sv39 verdict newest trace hart x).0 parts.0; fresh = (new_iff Sv39 verdict trace hart x).0 parts.1 }

pub not_due : (verdict : Verdict) (newest : Record) (trace : Trace) (hart : ℕ) (x : Translation) → is_due verdict newest trace hart x ≡ false → ¬ IsDue Sv39 verdict newest trace hart x
not_due verdict newest trace hart x none due =
    true≢false (sym (and_from _ _ ((verdict_iff Sv39 verdict newest trace hart x).1 due.given) ((new_iff Sv39 verdict trace hart x).1 due.fresh)) ∙ none)

-- which verdict a record may give
pub only_free : (by : ℕ) (frames : Frames) (trace : Trace) (v : Verdict) (hart : ℕ) (x : Translation) → IsGiven Sv39 v (GiveBack by frames) trace hart x → v ≡ Free
only_free by frames trace Free hart x g = refl
only_free by frames trace Reuse hart x g = absurd g
only_free by frames trace Claimed hart x g = absurd g
only_free by frames trace Used hart x g = absurd g

pub only_reuse : (by : ℕ) (frames : Frames) (trace : Trace) (v : Verdict) (hart : ℕ) (x : Translation) → IsGiven Sv39 v (GiveOut by frames) trace hart x → v ≡ Reuse
only_reuse by frames trace Free hart x g = absurd g
only_reuse by frames trace Reuse hart x g = refl
only_reuse by frames trace Claimed hart x g = absurd g
only_reuse by frames trace Used hart x g = absurd g

pub only_claimed : (by token : ℕ) (trace : Trace) (v : Verdict) (hart : ℕ) (x : Translation) → IsGiven Sv39 v (ClaimEnd by token) trace hart x → v ≡ Claimed
only_claimed by token trace Free hart x g = absurd g
only_claimed by token trace Reuse hart x g = absurd g
only_claimed by token trace Claimed hart x g = refl
only_claimed by token trace Used hart x g = absurd g

pub only_used : (by address : ℕ) (trace : Trace) (v : Verdict) (hart : ℕ) (x : Translation) → IsGiven Sv39 v (Use by address) trace hart x → v ≡ Used
only_used by address trace Free hart x g = absurd g
only_used by address trace Reuse hart x g = absurd g
only_used by address trace Claimed hart x g = absurd g
only_used by address trace Used hart x g = refl

-- lists
abbrev pub AllRight : Record → Trace → List Warning → Type 0
AllRight newest trace [] = Unit {0}
AllRight newest trace (w ∷ warnings) = (IsDue Sv39 w.verdict newest trace w.hart (shown_of w) × IsStaleFrom Sv39 w.stale_since trace w.hart (shown_of w)) × AllRight newest trace warnings

right_at : (newest : Record) (trace : Trace) (warnings : List Warning) (k : ℕ) (d : Warning) → AllRight newest trace warnings → k < length warnings
    → IsDue Sv39 (get_or warnings k d).verdict newest trace (get_or warnings k d).hart (shown_of (get_or warnings k d)) × IsStaleFrom Sv39 (get_or warnings k d).stale_since trace (get_or warnings k d).hart (shown_of (get_or warnings k d))
right_at newest trace [] k d all within = absurd (omega arith)
right_at newest trace (w ∷ warnings) zero d all within = all.0
right_at newest trace (w ∷ warnings) (suc k) d all within = right_at newest trace warnings k d all.1 (omega arith)

-- a warning shows it
abbrev pub IsShown : Verdict → List Warning → ℕ → Translation → Type 0
IsShown verdict warnings hart x = (w : Warning) × Contains warnings w × (w.verdict ≡ verdict) × (w.hart ≡ hart) × Shows (shown_of w) x

-- of each candidate the verdict is not due, or a warning shows it
abbrev pub AllShown : Verdict → Record → Trace → List Warning → List Candidate → Type 0
AllShown verdict newest trace warnings [] = Unit {0}
AllShown verdict newest trace warnings (c ∷ candidates) =
    (IsDue Sv39 verdict newest trace c.hart c.translation → IsShown verdict warnings c.hart c.translation) × AllShown verdict newest trace warnings candidates

among_shown : (verdict : Verdict) (newest : Record) (trace : Trace) (warnings : List Warning) (candidates : List Candidate) (hart : ℕ) (x : Translation) → AllShown verdict newest trace warnings candidates → Among candidates hart x
    → IsDue Sv39 verdict newest trace hart x → IsShown verdict warnings hart x
among_shown verdict newest trace warnings [] hart x all among due = absurd among
among_shown verdict newest trace warnings (c ∷ candidates) hart x all (inl is) due =
    subst (λ h. IsShown verdict warnings h x) (sym is.0)
    (subst (λ (y : Translation). IsShown verdict warnings c.hart y) (sym is.1)
    (all.0 (subst (λ h. IsDue Sv39 verdict newest trace h c.translation) is.0 (subst (λ (y : Translation). IsDue Sv39 verdict newest trace hart y) is.1 due))))
among_shown verdict newest trace warnings (c ∷ candidates) hart x all (inr more) due = among_shown verdict newest trace warnings candidates hart x all.1 more due

pub are_warnings : (candidates : List Candidate) (verdict : Verdict) (newest : Record) (trace : Trace) (warnings : List Warning) → ((v : Verdict) (hart : ℕ) (x : Translation) → IsGiven Sv39 v newest trace hart x → v ≡ verdict)
    → ((hart : ℕ) (x : Translation) → MayHold Sv39 trace hart x → Among candidates hart x) → AllRight newest trace warnings → AllShown verdict newest trace warnings candidates → AllPairs AreApart warnings → AreWarnings Sv39 newest trace warnings
are_warnings candidates verdict newest trace warnings gives only right shown apart = record {
  each = λ w c. subst (λ (u : Warning). IsDue Sv39 u.verdict newest trace u.hart (shown_of u) × IsStaleFrom Sv39 u.stale_since trace u.hart (shown_of u)) c.2 (right_at newest trace warnings c.0 w right c.1);
  all = λ v hart x due.
      let is : v ≡ verdict = gives v hart x due.given in
      let held = (verdict-stale Sv39 v newest trace hart x due.given).held in
      subst (λ u. IsShown u warnings hart x) (sym is) (among_shown verdict newest trace warnings candidates hart x shown (only hart x held) (subst (λ u. IsDue Sv39 u newest trace hart x) is due));
  once = apart;
}

pub no_pairs : AllPairs AreApart []
no_pairs i j d less within = absurd (omega arith)

pub one_alone : (w : Warning) → AllPairs AreApart (w ∷ [])
one_alone w i j d less within = absurd (omega arith)

pub two_apart : (v w : Warning) → AreApart v w → AllPairs AreApart (v ∷ w ∷ [])
two_apart v w apart zero zero d less within = absurd (omega arith)
two_apart v w apart zero (suc zero) d less within = apart
two_apart v w apart (suc i) (suc zero) d less within = absurd (omega arith)
two_apart v w apart (suc i) zero d less within = absurd (omega arith)
two_apart v w apart i (suc (suc j)) d less within = absurd (omega arith)

pub apart_by_hart : (v w : Warning) → (v.hart ≡ w.hart → ⊥) → AreApart v w
apart_by_hart v w differs verdict hart x s t = absurd (differs hart)

-- lists that are not the warnings
pub other_length : (newest : Record) (trace : Trace) (warnings others : List Warning) → AreWarnings Sv39 newest trace warnings → (length warnings ≡ length others → ⊥) → ¬ AreWarnings Sv39 newest trace others
other_length newest trace warnings others p differs q = differs (as_long Sv39 newest trace warnings others p q)

pub first_not_due : (newest : Record) (trace : Trace) (w : Warning) (warnings : List Warning) → is_due w.verdict newest trace w.hart (shown_of w) ≡ false → ¬ AreWarnings Sv39 newest trace (w ∷ warnings)
first_not_due newest trace w warnings none p = not_due w.verdict newest trace w.hart (shown_of w) none (p.each w (0, omega arith, refl)).0

pub first_not_from : (newest : Record) (trace : Trace) (w : Warning) (warnings : List Warning) → ¬ IsStaleFrom Sv39 w.stale_since trace w.hart (shown_of w) → ¬ AreWarnings Sv39 newest trace (w ∷ warnings)
first_not_from newest trace w warnings otherwise p = otherwise (p.each w (0, omega arith, refl)).1
