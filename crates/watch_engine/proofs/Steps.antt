-- What a record leaves of what is known.
use Rattle.std.proofs.Common.{◌≡◌, ℕ, ◌≤◌, ◌⊎◌, Bool, true, false, List, ◌∷◌, length, ap, sym, ◌∙◌, subst, refl, inl, inr, arith}
use Rattle.std.specs.Prelude.{◌&&◌, ◌||◌, cond, is_some, not, map, filter}
use Rattle.std.proofs.lemmas.Bool.{and_parts, and_from, or_right, not-true, true≢false, false_from_ne_true, cases_Bool}
use Rattle.pte.specs.declared.scheme.Scheme.{Scheme}
use Rattle.watch.specs.declared.trace.Record.{Record}
use Rattle.watch.specs.declared.trace.Verdict.{Verdict}
use Rattle.watch.specs.declared.trace.Verdict.TheVariants.{Free, Reuse, Claimed, Used}
use Rattle.watch.specs.Trace.{Trace}
use Rattle.watch.specs.Holding.{Translation}
use Rattle.watch.specs.ComputedTraces.{is_current, has_verdict, is_dropped, is_held, is_live, is_stale}
use Rattle.watch.proofs.ComputedTraces.{stale_iff, verdict_iff}
use Rattle.watch.proofs.Judged.{verdict-stale}
use Rattle.watch_engine.specs.declared.held.Held.{Held}
use Rattle.watch_engine.specs.declared.state.Given.{Given}
use Rattle.watch_engine.specs.Held.{IsNormalized, knows, since_after, stale_since, translation_of, with_state}
use Rattle.watch_engine.specs.State.{is_once, was_given}
use Rattle.watch_engine.specs.Follows.{AreHeld, IsKnown, last_live_of}
use Rattle.watch_engine.proofs.Lists.{KeepsKey, each_filter, each_map, knows_filter, knows_map, of_same}
use Rattle.watch_engine.proofs.Moments.{held_stale, last_within, live_now, stale_some}
use Rattle.watch_engine.proofs.Rechecks.{advanced, advanced_given, advanced_since, advanced_stays}

pub known_some : (scheme : Scheme) (trace : Trace) (i : Held) → IsKnown scheme trace i → is_some (stale_since i) ≡ is_stale scheme trace i.hart (translation_of i)
known_some scheme trace i known = ap is_some known.since ∙ stale_some scheme trace i.hart (translation_of i)

-- a verdict is given of what is stale
verdict_stale : (scheme : Scheme) (trace : Trace) (v : Verdict) (newest : Record) (hart : ℕ) (x : Translation) → has_verdict scheme v newest trace hart x ≡ true → is_stale scheme trace hart x ≡ true
verdict_stale scheme trace v newest hart x h = (stale_iff scheme trace hart x).1 (verdict-stale scheme v newest trace hart x ((verdict_iff scheme v newest trace hart x).0 h))

module _ (scheme : Scheme) (newest : Record) (trace : Trace) where
  -- the verdicts that are given at the record, of those that are given once
  abbrev pub given_at : ℕ → Translation → Given
  given_at hart x =
      record { free = has_verdict scheme Free newest trace hart x; reuse = has_verdict scheme Reuse newest trace hart x; claimed = has_verdict scheme Claimed newest trace hart x }

  at_once : (hart : ℕ) (x : Translation) (v : Verdict) → is_once v ≡ true → was_given v (given_at hart x) ≡ has_verdict scheme v newest trace hart x
  at_once hart x Free once = refl
  at_once hart x Reuse once = refl
  at_once hart x Claimed once = refl
  at_once hart x Used once = cc

  abbrev pub After : Held → Held
  After i = with_state (advanced (is_current scheme (newest ∷ trace) (translation_of i)) (length (newest ∷ trace)) (given_at i.hart (translation_of i)) i.state) i

  pub last_grows : (hart : ℕ) (x : Translation) (n : ℕ) → n ≤ last_live_of scheme trace hart x → n ≤ last_live_of scheme (newest ∷ trace) hart x
  last_grows hart x n less =
      let within = last_within scheme trace hart x in
      elim (is_live scheme (newest ∷ trace) hart x) as (λ b. n ≤ cond b (length (newest ∷ trace)) (last_live_of scheme trace hart x)) [
        | true ↦ omega arith
        | false ↦ less
      ]

  -- what is held after the record is known after it
  pub known-after : (i : Held) → IsKnown scheme trace i → is_held scheme (newest ∷ trace) i.hart (translation_of i) ≡ true → IsKnown scheme (newest ∷ trace) (After i)
  known-after i known held =
      let x : Translation = translation_of i in
      let h : ℕ = i.hart in
      let n : ℕ = length (newest ∷ trace) in
      let m : Bool = is_current scheme (newest ∷ trace) x in
      let more : Given = given_at h x in
      let stale : is_stale scheme (newest ∷ trace) h x ≡ not m = held_stale scheme (newest ∷ trace) h x held in
      record {
        there = advanced_stays m n more i.state ∙ known.there;
        held = held;
        last = last_grows h x i.last_live known.last;
        since = advanced_since m n more i.state known.there ∙ (λ j. since_after (sym stale j) n (known.since j));
        given = λ v once.
            let none : is_some (stale_since i) ≡ false → was_given v more ≡ false =
            λ fresh. at_once h x v once ∙ false_from_ne_true _ (λ t. true≢false (sym (verdict_stale scheme trace v newest h x t) ∙ (sym (known_some scheme trace i known) ∙ fresh))) in
            advanced_given v m n more i.state none ∙ (λ j. sym stale j && (at_once h x v once j || known.given v once j));
      }

  abbrev pub LiveAfter : ℕ → Translation → Bool
  LiveAfter hart x = is_live scheme (newest ∷ trace) hart x

  -- what the record leaves of what was left in spaces, and of the items, by a test and a change
  pub record Leaves (Old New : ℕ → Translation → ℕ → Type 0) (held : List Held) (p : Held → Bool) (f : Held → Held) : Type 0 where
    pub keeps : KeepsKey f
    pub left : (hart : ℕ) (x : Translation) (n : ℕ) → New hart x n → Old hart x n × (is_dropped scheme newest trace hart x ≡ false) × (is_current scheme (newest ∷ trace) x ≡ true)
    pub live : (hart : ℕ) (x : Translation) → IsNormalized x → is_live scheme trace hart x ≡ true → LiveAfter hart x ≡ false → (knows hart x (length trace) held ≡ true) ⊎ New hart x (length trace)
    pub stays : (hart : ℕ) (x : Translation) (n : ℕ) → IsNormalized x → Old hart x n → is_live scheme trace hart x ≡ false → last_live_of scheme trace hart x ≤ n → LiveAfter hart x ≡ false → is_dropped scheme newest trace hart x ≡ false → (knows hart x n held ≡ true) ⊎ New hart x n
    pub kept : (i : Held) → IsKnown scheme trace i → p i ≡ true → is_held scheme (newest ∷ trace) i.hart (translation_of i) ≡ true
    pub dropped : (i : Held) → IsKnown scheme trace i → last_live_of scheme trace i.hart (translation_of i) ≤ i.last_live → p i ≡ false → LiveAfter i.hart (translation_of i) ≡ false → is_dropped scheme newest trace i.hart (translation_of i) ≡ true
    pub after : (i : Held) → IsKnown scheme trace i → is_held scheme (newest ∷ trace) i.hart (translation_of i) ≡ true → f i ≡ After i

  pub held-before : (hart : ℕ) (x : Translation) → is_held scheme (newest ∷ trace) hart x ≡ true → LiveAfter hart x ≡ false → (is_held scheme trace hart x ≡ true) × (is_dropped scheme newest trace hart x ≡ false)
  held-before hart x held dead =
      let more : (is_held scheme trace hart x && not (is_dropped scheme newest trace hart x)) ≡ true = sym (ap (λ b. b || (is_held scheme trace hart x && not (is_dropped scheme newest trace hart x))) dead) ∙ held in
      let parts = and_parts (is_held scheme trace hart x) _ more in
      (parts.0, not-true _ parts.1)

  pub held-on : (hart : ℕ) (x : Translation) → is_held scheme trace hart x ≡ true → is_dropped scheme newest trace hart x ≡ false → is_held scheme (newest ∷ trace) hart x ≡ true
  held-on hart x held stays =
      or_right (is_live scheme (newest ∷ trace) hart x) (is_held scheme trace hart x && not (is_dropped scheme newest trace hart x))
      (and_from _ _ held (ap not stays))

  module _ (Old New : ℕ → Translation → ℕ → Type 0) (held : List Held) (p : Held → Bool) (f : Held → Held) (leaves : Leaves Old New held p f) (are : AreHeld scheme trace Old held) where
    -- what is known survives the test
    survives : (hart : ℕ) (x : Translation) → LiveAfter hart x ≡ false → is_dropped scheme newest trace hart x ≡ false → knows hart x (last_live_of scheme trace hart x) held ≡ true
        → knows hart x (last_live_of scheme trace hart x) (map f (filter p held)) ≡ true
    survives hart x dead stays known =
        knows_map f leaves.keeps hart x (last_live_of scheme trace hart x) (filter p held)
        ∙ knows_filter (IsKnown scheme trace) p hart x (last_live_of scheme trace hart x)
        (λ i k of last. elim (cases_Bool (p i)) [
          | inl t ↦ t
          | inr t ↦
              let same = of_same hart x i of in
              let dead_here : LiveAfter i.hart (translation_of i) ≡ false = (λ j. LiveAfter (same.hart j) (same.translation j)) ∙ dead in
              let last_here : last_live_of scheme trace i.hart (translation_of i) ≤ i.last_live =
              subst (λ h. last_live_of scheme trace h (translation_of i) ≤ i.last_live) (sym same.hart)
              (subst (λ (y : Translation). last_live_of scheme trace hart y ≤ i.last_live) (sym same.translation) last) in
              let gone = leaves.dropped i k last_here t dead_here in
              let here : is_dropped scheme newest trace i.hart (translation_of i) ≡ false = (λ j. is_dropped scheme newest trace (same.hart j) (same.translation j)) ∙ stays in
              absurd (true≢false (sym gone ∙ here))
        ]) held are.each known

    pub step : AreHeld scheme (newest ∷ trace) New (map f (filter p held))
    step =
        let one : (i : Held) → IsKnown scheme trace i → p i ≡ true → IsKnown scheme (newest ∷ trace) (f i) =
        λ i k t.
        let stays = leaves.kept i k t in
        subst (IsKnown scheme (newest ∷ trace)) (sym (leaves.after i k stays)) (known-after i k stays) in
        record {
          each = each_map (λ i. IsKnown scheme (newest ∷ trace) (f i)) (IsKnown scheme (newest ∷ trace)) f (λ i k. k) (filter p held) (each_filter _ _ p one held are.each);
          left = λ hart x n new.
              let l = leaves.left hart x n new in
              let old = are.left hart x n l.0 in
              record { held = held-on hart x old.held l.1; last = last_grows hart x n old.last; current = l.2 };
          all = λ hart x norm h dead.
              let was = held-before hart x h dead in
              let last : ℕ = last_live_of scheme trace hart x in
              let same : last ≡ last_live_of scheme (newest ∷ trace) hart x = sym (ap (λ b. cond b (length (newest ∷ trace)) (last_live_of scheme trace hart x)) dead) in
              let Goal : ℕ → Type 0 = λ n. (knows hart x n (map f (filter p held)) ≡ true) ⊎ New hart x n in
              let done : (knows hart x last held ≡ true) ⊎ New hart x last → Goal last =
              λ s. elim s [
                | inl known ↦ inl (survives hart x dead was.1 known)
                | inr new ↦ inr new
              ] in
              subst Goal same (done (elim (cases_Bool (is_live scheme trace hart x)) [
                | inl live ↦ subst (λ n. (knows hart x n held ≡ true) ⊎ New hart x n) (sym (live_now scheme trace hart x live)) (leaves.live hart x norm live dead)
                | inr not_live ↦ elim (are.all hart x norm was.0 not_live) [
                  | inl known ↦ inl known
                  | inr old ↦ leaves.stays hart x last norm old not_live (omega arith) dead was.1
                ]
              ]));
        }
