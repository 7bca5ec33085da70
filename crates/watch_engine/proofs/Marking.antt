-- Where nothing is given that is new, all have the verdict already.
use Rattle.std.proofs.Common.{◌≡◌, Bool, true, false, List, [], ◌∷◌, ◌++◌, length, map, ap, sym, ◌∙◌, refl, arith}
use Rattle.std.specs.Prelude.{◌&&◌, ◌||◌, cond, not}
use Rattle.std.specs.List.{list_any}
use Rattle.std.proofs.lemmas.Bool.{not-false, true≢false}
use Rattle.std.proofs.lemmas.List.{length-append}
use Rattle.watch.specs.declared.trace.Frames.{Frames}
use Rattle.watch.specs.declared.trace.Verdict.{Verdict}
use Rattle.watch.specs.declared.trace.Verdict.TheVariants.{Reuse}
use Rattle.watch_engine.specs.declared.cause.Cause.{Cause}
use Rattle.watch_engine.specs.declared.cause.Cause.TheVariants.{Out}
use Rattle.watch_engine.specs.declared.held.Held.{Held}
use Rattle.watch_engine.specs.declared.held.LastLive.{LastLive}
use Rattle.watch_engine.specs.declared.warning.Warning.{Warning}
use Rattle.watch_engine.specs.Causes.{applies, is_given_by, verdict_of}
use Rattle.watch_engine.specs.Held.{Each, is_exposed_by, is_given, is_of, last_translation, marked_if, remembered, remembered_all, with_state}
use Rattle.watch_engine.specs.State.{given_too}
use Rattle.watch_engine.specs.Warnings.{is_shown, joined, warning_of, with_warning}
use Rattle.watch_engine.proofs.Placed.{touched}
use Rattle.watch_engine.proofs.Rechecks.{given_again}

-- it has the verdict already, or does not get it
abbrev pub IsMarked : Verdict → (Held → Bool) → Held → Type 0
IsMarked verdict test i = marked_if verdict test i ≡ i

not-given : (cause : Cause) (i : Held) → is_given_by cause i ≡ false → IsMarked (verdict_of cause) (applies cause) i
not-given cause i h =
    let go : (b : Bool) → applies cause i ≡ b → cond b (given_too (verdict_of cause) i.state) i.state ≡ i.state =
    λ b. elim b as (λ b. applies cause i ≡ b → cond b (given_too (verdict_of cause) i.state) i.state ≡ i.state) [
      | true ↦ λ t. given_again (verdict_of cause) i.state (not-false (is_given (verdict_of cause) i) (sym (ap (λ b. b && not (is_given (verdict_of cause) i)) t) ∙ h))
      | false ↦ λ t. refl
    ] in
    ap (λ s. with_state s i) (go (applies cause i) refl)

joined-none : (cause : Cause) (held : List Held) (w : List Warning) → joined cause held w ≡ [] → w ≡ []
joined-none cause [] w h = h
joined-none cause (i ∷ held) w h =
    let rest : with_warning cause i w ≡ [] = joined-none cause held (with_warning cause i w) h in
    let one : List Warning = warning_of (verdict_of cause) i ∷ [] in
    let go : (b : Bool) → cond b (w ++ one) w ≡ [] → w ≡ [] =
    λ b. elim b as (λ b. cond b (w ++ one) w ≡ [] → w ≡ []) [
      | true ↦ λ e. let long : length (w ++ one) ≡ 0 = ap (λ (ws : List Warning). length ws) e in let parts = length-append w one in absurd (omega arith)
      | false ↦ λ e. e
    ] in
    go (is_given_by cause i && not (list_any (is_shown i) w)) rest

given-none : (cause : Cause) (i : Held) → with_warning cause i [] ≡ [] → is_given_by cause i ≡ false
given-none cause i h =
    let go : (b : Bool) → cond (b && true) (warning_of (verdict_of cause) i ∷ []) [] ≡ [] → b ≡ false =
    λ b. elim b as (λ b. cond (b && true) (warning_of (verdict_of cause) i ∷ []) [] ≡ [] → b ≡ false) [
      | true ↦ λ e. cc
      | false ↦ λ e. refl
    ] in
    go (is_given_by cause i) h

pub all_marked : (cause : Cause) (held : List Held) → joined cause held [] ≡ [] → Each (IsMarked (verdict_of cause) (applies cause)) held
all_marked cause [] h = tt
all_marked cause (i ∷ held) h =
    let first : with_warning cause i [] ≡ [] = joined-none cause held (with_warning cause i []) h in
    (not-given cause i (given-none cause i first), all_marked cause held (ap (joined cause held) (sym first) ∙ h))

pub map_marked : (verdict : Verdict) (test : Held → Bool) (held : List Held) → Each (IsMarked verdict test) held → map (marked_if verdict test) held ≡ held
map_marked verdict test [] e = refl
map_marked verdict test (i ∷ held) e = λ j. e.0 j ∷ map_marked verdict test held e.1 j

pub still_same : (cause : Cause) (held : List Held) → joined cause held [] ≡ [] → map (marked_if (verdict_of cause) (applies cause)) held ≡ held
still_same cause held h = map_marked (verdict_of cause) (applies cause) held (all_marked cause held h)

-- what is remembered is not stale, or was there before
module _ (frames : Frames) where
  abbrev IsOut : Held → Type 0
  IsOut = IsMarked Reuse (is_exposed_by frames)

  touched-marked : (s : LastLive) (i : Held) → IsOut i → IsOut (touched s i)
  touched-marked s i h = ap (touched s) h

  remembered-marked : (s : LastLive) (held : List Held) → Each IsOut held → Each IsOut (remembered s held)
  remembered-marked s [] e = (refl, tt)
  remembered-marked s (i ∷ held) e =
      elim (is_of s.hart (last_translation s) i) as (λ b. Each IsOut (cond b (touched s i ∷ held) (i ∷ remembered s held))) [
        | true ↦ (touched-marked s i e.0, e.1)
        | false ↦ (e.0, remembered-marked s held e.1)
      ]

  each-remembered : (seen : List LastLive) (held : List Held) → Each IsOut held → Each IsOut (remembered_all seen held)
  each-remembered [] held e = e
  each-remembered (s ∷ seen) held e = each-remembered seen (remembered s held) (remembered-marked s held e)

  pub still_same_out : (seen : List LastLive) (held : List Held) → joined (Out frames) held [] ≡ [] → map (marked_if Reuse (is_exposed_by frames)) (remembered_all seen held) ≡ remembered_all seen held
  still_same_out seen held h = map_marked Reuse (is_exposed_by frames) (remembered_all seen held) (each-remembered seen held (all_marked (Out frames) held h))

-- a cause that is of none gives no warning
pub none_joined : (cause : Cause) (held : List Held) (w : List Warning) → list_any (applies cause) held ≡ false → joined cause held w ≡ w
none_joined cause [] w none = refl
none_joined cause (i ∷ held) w none =
    let go : (b : Bool) → applies cause i ≡ b → joined cause held (cond ((b && not (is_given (verdict_of cause) i)) && not (list_any (is_shown i) w)) (w ++ warning_of (verdict_of cause) i ∷ []) w) ≡ w =
    λ b. elim b as (λ b. applies cause i ≡ b → joined cause held (cond ((b && not (is_given (verdict_of cause) i)) && not (list_any (is_shown i) w)) (w ++ warning_of (verdict_of cause) i ∷ []) w) ≡ w) [
      | true ↦ λ t. absurd (true≢false (sym (ap (λ (b : Bool). b || list_any (applies cause) held) t) ∙ none))
      | false ↦ λ t. none_joined cause held w (sym (ap (λ (b : Bool). b || list_any (applies cause) held) t) ∙ none)
    ] in
    go (applies cause i) refl
