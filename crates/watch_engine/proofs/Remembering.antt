-- What was live is remembered before the words on its path change.
use Rattle.std.proofs.Common.{◌≡◌, ℕ, ◌<◌, ◌≤◌, ◌⊎◌, Bool, true, false, suc, Option, Some, None, List, [], ◌∷◌, take, ap, sym, ◌∙◌, subst, refl, inl, inr, arith}
use Rattle.std.specs.Prelude.{◌&&◌, cond, not, nat_le, nat_lt, is_some, zero}
use Rattle.std.proofs.lemmas.Bool.{cases_lt, and_parts, and_from, or_cases, or_left, or_right, true≢false, false_from_ne_true}
use Rattle.pte.specs.declared.scheme.Scheme.{Scheme}
use Rattle.watch.specs.declared.trace.Verdict.{Verdict}
use Rattle.watch.specs.Trace.{Trace}
use Rattle.watch.specs.Holding.{Translation}
use Rattle.watch.specs.ComputedTraces.{has_held, is_stale}
use Rattle.watch_engine.specs.declared.held.Held.{Held}
use Rattle.watch_engine.specs.declared.held.LastLive.{LastLive}
use Rattle.watch_tables.specs.Ways.{later}
use Rattle.watch_engine.specs.Held.{Each, held_from, is_listed, is_of, knows, last_translation, remembered, remembered_all, translation_of}
use Rattle.watch_engine.specs.Seen.{EachSeen}
use Rattle.watch_engine.specs.Follows.{AreHeld, IsHeldFrom, IsKnown, last_live_of, stale_since_of}
use Rattle.watch_engine.proofs.Lists.{at_most, from_at_most, from_within, is_itself, of_same, within}
use Rattle.watch_engine.proofs.Moments.{had_stale, held_stale, stale_some}
use Rattle.watch_engine.proofs.Placed.{touched}

pub none_of : (o : Option ℕ) → is_some o ≡ false → o ≡ None
none_of None e = refl
none_of (Some n) e = cc

pub not_stale_none : (scheme : Scheme) (trace : Trace) (hart : ℕ) (x : Translation) → is_stale scheme trace hart x ≡ false → stale_since_of scheme trace hart x ≡ None
not_stale_none scheme trace hart x e = none_of (stale_since_of scheme trace hart x) (stale_some scheme trace hart x ∙ e)

pub not_stale_not_had : (scheme : Scheme) (verdict : Verdict) (trace : Trace) (hart : ℕ) (x : Translation) → is_stale scheme trace hart x ≡ false → has_held scheme verdict trace hart x ≡ false
not_stale_not_had scheme verdict trace hart x e = false_from_ne_true _ (λ h. true≢false (sym (had_stale scheme verdict trace hart x h) ∙ e))

nat_cases : (a b : ℕ) → (a < b) ⊎ (b ≤ a)
nat_cases a b = cases_lt a b

at_most_twice : (a b c : ℕ) → a ≤ b → b ≤ c → a ≤ c
at_most_twice a b c p q = omega arith

later-left : (a b : ℕ) → a ≤ later a b
later-left a b =
    let go : (t : Bool) → nat_lt a b ≡ t → a ≤ cond t b a =
    λ t. elim t as (λ t. nat_lt a b ≡ t → a ≤ cond t b a) [
      | true ↦ λ h. let less = within a b h in omega arith
      | false ↦ λ h. omega arith
    ] in
    go (nat_lt a b) refl

later-right : (a b : ℕ) → b ≤ later a b
later-right a b =
    let go : (t : Bool) → nat_lt a b ≡ t → b ≤ cond t b a =
    λ t. elim t as (λ t. nat_lt a b ≡ t → b ≤ cond t b a) [
      | true ↦ λ h. omega arith
      | false ↦ λ h. elim (nat_cases a b) [
        | inl less ↦ absurd (true≢false (sym (from_within a b less) ∙ h))
        | inr more ↦ more
      ]
    ] in
    go (nat_lt a b) refl

later-both : (a b c : ℕ) → a ≤ c → b ≤ c → later a b ≤ c
later-both a b c p q = elim (nat_lt a b) as (λ t. cond t b a ≤ c) [ true ↦ q | false ↦ p ]

pub fine_of : (scheme : Scheme) (trace : Trace) (hart : ℕ) (x : Translation) (n : ℕ) → IsHeldFrom scheme trace hart x n → is_stale scheme trace hart x ≡ false
fine_of scheme trace hart x n from = held_stale scheme trace hart x from.held ∙ ap not from.current

module _ (scheme : Scheme) (trace : Trace) where
  abbrev pub IsGood : LastLive → Type 0
  IsGood s = IsHeldFrom scheme trace s.hart (last_translation s) s.last_live

  seen_known : (s : LastLive) → IsGood s → IsKnown scheme trace (held_from s)
  seen_known s good =
      let fine = fine_of scheme trace s.hart (last_translation s) s.last_live good in
      record {
        there = refl;
        held = good.held;
        last = good.last;
        since = sym (not_stale_none scheme trace s.hart (last_translation s) fine);
        given = λ v once. sym (not_stale_not_had scheme v trace s.hart (last_translation s) fine);
      }

  touched_known : (s : LastLive) (i : Held) → s.last_live ≤ last_live_of scheme trace i.hart (translation_of i) → IsKnown scheme trace i → IsKnown scheme trace (touched s i)
  touched_known s i last known = record {
    there = known.there;
    held = known.held;
    last = later-both i.last_live s.last_live _ known.last last;
    since = known.since;
    given = known.given;
  }

  each_remembered : (s : LastLive) → IsGood s → (held : List Held) → Each (IsKnown scheme trace) held → Each (IsKnown scheme trace) (remembered s held)
  each_remembered s good [] e = (seen_known s good, tt)
  each_remembered s good (i ∷ held) e =
      let go : (b : Bool) → is_of s.hart (last_translation s) i ≡ b → Each (IsKnown scheme trace) (cond b (touched s i ∷ held) (i ∷ remembered s held)) =
      λ b. elim b as (λ b. is_of s.hart (last_translation s) i ≡ b → Each (IsKnown scheme trace) (cond b (touched s i ∷ held) (i ∷ remembered s held))) [
        | true ↦ λ t.
            let same = of_same s.hart (last_translation s) i t in
            let last : s.last_live ≤ last_live_of scheme trace i.hart (translation_of i) =
            subst (λ h. s.last_live ≤ last_live_of scheme trace h (translation_of i)) (sym same.hart)
            (subst (λ (y : Translation). s.last_live ≤ last_live_of scheme trace s.hart y) (sym same.translation) good.last) in
            (touched_known s i last e.0, e.1)
        | false ↦ λ t. (e.0, each_remembered s good held e.1)
      ] in
      go (is_of s.hart (last_translation s) i) refl

-- whom it has
still-known : (s : LastLive) (hart : ℕ) (x : Translation) (n : ℕ) (i : Held) → (is_of hart x i && nat_le n i.last_live) ≡ true → (is_of hart x i && nat_le n (later i.last_live s.last_live)) ≡ true
still-known s hart x n i h =
    let p = and_parts (is_of hart x i) (nat_le n i.last_live) h in
    let less : n ≤ i.last_live = at_most n i.last_live p.1 in
    let more : i.last_live ≤ later i.last_live s.last_live = later-left i.last_live s.last_live in
    and_from _ _ p.0 (from_at_most n (later i.last_live s.last_live) (at_most_twice n i.last_live (later i.last_live s.last_live) less more))

pub knows_remembered : (s : LastLive) (hart : ℕ) (x : Translation) (n : ℕ) (held : List Held) → knows hart x n held ≡ true → knows hart x n (remembered s held) ≡ true
knows_remembered s hart x n [] h = cc
knows_remembered s hart x n (i ∷ held) h =
    elim (is_of s.hart (last_translation s) i) as (λ b. knows hart x n (cond b (touched s i ∷ held) (i ∷ remembered s held)) ≡ true) [
      | true ↦ elim (or_cases (is_of hart x i && nat_le n i.last_live) (knows hart x n held) h) [
        | inl here ↦ or_left _ _ (still-known s hart x n i here)
        | inr there ↦ or_right (is_of hart x (touched s i) && nat_le n (later i.last_live s.last_live)) _ there
      ]
      | false ↦ elim (or_cases (is_of hart x i && nat_le n i.last_live) (knows hart x n held) h) [
        | inl here ↦ or_left _ _ here
        | inr there ↦ or_right (is_of hart x i && nat_le n i.last_live) _ (knows_remembered s hart x n held there)
      ]
    ]

remembered_knows : (s : LastLive) (n : ℕ) → n ≤ s.last_live → (held : List Held) → knows s.hart (last_translation s) n (remembered s held) ≡ true
remembered_knows s n less [] = or_left _ _ (and_from _ _ (is_itself (held_from s)) (from_at_most n s.last_live less))
remembered_knows s n less (i ∷ held) =
    let go : (b : Bool) → is_of s.hart (last_translation s) i ≡ b → knows s.hart (last_translation s) n (cond b (touched s i ∷ held) (i ∷ remembered s held)) ≡ true =
    λ b. elim b as (λ b. is_of s.hart (last_translation s) i ≡ b → knows s.hart (last_translation s) n (cond b (touched s i ∷ held) (i ∷ remembered s held)) ≡ true) [
      | true ↦ λ t. or_left _ _ (and_from _ _ t (from_at_most n (later i.last_live s.last_live) (at_most_twice n s.last_live (later i.last_live s.last_live) less (later-right i.last_live s.last_live))))
      | false ↦ λ t. or_right (is_of s.hart (last_translation s) i && nat_le n i.last_live) _ (remembered_knows s n less held)
    ] in
    go (is_of s.hart (last_translation s) i) refl

pub still_knows : (hart : ℕ) (x : Translation) (n : ℕ) (seen : List LastLive) (held : List Held) → knows hart x n held ≡ true → knows hart x n (remembered_all seen held) ≡ true
still_knows hart x n [] held h = h
still_knows hart x n (s ∷ seen) held h = still_knows hart x n seen (remembered s held) (knows_remembered s hart x n held h)

pub listed_known : (hart : ℕ) (x : Translation) (n : ℕ) (seen : List LastLive) (held : List Held) → is_listed hart x n seen ≡ true → knows hart x n (remembered_all seen held) ≡ true
listed_known hart x n [] held h = cc
listed_known hart x n (s ∷ seen) held h =
    elim (or_cases (is_of hart x (held_from s) && nat_le n s.last_live) (is_listed hart x n seen) h) [
      | inl here ↦
          let p = and_parts (is_of hart x (held_from s)) (nat_le n s.last_live) here in
          let same = of_same hart x (held_from s) p.0 in
          still_knows hart x n seen (remembered s held)
          ((λ j. knows (sym same.hart j) (sym same.translation j) n (remembered s held)) ∙ remembered_knows s n (at_most n s.last_live p.1) held)
      | inr there ↦ listed_known hart x n seen (remembered s held) there
    ]

pub take_seen : (P : LastLive → Type 0) (n : ℕ) (seen : List LastLive) → EachSeen P seen → EachSeen P (take n seen)
take_seen P zero seen e = tt
take_seen P (suc n) [] e = tt
take_seen P (suc n) (s ∷ seen) e = (e.0, take_seen P n seen e.1)

pub remembered_are : (scheme : Scheme) (trace : Trace) (IsLeft : ℕ → Translation → ℕ → Type 0) (seen : List LastLive) (held : List Held) → EachSeen (IsGood scheme trace) seen → AreHeld scheme trace IsLeft held → AreHeld scheme trace IsLeft (remembered_all seen held)
remembered_are scheme trace IsLeft [] held e are = are
remembered_are scheme trace IsLeft (s ∷ seen) held e are =
    remembered_are scheme trace IsLeft seen (remembered s held) e.1 (record {
      each = each_remembered scheme trace s e.0 held are.each;
      left = are.left;
      all = λ hart x norm h dead. elim (are.all hart x norm h dead) [
        | inl known ↦ inl (knows_remembered s hart x (last_live_of scheme trace hart x) held known)
        | inr left ↦ inr left
      ];
    })
