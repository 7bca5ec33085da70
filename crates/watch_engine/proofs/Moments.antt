-- When a translation was live last, and since when it is stale.
use Rattle.std.proofs.Common.{◌≡◌, ℕ, Bool, true, false, ◌<◌, ◌≤◌, Option, Some, None, [], ◌∷◌, length, ap, sym, ◌∙◌, refl, arith}
use Rattle.std.specs.Prelude.{◌&&◌, ◌||◌, cond, not, nat_le, is_some}
use Rattle.std.proofs.lemmas.Bool.{and_parts, le-leb, lt-leb}
use Rattle.pte.specs.declared.scheme.Scheme.{Scheme}
use Rattle.watch.specs.declared.trace.Verdict.{Verdict}
use Rattle.watch.specs.Trace.{Trace, begins_claim, begins_fence}
use Rattle.watch.specs.Holding.{Translation}
use Rattle.watch.specs.ComputedTraces.{is_current, has_held, is_held, is_live, is_live_since, is_stale, is_stale_since_claim}
use Rattle.watch_engine.specs.Held.{is_by, since_after}
use Rattle.watch_engine.specs.Open.{claim_begun, fence_begun}
use Rattle.watch_engine.specs.Follows.{last_live_of, stale_since_of}

pub last_within : (scheme : Scheme) (trace : Trace) (hart : ℕ) (x : Translation) → last_live_of scheme trace hart x ≤ length trace
last_within scheme [] hart x = omega arith
last_within scheme (newest ∷ trace) hart x =
    let rest = last_within scheme trace hart x in
    elim (is_live scheme (newest ∷ trace) hart x) as (λ b. cond b (length (newest ∷ trace)) (last_live_of scheme trace hart x) ≤ length (newest ∷ trace)) [
      | true ↦ omega arith
      | false ↦ omega arith
    ]

pub begun_within : (token : ℕ) (trace : Trace) → fence_begun token trace ≤ length trace
begun_within token [] = omega arith
begun_within token (newest ∷ trace) =
    let rest = begun_within token trace in
    elim (begins_fence token newest) as (λ b. cond b (length (newest ∷ trace)) (fence_begun token trace) ≤ length (newest ∷ trace)) [
      | true ↦ omega arith
      | false ↦ omega arith
    ]

pub claim_within : (token : ℕ) (trace : Trace) → claim_begun token trace ≤ length trace
claim_within token [] = omega arith
claim_within token (newest ∷ trace) =
    let rest = claim_within token trace in
    elim (begins_claim token newest) as (λ b. cond b (length (newest ∷ trace)) (claim_begun token trace) ≤ length (newest ∷ trace)) [
      | true ↦ omega arith
      | false ↦ omega arith
    ]

-- what is live was live last now
pub live_now : (scheme : Scheme) (trace : Trace) (hart : ℕ) (x : Translation) → is_live scheme trace hart x ≡ true → last_live_of scheme trace hart x ≡ length trace
live_now scheme [] hart x live = cc
live_now scheme (newest ∷ trace) hart x live = ap (λ b. cond b (length (newest ∷ trace)) (last_live_of scheme trace hart x)) live

-- it was live since the newest begin under a token, if there is one, exactly if it was live last after that
since_begun : (scheme : Scheme) (token : ℕ) (trace : Trace) (hart : ℕ) (x : Translation) → 0 < fence_begun token trace
    → is_live_since scheme token trace hart x ≡ nat_le (fence_begun token trace) (last_live_of scheme trace hart x)
since_begun scheme token [] hart x some = absurd (omega arith)
since_begun scheme token (newest ∷ trace) hart x some =
    let within = last_within scheme trace hart x in
    let before = begun_within token trace in
    let rest = since_begun scheme token trace hart x in
    let n : ℕ = length (newest ∷ trace) in
    let m : ℕ = fence_begun token trace in
    let l : ℕ = last_live_of scheme trace hart x in
    let s : Bool = is_live_since scheme token trace hart x in
    let go : (live begins : Bool) → 0 < cond begins n m → (live || (not begins && s)) ≡ nat_le (cond begins n m) (cond live n l) =
    λ live begins. elim live as (λ live. 0 < cond begins n m → (live || (not begins && s)) ≡ nat_le (cond begins n m) (cond live n l)) [
      | true ↦ elim begins as (λ begins. 0 < cond begins n m → true ≡ nat_le (cond begins n m) n) [
        | true ↦ λ p. sym (le-leb n n (omega arith))
        | false ↦ λ p. sym (le-leb m n (omega arith))
      ]
      | false ↦ elim begins as (λ begins. 0 < cond begins n m → (not begins && s) ≡ nat_le (cond begins n m) l) [
        | true ↦ λ p. sym (lt-leb n l (omega arith))
        | false ↦ λ p. rest p
      ]
    ] in
    go (is_live scheme (newest ∷ trace) hart x) (begins_fence token newest) some

pub live_since-begun : (scheme : Scheme) (token : ℕ) (trace : Trace) (hart : ℕ) (x : Translation) → 0 < fence_begun token trace
    → is_live_since scheme token trace hart x ≡ nat_le (fence_begun token trace) (last_live_of scheme trace hart x)
live_since-begun = since_begun

-- it is stale since some moment exactly if it is stale
pub stale_some : (scheme : Scheme) (trace : Trace) (hart : ℕ) (x : Translation) → is_some (stale_since_of scheme trace hart x) ≡ is_stale scheme trace hart x
stale_some scheme [] hart x = refl
stale_some scheme (newest ∷ trace) hart x =
    let go : (b : Bool) (o : Option ℕ) → is_some (since_after b (length (newest ∷ trace)) o) ≡ b =
    λ b o. elim b as (λ b. is_some (since_after b (length (newest ∷ trace)) o) ≡ b) [
      | true ↦ elim o as (λ o. is_some (since_after true (length (newest ∷ trace)) o) ≡ true) [ None ↦ refl | Some m ↦ refl ]
      | false ↦ refl
    ] in
    go (is_stale scheme (newest ∷ trace) hart x) (stale_since_of scheme trace hart x)

pub since_range : (scheme : Scheme) (trace : Trace) (hart : ℕ) (x : Translation) → (n : ℕ) → stale_since_of scheme trace hart x ≡ Some n → (0 < n) × (n ≤ length trace)
since_range scheme [] hart x n e = cc
since_range scheme (newest ∷ trace) hart x n e =
    let rest = since_range scheme trace hart x in
    let go : (b : Bool) (o : Option ℕ) → ((m : ℕ) → o ≡ Some m → (0 < m) × (m ≤ length trace)) → since_after b (length (newest ∷ trace)) o ≡ Some n → (0 < n) × (n ≤ length (newest ∷ trace)) =
    λ b o. elim b as (λ b. ((m : ℕ) → o ≡ Some m → (0 < m) × (m ≤ length trace)) → since_after b (length (newest ∷ trace)) o ≡ Some n → (0 < n) × (n ≤ length (newest ∷ trace))) [
      | true ↦ elim o as (λ o. ((m : ℕ) → o ≡ Some m → (0 < m) × (m ≤ length trace)) → since_after true (length (newest ∷ trace)) o ≡ Some n → (0 < n) × (n ≤ length (newest ∷ trace))) [
        | None ↦ λ r e. let same : length (newest ∷ trace) ≡ n = cc in (omega arith, omega arith)
        | Some m ↦ λ r e. let same : m ≡ n = cc in let p = r m refl in (omega arith, omega arith)
      ]
      | false ↦ λ r e. cc
    ] in
    go (is_stale scheme (newest ∷ trace) hart x) (stale_since_of scheme trace hart x) rest e

-- it is stale since before the newest begin of a claim exactly if it is stale since a moment no later
pub stale_since-claim : (scheme : Scheme) (token : ℕ) (trace : Trace) (hart : ℕ) (x : Translation)
    → is_stale_since_claim scheme token trace hart x ≡ is_by (stale_since_of scheme trace hart x) (claim_begun token trace)
stale_since-claim scheme token [] hart x = refl
stale_since-claim scheme token (newest ∷ trace) hart x =
    let rest = stale_since-claim scheme token trace hart x in
    let before = claim_within token trace in
    let range = since_range scheme trace hart x in
    let n : ℕ = length (newest ∷ trace) in
    let m : ℕ = claim_begun token trace in
    let s : Bool = is_stale_since_claim scheme token trace hart x in
    let go : (stale begins : Bool) (o : Option ℕ) → ((k : ℕ) → o ≡ Some k → (0 < k) × (k ≤ length trace)) → s ≡ is_by o m → (stale && (begins || s)) ≡ is_by (since_after stale n o) (cond begins n m) =
    λ stale begins o. elim stale as (λ stale. ((k : ℕ) → o ≡ Some k → (0 < k) × (k ≤ length trace)) → s ≡ is_by o m → (stale && (begins || s)) ≡ is_by (since_after stale n o) (cond begins n m)) [
      | true ↦ elim o as (λ o. ((k : ℕ) → o ≡ Some k → (0 < k) × (k ≤ length trace)) → s ≡ is_by o m → (begins || s) ≡ is_by (since_after true n o) (cond begins n m)) [
        | None ↦ λ r e. elim begins as (λ begins. (begins || s) ≡ nat_le n (cond begins n m)) [
          | true ↦ sym (le-leb n n (omega arith))
          | false ↦ e ∙ sym (lt-leb n m (omega arith))
        ]
        | Some k ↦ λ r e. elim begins as (λ begins. (begins || s) ≡ nat_le k (cond begins n m)) [
          | true ↦ let p = r k refl in sym (le-leb k n (omega arith))
          | false ↦ e
        ]
      ]
      | false ↦ λ r e. refl
    ] in
    go (is_stale scheme (newest ∷ trace) hart x) (begins_claim token newest) (stale_since_of scheme trace hart x) range rest

-- what had a verdict is stale
pub had_stale : (scheme : Scheme) (verdict : Verdict) (trace : Trace) (hart : ℕ) (x : Translation) → has_held scheme verdict trace hart x ≡ true → is_stale scheme trace hart x ≡ true
had_stale scheme verdict [] hart x h = cc
had_stale scheme verdict (newest ∷ trace) hart x h = (and_parts (is_stale scheme (newest ∷ trace) hart x) _ h).0

-- what is held is stale exactly if it is not mapped
pub held_stale : (scheme : Scheme) (trace : Trace) (hart : ℕ) (x : Translation) → is_held scheme trace hart x ≡ true → is_stale scheme trace hart x ≡ not (is_current scheme trace x)
held_stale scheme trace hart x held = ap (λ b. b && not (is_current scheme trace x)) held
