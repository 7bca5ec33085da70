-- The remote fences that have begun and not ended, in the log.
use Rattle.std.proofs.Common.{◌≡◌, ◌∙◌, ◌<◌, ◌≤◌, ℕ, Bool, true, false, List, [], ◌∷◌, ◌++◌, Option, Some, None, ap, append-nil, arith, length, refl, reverse, subst, suc, sym, zero}
use Rattle.std.specs.Prelude.{◌==◌, cond, filter, not, slice_get}
use Rattle.std.proofs.lemmas.Bool.{eqb-true}
use Rattle.std.proofs.lemmas.List.{length-reverse, reverse-append}
use Rattle.watch.specs.declared.trace.Record.{Record}
use Rattle.watch.specs.declared.trace.Record.TheVariants.{Fence, RemoteBegin, RemoteEnd}
use Rattle.watch.specs.declared.trace.RemoteFence.{RemoteFence}
use Rattle.watch.specs.Trace.{Trace, fence_of}
use Rattle.watch_engine.specs.Open.{fence_begun}
use Rattle.watch_causes.specs.declared.log.Numbered.{Numbered}
use Rattle.watch_causes.specs.declared.moves.Open.{Open}
use Rattle.watch_causes.specs.Logs.{asks_for_fence, numbered}
use Rattle.watch_causes.specs.Moves.{fence_count, fences_of, is_not_under, newest_open, open_of}

-- ---- the fences of the log grow

pub still-at : (fences more : List Numbered) (at : ℕ) → at < length fences → slice_get (fences ++ more) at ≡ slice_get fences at
still-at [] more at low = absurd (omega (arith, low))
still-at (f ∷ fences) more zero low = refl
still-at (f ∷ fences) more (suc at) low = still-at fences more at (omega (arith, low))

seam : (fences : List Numbered) (n : Numbered) → slice_get (fences ++ n ∷ []) (length fences) ≡ Some n
seam [] n = refl
seam (f ∷ fences) n = seam fences n

at-end : (trace : Trace) (n : Numbered) → slice_get (fences_of trace ++ n ∷ []) (fence_count trace) ≡ Some n
at-end trace n = subst (λ k. slice_get (fences_of trace ++ n ∷ []) k ≡ Some n) (length-reverse (numbered asks_for_fence trace)) (seam (fences_of trace) n)

abbrev one : Record → Trace → Numbered
one x trace = record { number = length (x ∷ trace); made = x }

more-fences : (x : Record) (trace : Trace) → reverse (one x trace ∷ numbered asks_for_fence trace) ≡ fences_of trace ++ one x trace ∷ []
more-fences x trace = reverse-append (one x trace ∷ []) (numbered asks_for_fence trace)

pub at-newest : (x : Record) (trace : Trace) → slice_get (reverse (one x trace ∷ numbered asks_for_fence trace)) (fence_count trace) ≡ Some (one x trace)
at-newest x trace = ap (λ fs. slice_get fs (fence_count trace)) (more-fences x trace) ∙ at-end trace (one x trace)

pub grown : (x : Record) (trace : Trace) → (more : List Numbered) × (fences_of (x ∷ trace) ≡ fences_of trace ++ more)
grown (Fence of rs1 rs2) trace = (one (Fence of rs1 rs2) trace ∷ [], more-fences (Fence of rs1 rs2) trace)
grown (RemoteBegin of token fence) trace = (one (RemoteBegin of token fence) trace ∷ [], more-fences (RemoteBegin of token fence) trace)
grown _ trace = ([], sym (append-nil _))

-- ---- the newest under a token

abbrev pub IsOpenAt : Trace → ℕ → Option Open → Type 0
IsOpenAt trace token None = fence_of trace token ≡ None
IsOpenAt trace token (Some o) =
    (hart : ℕ) × (fence : RemoteFence) × (fence_of trace token ≡ Some fence) × (o.at < fence_count trace)
    × (slice_get (fences_of trace) o.at ≡ Some (record { number = fence_begun token trace; made = RemoteBegin hart token fence }))

same_token : (a b token : ℕ) → (a == b) ≡ true → (a == token) ≡ (b == token)
same_token a b token e = ap (λ n. n == token) (eqb-true a b e)

added : (token : ℕ) (o : Open) (begun : List Open) (found : Option Open) → newest_open token found (begun ++ o ∷ []) ≡ cond (o.token == token) (Some o) (newest_open token found begun)
added token o [] found = refl
added token o (p ∷ begun) found = added token o begun (cond (p.token == token) (Some p) found)

-- those under another token stay
taken : (ended token : ℕ) (begun : List Open) (found : Option Open) → (ended == token) ≡ false → newest_open token found (filter (is_not_under ended) begun) ≡ newest_open token found begun
taken ended token [] found other = refl
taken ended token (o ∷ begun) found other =
    let both : (b : Bool) → (o.token == ended) ≡ b
    → newest_open token found (cond (not b) (o ∷ filter (is_not_under ended) begun) (filter (is_not_under ended) begun)) ≡ newest_open token (cond (o.token == token) (Some o) found) begun =
    λ b. elim b as (λ b. (o.token == ended) ≡ b → newest_open token found (cond (not b) (o ∷ filter (is_not_under ended) begun) (filter (is_not_under ended) begun)) ≡ newest_open token (cond (o.token == token) (Some o) found) begun) [
      | true ↦ λ t.
          taken ended token begun found other
          ∙ sym (ap (λ m. newest_open token (cond m (Some o) found) begun) (same_token o.token ended token t ∙ other))
      | false ↦ λ t. taken ended token begun (cond (o.token == token) (Some o) found) other
    ] in
    both (o.token == ended) refl

-- none is left under its own
gone : (ended token : ℕ) (begun : List Open) → (ended == token) ≡ true → newest_open token None (filter (is_not_under ended) begun) ≡ None
gone ended token [] same = refl
gone ended token (o ∷ begun) same =
    let both : (b : Bool) → (o.token == ended) ≡ b → newest_open token None (cond (not b) (o ∷ filter (is_not_under ended) begun) (filter (is_not_under ended) begun)) ≡ None =
    λ b. elim b as (λ b. (o.token == ended) ≡ b → newest_open token None (cond (not b) (o ∷ filter (is_not_under ended) begun) (filter (is_not_under ended) begun)) ≡ None) [
      | true ↦ λ t. gone ended token begun same
      | false ↦ λ t.
          ap (λ m. newest_open token (cond m (Some o) None) (filter (is_not_under ended) begun)) (sym (ap (λ n. o.token == n) (eqb-true ended token same)) ∙ t)
          ∙ gone ended token begun same
    ] in
    both (o.token == ended) refl

-- a record that neither begins nor ends it
still : (x : Record) (trace : Trace) (token : ℕ) → fence_of (x ∷ trace) token ≡ fence_of trace token → fence_begun token (x ∷ trace) ≡ fence_begun token trace
    → fence_count trace ≤ fence_count (x ∷ trace) → (o : Option Open) → IsOpenAt trace token o → IsOpenAt (x ∷ trace) token o
still x trace token same begun more None none = same ∙ none
still x trace token same begun more (Some o) (hart, fence, is, within, at) =
    let grow = grown x trace in
    let low : o.at < length (fences_of trace) = omega (arith, within, length-reverse (numbered asks_for_fence trace)) in (
      hart,
      fence,
      same ∙ is,
      omega (arith, within, more),
      ap (λ fs. slice_get fs o.at) grow.1 ∙ (still-at (fences_of trace) grow.0 o.at low
          ∙ (at ∙ ap (λ n. Some (record { number = n; made = RemoteBegin hart token fence })) (sym begun))),
    )

pub open-at : (trace : Trace) (token : ℕ) → IsOpenAt trace token (newest_open token None (open_of trace))
open-at [] token = refl
open-at (RemoteBegin hart of fence ∷ trace) token =
    let t : Trace = RemoteBegin hart of fence ∷ trace in
    let o : Open = record { token = of; at = fence_count trace } in
    let rest : Option Open = newest_open token None (open_of trace) in
    let go : (b : Bool) → (of == token) ≡ b → IsOpenAt t token (cond b (Some o) rest) =
    λ b. elim b as (λ b. (of == token) ≡ b → IsOpenAt t token (cond b (Some o) rest)) [
      | true ↦ λ s. (
        hart,
        fence,
        ap (λ b. cond b (Some fence) (fence_of trace token)) s,
        omega arith,
        at-newest (RemoteBegin hart of fence) trace
            ∙ (ap (λ k. Some (record { number = length t; made = RemoteBegin hart k fence })) (eqb-true of token s)
            ∙ sym (ap (λ b. Some (record { number = cond b (length t) (fence_begun token trace); made = RemoteBegin hart token fence })) s)),
      )
      | false ↦ λ s.
          still (RemoteBegin hart of fence) trace token (ap (λ b. cond b (Some fence) (fence_of trace token)) s)
          (ap (λ b. cond b (length t) (fence_begun token trace)) s) (omega arith) rest (open-at trace token)
    ] in
    subst (IsOpenAt t token) (sym (added token o (open_of trace) None)) (go (of == token) refl)
open-at (RemoteEnd hart of ∷ trace) token =
    let t : Trace = RemoteEnd hart of ∷ trace in
    let go : (b : Bool) → (of == token) ≡ b → IsOpenAt t token (newest_open token None (filter (is_not_under of) (open_of trace))) =
    λ b. elim b as (λ b. (of == token) ≡ b → IsOpenAt t token (newest_open token None (filter (is_not_under of) (open_of trace)))) [
      | true ↦ λ s. subst (IsOpenAt t token) (sym (gone of token (open_of trace) s)) (ap (λ b. cond b None (fence_of trace token)) s)
      | false ↦ λ s.
          subst (IsOpenAt t token) (sym (taken of token (open_of trace) None s))
          (still (RemoteEnd hart of) trace token (ap (λ b. cond b None (fence_of trace token)) s) refl (omega arith) (newest_open token None (open_of trace)) (open-at trace token))
    ] in
    go (of == token) refl
open-at (x ∷ trace) token = still x trace token refl refl (omega arith) (newest_open token None (open_of trace)) (open-at trace token)
