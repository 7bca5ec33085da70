-- What has begun and not ended.
use Rattle.std.proofs.Common.{◌≡◌, ℕ, Bool, true, false, Option, Some, None, List, [], ◌∷◌, ◌++◌, length, ap, sym, ◌∙◌, subst, refl, arith}
use Rattle.std.specs.Prelude.{◌==◌, cond, not, filter}
use Rattle.std.proofs.lemmas.Bool.{eqb-true}
use Rattle.watch.specs.declared.trace.Claim.{Claim}
use Rattle.watch.specs.declared.trace.RemoteFence.{RemoteFence}
use Rattle.watch.specs.declared.trace.Record.TheVariants.{RemoteBegin, RemoteEnd, ClaimBegin, ClaimEnd}
use Rattle.watch.specs.Trace.{Trace, claim_of, fence_of}
use Rattle.watch_engine.specs.declared.open.OpenFence.{OpenFence}
use Rattle.watch_engine.specs.declared.open.OpenClaim.{OpenClaim}
use Rattle.watch_engine.specs.Open.{IsOpenClaim, IsOpenFence, claim_begun, fence_begun, is_not_claim_of, is_not_fence_of, is_not_of, newest, newest_claim, newest_fence}

same_token : (a b token : ℕ) → (a == b) ≡ true → (a == token) ≡ (b == token)
same_token a b token e = ap (λ n. n == token) (eqb-true a b e)

module _ {B : Type 0} (token_of : B → ℕ) where
  -- one more
  added : (token : ℕ) (o : B) (begun : List B) (found : Option B) → newest token_of token found (begun ++ o ∷ []) ≡ cond (token_of o == token) (Some o) (newest token_of token found begun)
  added token o [] found = refl
  added token o (p ∷ begun) found = added token o begun (cond (token_of p == token) (Some p) found)

  -- those of a token taken away
  taken : (ended token : ℕ) (begun : List B) (found : Option B) → newest token_of token found (filter (is_not_of token_of ended) begun) ≡ cond (ended == token) found (newest token_of token found begun)
  taken ended token [] found = elim (ended == token) as (λ b. found ≡ cond b found found) [ true ↦ refl | false ↦ refl ]
  taken ended token (o ∷ begun) found =
      let rest = taken ended token begun in
      let others : List B = filter (is_not_of token_of ended) begun in
      let passed : Option B = cond (token_of o == token) (Some o) found in
      let both : (b : Bool) → (token_of o == ended) ≡ b → newest token_of token found (cond (not b) (o ∷ others) others) ≡ cond (ended == token) found (newest token_of token passed begun) =
      λ b. elim b as (λ b. (token_of o == ended) ≡ b → newest token_of token found (cond (not b) (o ∷ others) others) ≡ cond (ended == token) found (newest token_of token passed begun)) [
        | true ↦ λ t.
            let same : (token_of o == token) ≡ (ended == token) = same_token (token_of o) ended token t in
            rest found ∙
            subst (λ m. cond (ended == token) found (newest token_of token found begun) ≡ cond (ended == token) found (newest token_of token (cond m (Some o) found) begun)) (sym same)
            (elim (ended == token) as (λ e. cond e found (newest token_of token found begun) ≡ cond e found (newest token_of token (cond e (Some o) found) begun)) [ true ↦ refl | false ↦ refl ])
        | false ↦ λ t.
            rest passed ∙
            (let last : (e : Bool) → (ended == token) ≡ e → cond e passed (newest token_of token passed begun) ≡ cond e found (newest token_of token passed begun) =
            λ e. elim e as (λ e. (ended == token) ≡ e → cond e passed (newest token_of token passed begun) ≡ cond e found (newest token_of token passed begun)) [
              | true ↦ λ s.
                  let other : (token_of o == token) ≡ false = ap (λ n. token_of o == n) (sym (eqb-true ended token s)) ∙ t in
                  ap (λ m. cond m (Some o) found) other
              | false ↦ λ s. refl
            ] in last (ended == token) refl)
      ] in
      both (token_of o == ended) refl

  -- what holds of the newest under each token
  one_begins : (P : ℕ → Option B → Type 0) (o : B) (begun : List B) → ((of : ℕ) → (token_of o == of) ≡ true → P of (Some o)) → ((of : ℕ) → (token_of o == of) ≡ false → P of (newest token_of of None begun))
      → (of : ℕ) → P of (newest token_of of None (begun ++ o ∷ []))
  one_begins P o begun here others of =
      let go : (b : Bool) → (token_of o == of) ≡ b → P of (cond b (Some o) (newest token_of of None begun)) =
      λ b. elim b as (λ b. (token_of o == of) ≡ b → P of (cond b (Some o) (newest token_of of None begun))) [ true ↦ here of | false ↦ others of ] in
      subst (P of) (sym (added of o begun None)) (go (token_of o == of) refl)

  all_end : (P : ℕ → Option B → Type 0) (token : ℕ) (begun : List B) → ((of : ℕ) → (token == of) ≡ true → P of None) → ((of : ℕ) → (token == of) ≡ false → P of (newest token_of of None begun))
      → (of : ℕ) → P of (newest token_of of None (filter (is_not_of token_of token) begun))
  all_end P token begun here others of =
      let go : (b : Bool) → (token == of) ≡ b → P of (cond b None (newest token_of of None begun)) =
      λ b. elim b as (λ b. (token == of) ≡ b → P of (cond b None (newest token_of of None begun))) [ true ↦ here of | false ↦ others of ] in
      subst (P of) (sym (taken token of begun None)) (go (token == of) refl)

-- a record that neither begins nor ends it
fence_still : (trace t : Trace) (of : ℕ) → fence_of t of ≡ fence_of trace of → fence_begun of t ≡ fence_begun of trace → (f : Option OpenFence) → IsOpenFence trace of f → IsOpenFence t of f
fence_still trace t of same begun None e = same ∙ e
fence_still trace t of same begun (Some p) e = (same ∙ e.0, e.1 ∙ sym begun, e.2)

claim_still : (trace t : Trace) (of : ℕ) → claim_of t of ≡ claim_of trace of → claim_begun of t ≡ claim_begun of trace → (f : Option OpenClaim) → IsOpenClaim trace of f → IsOpenClaim t of f
claim_still trace t of same begun None e = same ∙ e
claim_still trace t of same begun (Some p) e = (same ∙ e.0, e.1 ∙ sym begun)

abbrev pub AreFences : Trace → List OpenFence → Type 0
AreFences trace fences = (token : ℕ) → IsOpenFence trace token (newest_fence token None fences)

abbrev pub AreClaims : Trace → List OpenClaim → Type 0
AreClaims trace claims = (token : ℕ) → IsOpenClaim trace token (newest_claim token None claims)

pub fence_begins : (trace : Trace) (fences : List OpenFence) (by token : ℕ) (fence : RemoteFence) → AreFences trace fences
    → AreFences (RemoteBegin by token fence ∷ trace) (fences ++ record { token = token; fence = fence; begun = length (RemoteBegin by token fence ∷ trace) } ∷ [])
fence_begins trace fences by token fence are =
    let o : OpenFence = record { token = token; fence = fence; begun = length (RemoteBegin by token fence ∷ trace) } in
    let t : Trace = RemoteBegin by token fence ∷ trace in
    one_begins (λ (p : OpenFence). p.token) (IsOpenFence t) o fences
    (λ of s. (ap (λ b. cond b (Some fence) (fence_of trace of)) s, sym (ap (λ b. cond b (length t) (fence_begun of trace)) s), omega arith))
    (λ of s. fence_still trace t of (ap (λ b. cond b (Some fence) (fence_of trace of)) s) (ap (λ b. cond b (length t) (fence_begun of trace)) s) (newest_fence of None fences) (are of))

pub claim_begins : (trace : Trace) (claims : List OpenClaim) (by token : ℕ) (claim : Claim) → AreClaims trace claims
    → AreClaims (ClaimBegin by token claim ∷ trace) (claims ++ record { token = token; claim = claim; begun = length (ClaimBegin by token claim ∷ trace) } ∷ [])
claim_begins trace claims by token claim are =
    let o : OpenClaim = record { token = token; claim = claim; begun = length (ClaimBegin by token claim ∷ trace) } in
    let t : Trace = ClaimBegin by token claim ∷ trace in
    one_begins (λ (p : OpenClaim). p.token) (IsOpenClaim t) o claims
    (λ of s. (ap (λ b. cond b (Some claim) (claim_of trace of)) s, sym (ap (λ b. cond b (length t) (claim_begun of trace)) s)))
    (λ of s. claim_still trace t of (ap (λ b. cond b (Some claim) (claim_of trace of)) s) (ap (λ b. cond b (length t) (claim_begun of trace)) s) (newest_claim of None claims) (are of))

pub fence_ends : (trace : Trace) (fences : List OpenFence) (by token : ℕ) → AreFences trace fences → AreFences (RemoteEnd by token ∷ trace) (filter (is_not_fence_of token) fences)
fence_ends trace fences by token are =
    let t : Trace = RemoteEnd by token ∷ trace in
    all_end (λ (p : OpenFence). p.token) (IsOpenFence t) token fences
    (λ of s. ap (λ b. cond b None (fence_of trace of)) s)
    (λ of s. fence_still trace t of (ap (λ b. cond b None (fence_of trace of)) s) refl (newest_fence of None fences) (are of))

pub claim_ends : (trace : Trace) (claims : List OpenClaim) (by token : ℕ) → AreClaims trace claims → AreClaims (ClaimEnd by token ∷ trace) (filter (is_not_claim_of token) claims)
claim_ends trace claims by token are =
    let t : Trace = ClaimEnd by token ∷ trace in
    all_end (λ (p : OpenClaim). p.token) (IsOpenClaim t) token claims
    (λ of s. ap (λ b. cond b None (claim_of trace of)) s)
    (λ of s. claim_still trace t of (ap (λ b. cond b None (claim_of trace of)) s) refl (newest_claim of None claims) (are of))
