-- Remote fences and claims that have begun and not ended, the oldest first: of one token the newest
-- counts.
use Rattle.std.specs.Prelude.{ℕ, Bool, ◌≡◌, ◌<◌, ◌==◌, not, if◌then◌else◌, List, [], ◌∷◌, Option, Some, None, length}
use Rattle.watch.specs.Trace.{Trace, begins_claim, begins_fence, claim_of, fence_of}
use Rattle.watch_engine.specs.declared.open.OpenFence.{OpenFence}
use Rattle.watch_engine.specs.declared.open.OpenClaim.{OpenClaim}

-- the newest under a token, by what has which token, or else what was found before
abbrev pub newest : {B : Type 0} → (B → ℕ) → ℕ → Option B → List B → Option B
newest token_of token found [] = found
newest token_of token found (o ∷ begun) =
    newest token_of token (if token_of o == token then Some o else found) begun

abbrev pub newest_fence : ℕ → Option OpenFence → List OpenFence → Option OpenFence
newest_fence = newest (λ (o : OpenFence). o.token)

abbrev pub newest_claim : ℕ → Option OpenClaim → List OpenClaim → Option OpenClaim
newest_claim = newest (λ (o : OpenClaim). o.token)

-- the number of records up to the newest begin under a token
abbrev pub fence_begun : ℕ → Trace → ℕ
fence_begun token [] = 0
fence_begun token (newest ∷ trace) =
    if begins_fence token newest then length (newest ∷ trace) else fence_begun token trace

abbrev pub claim_begun : ℕ → Trace → ℕ
claim_begun token [] = 0
claim_begun token (newest ∷ trace) =
    if begins_claim token newest then length (newest ∷ trace) else claim_begun token trace

-- the remote fence under the token is this one
abbrev pub IsOpenFence : Trace → ℕ → Option OpenFence → Type 0
IsOpenFence trace token None = fence_of trace token ≡ None
IsOpenFence trace token (Some o) =
    (fence_of trace token ≡ Some o.fence)
    × (o.begun ≡ fence_begun token trace)
    × (0 < o.begun)

abbrev pub IsOpenClaim : Trace → ℕ → Option OpenClaim → Type 0
IsOpenClaim trace token None = claim_of trace token ≡ None
IsOpenClaim trace token (Some o) =
    (claim_of trace token ≡ Some o.claim) × (o.begun ≡ claim_begun token trace)

abbrev pub is_not_of : {B : Type 0} → (B → ℕ) → ℕ → B → Bool
is_not_of token_of token o = not (token_of o == token)

abbrev pub is_not_fence_of : ℕ → OpenFence → Bool
is_not_fence_of = is_not_of (λ (o : OpenFence). o.token)

abbrev pub is_not_claim_of : ℕ → OpenClaim → Bool
is_not_claim_of = is_not_of (λ (o : OpenClaim). o.token)
