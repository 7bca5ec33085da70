-- The flush that is open under a token.
use Rattle.std.proofs.Common.{◌≡◌, ◌∙◌, ℕ, true, false, ◌+◌, [], ◌∷◌, Some, None, ap, sym, inl, inr, refl, arith, length, subst, suc}
use Rattle.std.specs.Prelude.{cond, find, nat_eq}
use Rattle.std.specs.List.{before_first}
use Rattle.std.proofs.lemmas.Bool.{cases_Bool, eq-eqb, eqb-true}
use Rattle.watch.specs.declared.trace.Claim.{Claim}
use Rattle.watch.specs.declared.trace.Record.{Record}
use Rattle.watch.specs.declared.trace.Record.TheVariants.{ClaimBegin, ClaimEnd}
use Rattle.watch.specs.Trace.{Trace, begins_claim, claim_of}
use Rattle.watch_engine.specs.Open.{claim_begun}
use Rattle.watch_causes.proofs.Lists.{before-fails, before-passes}

abbrev IsOpen : ℕ → Trace → Claim → Type 0
IsOpen token trace claim =
    (hart : ℕ) × (find (begins_claim token) trace ≡ Some (ClaimBegin hart token claim))
    × (length (before_first (begins_claim token) trace) + claim_begun token trace ≡ length trace)

-- a record that begins none under the token
passed : (token : ℕ) (newest : Record) (trace : Trace) (claim : Claim) → begins_claim token newest ≡ false → IsOpen token trace claim → IsOpen token (newest ∷ trace) claim
passed token newest trace claim other (hart, found, count) =
    let e : length (before_first (begins_claim token) (newest ∷ trace)) ≡ suc (length (before_first (begins_claim token) trace)) =
    ap length (before-fails (begins_claim token) newest trace other) in
    let n : claim_begun token (newest ∷ trace) ≡ claim_begun token trace = ap (λ b. cond b (length (newest ∷ trace)) (claim_begun token trace)) other in
    (hart, (ap (λ b. cond b (Some newest) (find (begins_claim token) trace)) other ∙ found), omega (arith, e, n, count))

begun : (token hart : ℕ) (claim : Claim) (trace : Trace) → IsOpen token (ClaimBegin hart token claim ∷ trace) claim
begun token hart claim trace =
    let this : begins_claim token (ClaimBegin hart token claim) ≡ true = eq-eqb token token refl in
    let e : length (before_first (begins_claim token) (ClaimBegin hart token claim ∷ trace)) ≡ 0 =
    ap length (before-passes (begins_claim token) (ClaimBegin hart token claim) trace this) in
    let n : claim_begun token (ClaimBegin hart token claim ∷ trace) ≡ suc (length trace) =
    ap (λ b. cond b (suc (length trace)) (claim_begun token trace)) this in
    (hart, ap (λ b. cond b (Some (ClaimBegin hart token claim)) (find (begins_claim token) trace)) this, omega (arith, e, n))

pub open_flush : (token : ℕ) (trace : Trace) (claim : Claim) → claim_of trace token ≡ Some claim → IsOpen token trace claim
open_flush token [] claim is = cc
open_flush token (ClaimBegin hart at one ∷ trace) claim is =
    elim (cases_Bool (nat_eq at token)) [
      | inl same ↦
          let e : Some one ≡ Some claim = sym (ap (λ b. cond b (Some one) (claim_of trace token)) same) ∙ is in
          let c : one ≡ claim = cc in
          let t : token ≡ at = sym (eqb-true at token same) in
          subst (λ k. IsOpen k (ClaimBegin hart at one ∷ trace) claim) (sym t) (subst (λ k. IsOpen at (ClaimBegin hart at one ∷ trace) k) c (begun at hart one trace))
      | inr other ↦
          passed token (ClaimBegin hart at one) trace claim other (open_flush token trace claim (sym (ap (λ b. cond b (Some one) (claim_of trace token)) other) ∙ is))
    ]
open_flush token (ClaimEnd hart at ∷ trace) claim is =
    elim (cases_Bool (nat_eq at token)) [
      | inl same ↦ let e : None ≡ Some claim = sym (ap (λ b. cond b None (claim_of trace token)) same) ∙ is in cc
      | inr other ↦ passed token (ClaimEnd hart at) trace claim refl (open_flush token trace claim (sym (ap (λ b. cond b None (claim_of trace token)) other) ∙ is))
    ]
open_flush token (newest ∷ trace) claim is = passed token newest trace claim refl (open_flush token trace claim is)
