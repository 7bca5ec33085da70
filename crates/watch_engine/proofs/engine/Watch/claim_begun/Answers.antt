use Rattle.std.proofs.Common.{◌≡◌, ◌∙◌, ℕ, None, Some, ap, subst, sym}
use Rattle.std.specs.Prelude.{option_map}
use Rattle.watch_engine.specs.Open.{IsOpenClaim, claim_begun, newest_claim}
use Rattle.watch_engine.proofs.engine.Watch.claim_begun.Goals as goal

pub returns-in-None : goal.returns-in-None
returns-in-None g c = λ trace at.
    let token : ℕ = c.args.token in
    let is : c.newest.result ≡ newest_claim token None c.args.self.now.claims.items = c.newest.ensures ∙ ap (newest_claim token None) c.as_slice.ensures.value in
    let begun = subst (IsOpenClaim trace token) (sym is ∙ c.in-None.is) (at.claim token) in
    ap (option_map (λ _. claim_begun token trace)) (sym begun)

pub returns-in-Some : goal.returns-in-Some
returns-in-Some g c = λ trace at.
    let token : ℕ = c.args.token in
    let is : c.newest.result ≡ newest_claim token None c.args.self.now.claims.items = c.newest.ensures ∙ ap (newest_claim token None) c.as_slice.ensures.value in
    let begun = subst (IsOpenClaim trace token) (sym is ∙ c.in-Some.is) (at.claim token) in
    ap (λ (n : ℕ). Some n) begun.1 ∙ ap (option_map (λ _. claim_begun token trace)) (sym begun.0)
