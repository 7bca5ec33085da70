use Rattle.std.proofs.Common.{◌≡◌, ◌∙◌, sym, ap, subst, List, map, ℕ, Option, None}
use Rattle.watch.specs.declared.trace.Record.TheVariants as records
use Rattle.watch.specs.declared.trace.Verdict.TheVariants.{Claimed}
use Rattle.watch_engine.specs.declared.cause.Cause.TheVariants.{Claim}
use Rattle.watch_engine.specs.declared.held.Held.{Held}
use Rattle.watch_engine.specs.declared.open.OpenClaim.{OpenClaim}
use Rattle.watch_engine.specs.Held.{is_claimed_by, marked_if}
use Rattle.watch_engine.specs.Open.{IsOpenClaim, newest_claim}
use Rattle.watch_engine.specs.Warnings.{AreWarnings}
use Rattle.watch_engine.proofs.Judging.{are_warnings, claim_causes}
use Rattle.watch_engine.proofs.Marking.{still_same}
use Rattle.watch_engine.proofs.PlainChanges.{claim_end_stands}
use Rattle.watch_engine.proofs.engine.Watch.end_claim.Goals as goal

pub returns-clause-warnings : goal.returns-clause-warnings
returns-clause-warnings g c = λ hart trace at.
    let scheme = c.args.self.now.scheme in
    let token : ℕ = c.args.token in
    let held : List Held = c.args.self.now.held in
    let found : Option OpenClaim = c.newest-claim.result in
    let is : found ≡ newest_claim token None c.args.self.now.claims.items = c.newest-claim.ensures ∙ ap (newest_claim token None) c.as_slice.ensures.value in
    subst (AreWarnings scheme (records.ClaimEnd hart token) trace) (sym (c.in_ok-given.ensures))
    (are_warnings scheme (records.ClaimEnd hart token) trace (Claim found) _ (claim_causes scheme hart token trace found (subst (IsOpenClaim trace token) (sym is) (at.claim token))) held at.are)

pub returns-clause-ok : goal.returns-clause-ok
returns-clause-ok g c = λ hart trace at.
    let token : ℕ = c.args.token in
    let held : List Held = c.args.self.now.held in
    let found : Option OpenClaim = c.newest-claim.result in
    let is : found ≡ newest_claim token None c.args.self.now.claims.items = c.newest-claim.ensures ∙ ap (newest_claim token None) c.as_slice.ensures.value in
    claim_end_stands at hart token _ _ (c.mark_given.ensures ∙ ap (λ o. map (marked_if Claimed (is_claimed_by o)) held) is) c.end_all.ensures

pub mark_given-requires : goal.mark_given-requires
mark_given-requires g c = λ none.
    let held : List Held = c.args.self.now.held in
    let found : Option OpenClaim = c.newest-claim.result in
    still_same (Claim found) held (sym (c.in_ok-given.ensures) ∙ (sym c.as_slice-2.ensures.value ∙ none))
