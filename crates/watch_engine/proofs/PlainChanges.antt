-- What records leave that change no word and no satp.
use Rattle.std.proofs.Common.{◌≡◌, ℕ, ◌+◌, None, List, [], ◌∷◌, ◌++◌, length, map, filter, sym, ◌∙◌, subst, refl, arith}
use Rattle.watch.specs.declared.trace.Claim.{Claim}
use Rattle.watch.specs.declared.trace.Frames.{Frames}
use Rattle.watch.specs.declared.trace.RemoteFence.{RemoteFence}
use Rattle.watch.specs.declared.trace.Record.{Record}
use Rattle.watch.specs.declared.trace.Record.TheVariants.{RemoteBegin, GiveBack, ClaimBegin, ClaimEnd, Use}
use Rattle.watch.specs.declared.trace.Verdict.TheVariants.{Free, Claimed}
use Rattle.watch.specs.Trace.{Trace, is_root}
use Rattle.watch_engine.specs.declared.held.Held.{Held}
use Rattle.watch_engine.specs.declared.open.OpenClaim.{OpenClaim}
use Rattle.watch_engine.specs.declared.open.OpenFence.{OpenFence}
use Rattle.watch_engine.specs.Held.{is_claimed_by, is_exposed_by, marked_if}
use Rattle.watch_engine.specs.Left.{EachLeft}
use Rattle.watch_engine.specs.Open.{is_not_claim_of, newest_claim}
use Rattle.watch_engine.specs.Follows.{AreHeld}
use Rattle.watch_engine.specs.Standing.{IsLeftWithin, Stands}
use Rattle.watch_engine.proofs.Leaving.{each_weaker}
use Rattle.watch_engine.proofs.Opening as opening
use Rattle.watch_engine.proofs.Records as records
use Rattle.watch_engine.proofs.Standings.{IsLeft, more_records, plain_stands}
use Rattle.watch_engine.specs.View.{View}

module _ {trace : Trace} {v : View} {held : List Held} {fences : List OpenFence} {claims : List OpenClaim}
    (at : Stands trace v held fences claims) where
  longer : (newest : Record) → ((root : ℕ) → is_root (newest ∷ trace) root ≡ is_root trace root) → EachLeft (IsLeftWithin (newest ∷ trace) v.drops) v.left
  longer newest roots_same =
      each_weaker (IsLeftWithin trace v.drops) (IsLeftWithin (newest ∷ trace) v.drops) (λ l w. record { root = roots_same l.space.root ∙ w.root; within = let less = w.within in omega arith; fences = w.fences }) v.left at.leaving

  pub remote_begin_stands : (by token : ℕ) (fence : RemoteFence) (begun : List OpenFence) → begun ≡ fences ++ record { token = token; fence = fence; begun = v.count + 1 } ∷ []
      → Stands (RemoteBegin by token fence ∷ trace) (record v { count = v.count + 1 }) held begun claims
  remote_begin_stands by token fence begun is =
      let newest : Record = RemoteBegin by token fence in
      let n : v.count + 1 ≡ length (newest ∷ trace) = more_records at newest in
      let o : ℕ → OpenFence = λ m. record { token = token; fence = fence; begun = m } in
      plain_stands at newest held v.left v.drops begun claims refl (λ h. refl) (λ r. refl) (longer newest (λ r. refl)) (records.remote_begins v.scheme trace (IsLeft at) by token fence held at.are)
      (subst (opening.AreFences (newest ∷ trace)) (sym (is ∙ (λ j. fences ++ o (n j) ∷ []))) (opening.fence_begins trace fences by token fence at.fence)) at.claim

  pub back_stands : (by : ℕ) (frames : Frames) (after : List Held) → after ≡ map (marked_if Free (is_exposed_by frames)) held → Stands (GiveBack by frames ∷ trace) (record v { count = v.count + 1 }) after fences claims
  back_stands by frames after is =
      let newest : Record = GiveBack by frames in
      plain_stands at newest after v.left v.drops fences claims refl (λ h. refl) (λ r. refl) (longer newest (λ r. refl)) (subst (AreHeld v.scheme (newest ∷ trace) (IsLeft at)) (sym is) (records.frames_back v.scheme trace (IsLeft at) by frames held at.are)) at.fence at.claim

  pub claim_begin_stands : (by token : ℕ) (claim : Claim) (claimed : List OpenClaim) → claimed ≡ claims ++ record { token = token; claim = claim; begun = v.count + 1 } ∷ []
      → Stands (ClaimBegin by token claim ∷ trace) (record v { count = v.count + 1 }) held fences claimed
  claim_begin_stands by token claim claimed is =
      let newest : Record = ClaimBegin by token claim in
      let n : v.count + 1 ≡ length (newest ∷ trace) = more_records at newest in
      let o : ℕ → OpenClaim = λ m. record { token = token; claim = claim; begun = m } in
      plain_stands at newest held v.left v.drops fences claimed refl (λ h. refl) (λ r. refl) (longer newest (λ r. refl)) (records.claim_begins v.scheme trace (IsLeft at) by token claim held at.are) at.fence
      (subst (opening.AreClaims (newest ∷ trace)) (sym (is ∙ (λ j. claims ++ o (n j) ∷ []))) (opening.claim_begins trace claims by token claim at.claim))

  pub claim_end_stands : (by token : ℕ) (after : List Held) (claimed : List OpenClaim) → after ≡ map (marked_if Claimed (is_claimed_by (newest_claim token None claims))) held → claimed ≡ filter (is_not_claim_of token) claims
      → Stands (ClaimEnd by token ∷ trace) (record v { count = v.count + 1 }) after fences claimed
  claim_end_stands by token after claimed is still_open =
      let newest : Record = ClaimEnd by token in
      plain_stands at newest after v.left v.drops fences claimed refl (λ h. refl) (λ r. refl) (longer newest (λ r. refl))
      (subst (AreHeld v.scheme (newest ∷ trace) (IsLeft at)) (sym is) (records.claim_ends v.scheme trace (IsLeft at) by token (newest_claim token None claims) held (at.claim token) at.are)) at.fence
      (subst (opening.AreClaims (newest ∷ trace)) (sym still_open) (opening.claim_ends trace claims by token at.claim))

  pub use_stands : (by address : ℕ) → Stands (Use by address ∷ trace) (record v { count = v.count + 1 }) held fences claims
  use_stands by address =
      let newest : Record = Use by address in
      plain_stands at newest held v.left v.drops fences claims refl (λ h. refl) (λ r. refl) (longer newest (λ r. refl)) (records.is_accessed v.scheme trace (IsLeft at) by address held at.are) at.fence at.claim
