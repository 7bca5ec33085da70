-- The tests of specs/ComputedTraces are of what a hart may hold, of what is stale, and of verdicts.
use Rattle.std.proofs.Common.{sym, subst, ◌≡◌, ℕ, ◌+◌, ◌*◌, ◌<◌, ◌≤◌, Bool, true, false, Option, Some, None, [], ◌∷◌, IsTrue, ap, ◌∙◌, refl, inl, inr, arith}
use Rattle.std.specs.Prelude.{◌⊎◌, ◌↔◌, ◌==◌, ◌&&◌, ◌||◌, not, nat_le, nat_lt}
use Rattle.std.proofs.lemmas.Bool.{true≢false, and_parts, and_from, or_cases, or_left, or_right, cases_lt, eq-eqb, eqb-true, not-true, not_from_false}
use Rattle.std.proofs.lemmas.Bool.Decides.{nat_tests}
use Rattle.std.proofs.lemmas.Nat.{pow_pos}
use Rattle.pte.specs.declared.scheme.Scheme.{Scheme}
use Rattle.pte.specs.Address.{level_of, pages_of}
use Rattle.tlb.specs.declared.store.Entry.{Entry}
use Rattle.tlb.specs.Fence.{is_fenced}
use Rattle.watch.specs.declared.trace.Claim.{Claim}
use Rattle.watch.specs.declared.trace.Frames.{Frames}
use Rattle.watch.specs.declared.trace.Record.{Record}
use Rattle.watch.specs.declared.trace.Record.TheVariants.{Satp, Fence, RemoteEnd, GiveOut, GiveBack, ClaimEnd, Use}
use Rattle.watch.specs.declared.trace.RemoteFence.{RemoteFence}
use Rattle.watch.specs.declared.trace.Space.{Space}
use Rattle.watch.specs.declared.trace.Verdict.{Verdict}
use Rattle.watch.specs.declared.trace.Verdict.TheVariants.{Free, Reuse, Claimed, Used}
use Rattle.watch.specs.Trace.{Trace, begins_claim, begins_fence, claim_of, fence_of, has_root, is_among, is_root, is_root_after, is_used, satp_of, words_of}
use Rattle.watch.specs.Holding.{BelongsTo, Drops, DropsAtEnd, Live, LiveSince, MayHold, Translation, is_covered, names}
use Rattle.watch.specs.Staleness.{IsCurrent, IsMapped, IsRootFor, Stale, is_frame_of}
use Rattle.watch.specs.Verdicts.{WasGiven, IsNew, IsGiven, IsBroken, IsExposed, Serves, StaleSince, TakenForGone, TakesForGone, is_claimed}
use Rattle.watch.specs.Computed.{is_mapped}
use Rattle.watch.specs.ComputedTraces.{belongs_to, has_held, has_verdict, in_any_space, in_space, is_broken, is_broken_of, is_claim, is_current, is_dropped, is_dropped_by, is_exposed, is_free, is_held, is_live, is_live_in, is_live_since, is_new, is_reuse, is_served_in, is_shared, is_stale, is_stale_since, is_stale_since_claim, is_taken, is_use, shares, takes, under}
use Rattle.watch.proofs.Computed.{and_iff, leaf_iff, mapped_iff, not_iff, or_iff}

none_iff : IsTrue false ↔ ⊥
none_iff = ((λ h. cc), (λ f. absurd f))

false_test : (b : Bool) → IsTrue (not b) ↔ (b ≡ false)
false_test b = (not-true b, not_from_false b)

equal_test : (a b : ℕ) → IsTrue (a == b) ↔ (a ≡ b)
equal_test a b = (eqb-true a b, eq-eqb a b)

self_test : (b : Bool) → IsTrue b ↔ IsTrue b
self_test b = ((λ h. h), (λ h. h))

-- live
same_space : (space : Space) (x : Translation) → IsTrue ((space.root == x.root) && (space.asid == x.entry.asid)) → space ≡ record { root = x.root; asid = x.entry.asid }
same_space space x h =
    let parts = and_parts (space.root == x.root) (space.asid == x.entry.asid) h in
    let root : space.root ≡ x.root = eqb-true _ _ parts.0 in
    let asid : space.asid ≡ x.entry.asid = eqb-true _ _ parts.1 in
    λ i. record { root = root i; asid = asid i }

space_same : (space : Space) (x : Translation) → space ≡ record { root = x.root; asid = x.entry.asid } → IsTrue ((space.root == x.root) && (space.asid == x.entry.asid))
space_same space x is =
    and_from (space.root == x.root) (space.asid == x.entry.asid) (eq-eqb space.root x.root (ap (λ (s : Space). s.root) is)) (eq-eqb space.asid x.entry.asid (ap (λ (s : Space). s.asid) is))

pub belongs_iff : (space : Space) (x : Translation) → IsTrue (belongs_to space x) ↔ BelongsTo space x
belongs_iff space x = or_iff _ _ _ _ (self_test x.entry.global) (same_space space x, space_same space x)

live-of : (scheme : Scheme) (trace : Trace) (hart : ℕ) (x : Translation) (o : Option Space) → satp_of trace hart ≡ o → IsTrue (is_live_in scheme (words_of trace) o x) → Live scheme trace hart x
live-of scheme trace hart x None is h = cc
live-of scheme trace hart x (Some space) is h =
    let parts = and_parts (belongs_to space x) _ h in
    record { space = space; satp = is; belongs = (belongs_iff space x).0 parts.0; leaf = (leaf_iff scheme (words_of trace) space.root x.entry).0 parts.1 }

pub live_iff : (scheme : Scheme) (trace : Trace) (hart : ℕ) (x : Translation) → IsTrue (is_live scheme trace hart x) ↔ Live scheme trace hart x
live_iff scheme trace hart x = (
  live-of scheme trace hart x (satp_of trace hart) refl,
  (λ l.
      ap (λ o. is_live_in scheme (words_of trace) o x) l.satp
      ∙ and_from _ _ ((belongs_iff l.space x).1 l.belongs) ((leaf_iff scheme (words_of trace) l.space.root x.entry).1 l.leaf)),
)

pub live_since_iff : (scheme : Scheme) (token : ℕ) (trace : Trace) (hart : ℕ) (x : Translation) → IsTrue (is_live_since scheme token trace hart x) ↔ LiveSince scheme token trace hart x
live_since_iff scheme token [] hart x = none_iff
live_since_iff scheme token (newest ∷ trace) hart x =
    or_iff _ _ _ _ (live_iff scheme (newest ∷ trace) hart x) (and_iff _ _ _ _ (false_test (begins_fence token newest)) (live_since_iff scheme token trace hart x))

-- dropped

by-drops : (scheme : Scheme) (o : Option RemoteFence) (token : ℕ) (trace : Trace) (hart : ℕ) (x : Translation) → fence_of trace token ≡ o → IsTrue (is_dropped_by scheme o token trace hart x) → DropsAtEnd scheme token trace hart x
by-drops scheme None token trace hart x is h = cc
by-drops scheme (Some fence) token trace hart x is h =
    let parts = and_parts (names fence hart) _ h in
    let more = and_parts (is_covered scheme fence x.entry) _ parts.1 in
    record { fence = fence; begun = is; named = parts.0; covered = more.0; not_live = (not_iff _ _ (live_since_iff scheme token trace hart x)).0 more.1 }

at_end_iff : (scheme : Scheme) (token : ℕ) (trace : Trace) (hart : ℕ) (x : Translation) → IsTrue (is_dropped_by scheme (fence_of trace token) token trace hart x) ↔ DropsAtEnd scheme token trace hart x
at_end_iff scheme token trace hart x = (
  by-drops scheme (fence_of trace token) token trace hart x refl,
  (λ d.
      ap (λ o. is_dropped_by scheme o token trace hart x) d.begun
      ∙ and_from _ _ d.named (and_from _ _ d.covered ((not_iff _ _ (live_since_iff scheme token trace hart x)).1 d.not_live))),
)

pub drops_iff : (scheme : Scheme) (newest : Record) (trace : Trace) (hart : ℕ) (x : Translation) → IsTrue (is_dropped scheme newest trace hart x) ↔ Drops scheme newest trace hart x
drops_iff scheme (Fence of rs1 rs2) trace hart x = and_iff _ _ _ _ (equal_test of hart) (self_test (is_fenced scheme rs1 rs2 x.entry))
drops_iff scheme (RemoteEnd of token) trace hart x = at_end_iff scheme token trace hart x
drops_iff scheme _ trace hart x = none_iff

-- held

pub held_iff : (scheme : Scheme) (trace : Trace) (hart : ℕ) (x : Translation) → IsTrue (is_held scheme trace hart x) ↔ MayHold scheme trace hart x
held_iff scheme [] hart x = live_iff scheme [] hart x
held_iff scheme (newest ∷ trace) hart x =
    or_iff _ _ _ _ (live_iff scheme (newest ∷ trace) hart x) (and_iff _ _ _ _ (held_iff scheme trace hart x) (not_iff _ _ (drops_iff scheme newest trace hart x)))

-- current

-- some address space has a root that passes the test

space-passes : (test : ℕ → Bool) (newest : Record) → IsTrue (in_space test newest) → (root : ℕ) × IsTrue (test root)
space-passes test (Satp of (Some space)) h = (space.root, h)
space-passes test (Satp of None) h = cc
space-passes test _ h = cc

some-passes : (test : ℕ → Bool) (trace : Trace) → IsTrue (in_any_space test trace) → (root : ℕ) × IsTrue (test root)
some-passes test [] h = cc
some-passes test (newest ∷ trace) h =
    elim (or_cases (in_space test newest) (in_any_space test trace) h) [
      | inl now ↦ space-passes test newest now
      | inr before ↦ some-passes test trace before
    ]

root-passes : (test : ℕ → Bool) (root : ℕ) (o : Option Space) (of : ℕ) → IsTrue (has_root o root) → IsTrue (test root) → IsTrue (in_space test (Satp of o))
root-passes test root None of is passes = cc
root-passes test root (Some space) of is passes = ap test (eqb-true space.root root is) ∙ passes

passes-newest : (test : ℕ → Bool) (root : ℕ) (newest : Record) (used old : Bool) → IsTrue (is_root_after root newest used old) → IsTrue (test root) → IsTrue (in_space test newest) ⊎ IsTrue old
passes-newest test root (Satp of space) used old is passes =
    elim (or_cases (has_root space root) old is) [
      | inl now ↦ inl (root-passes test root space of now passes)
      | inr before ↦ inr before
    ]
passes-newest test root (GiveOut of frames) used old is passes = inr (and_parts (not (is_among frames root) || used) old is).1
passes-newest test root _ used old is passes = inr is

passes-some : (test : ℕ → Bool) (root : ℕ) (trace : Trace) → IsTrue (is_root trace root) → IsTrue (test root) → IsTrue (in_any_space test trace)
passes-some test root [] is passes = cc
passes-some test root (newest ∷ trace) is passes =
    elim (passes-newest test root newest (is_used trace root) (is_root trace root) is passes) [
      | inl now ↦ or_left (in_space test newest) (in_any_space test trace) now
      | inr before ↦ or_right (in_space test newest) (in_any_space test trace) (passes-some test root trace before passes)
    ]

computed-current : (scheme : Scheme) (trace : Trace) (x : Translation) → IsTrue (is_current scheme trace x) → IsCurrent scheme trace x
computed-current scheme trace x h =
    elim (or_cases (not x.entry.global && is_mapped scheme (words_of trace) x) _ h) [
      | inl own ↦
          let parts = and_parts (not x.entry.global) _ own in
          record { root = x.root; counts = inl (not-true x.entry.global parts.0, refl); mapped = (mapped_iff scheme (words_of trace) x).0 parts.1 }
      | inr shared ↦
          let parts = and_parts x.entry.global _ shared in
          let at = some-passes (is_shared scheme trace x) trace parts.1 in
          let both = and_parts (is_root trace at.0) _ at.1 in
          record { root = at.0; counts = inr (parts.0, both.0); mapped = (mapped_iff scheme (words_of trace) (under x at.0)).0 both.1 }
    ]

current-computed : (scheme : Scheme) (trace : Trace) (x : Translation) (root : ℕ) → IsRootFor trace x root → IsMapped scheme (words_of trace) (under x root) → IsTrue (is_current scheme trace x)
current-computed scheme trace x root (inl own) mapped =
    or_left (not x.entry.global && is_mapped scheme (words_of trace) x) _
    (and_from (not x.entry.global) _ (not_from_false x.entry.global own.0) ((mapped_iff scheme (words_of trace) x).1 (subst (λ r. IsMapped scheme (words_of trace) (under x r)) own.1 mapped)))
current-computed scheme trace x root (inr g) mapped =
    or_right (not x.entry.global && is_mapped scheme (words_of trace) x) _
    (and_from x.entry.global _ g.0 (passes-some (is_shared scheme trace x) root trace g.1 (and_from (is_root trace root) _ g.1 ((mapped_iff scheme (words_of trace) (under x root)).1 mapped))))

pub current_iff : (scheme : Scheme) (trace : Trace) (x : Translation) → IsTrue (is_current scheme trace x) ↔ IsCurrent scheme trace x
current_iff scheme trace x = (computed-current scheme trace x, (λ c. current-computed scheme trace x c.root c.counts c.mapped))

-- stale

pub stale_iff : (scheme : Scheme) (trace : Trace) (hart : ℕ) (x : Translation) → IsTrue (is_stale scheme trace hart x) ↔ Stale scheme trace hart x
stale_iff scheme trace hart x = (
  (λ h.
      let parts = and_parts (is_held scheme trace hart x) _ h in
      record { held = (held_iff scheme trace hart x).0 parts.0; gone = (not_iff _ _ (current_iff scheme trace x)).0 parts.1 }),
  (λ s. and_from _ _ ((held_iff scheme trace hart x).1 s.held) ((not_iff _ _ (current_iff scheme trace x)).1 s.gone)),
)

-- verdicts

within : (a b : ℕ) → IsTrue (nat_lt a b) → a < b
within a b h = grind (arith, nat_tests)

from_within : (a b : ℕ) → a < b → IsTrue (nat_lt a b)
from_within a b h = grind (arith, nat_tests)

at_most : (a b : ℕ) → IsTrue (nat_le a b) → a ≤ b
at_most a b h = grind (arith, nat_tests)

from_at_most : (a b : ℕ) → a ≤ b → IsTrue (nat_le a b)
from_at_most a b h = grind (arith, nat_tests)

shared_frame : (frames : Frames) (e : Entry) → IsTrue (shares frames e) → (frame : ℕ) × IsTrue (is_among frames frame) × IsTrue (is_frame_of e frame)
shared_frame frames e h =
    let parts = and_parts (nat_lt frames.first (e.ppn + pages_of e.page.size)) _ h in
    let more = and_parts (nat_lt e.ppn (frames.first + frames.count)) (nat_lt 0 frames.count) parts.1 in
    let first : frames.first < e.ppn + pages_of e.page.size = within _ _ parts.0 in
    let last : e.ppn < frames.first + frames.count = within _ _ more.0 in
    let some : 0 < frames.count = within _ _ more.1 in
    let room : 0 < pages_of e.page.size = pow_pos (9 * level_of e.page.size) in
    elim (cases_lt frames.first e.ppn) [
      | inl before ↦ (
        e.ppn,
        and_from _ _ (from_at_most frames.first e.ppn (omega arith)) (from_within e.ppn (frames.first + frames.count) last),
        and_from _ _ (from_at_most e.ppn e.ppn (omega arith)) (from_within e.ppn (e.ppn + pages_of e.page.size) (omega arith)),
      )
      | inr behind ↦ (
        frames.first,
        and_from _ _ (from_at_most frames.first frames.first (omega arith)) (from_within frames.first (frames.first + frames.count) (omega arith)),
        and_from _ _ (from_at_most e.ppn frames.first behind) (from_within frames.first (e.ppn + pages_of e.page.size) first),
      )
    ]

frame_shared : (frames : Frames) (e : Entry) (frame : ℕ) → IsTrue (is_among frames frame) → IsTrue (is_frame_of e frame) → IsTrue (shares frames e)
frame_shared frames e frame among of =
    let parts = and_parts (nat_le frames.first frame) (nat_lt frame (frames.first + frames.count)) among in
    let more = and_parts (nat_le e.ppn frame) (nat_lt frame (e.ppn + pages_of e.page.size)) of in
    let a : frames.first ≤ frame = at_most _ _ parts.0 in
    let b : frame < frames.first + frames.count = within _ _ parts.1 in
    let c : e.ppn ≤ frame = at_most _ _ more.0 in
    let d : frame < e.ppn + pages_of e.page.size = within _ _ more.1 in
    and_from _ _ (from_within frames.first (e.ppn + pages_of e.page.size) (omega arith))
    (and_from _ _ (from_within e.ppn (frames.first + frames.count) (omega arith)) (from_within 0 frames.count (omega arith)))

exposed_iff : (scheme : Scheme) (frames : Frames) (trace : Trace) (hart : ℕ) (x : Translation) → IsTrue (is_exposed scheme frames trace hart x) ↔ IsExposed scheme frames trace hart x
exposed_iff scheme frames trace hart x = (
  (λ h.
      let parts = and_parts (shares frames x.entry) _ h in
      let at = shared_frame frames x.entry parts.0 in
      record { frame = at.0; among = at.1; of_page = at.2; stale = (stale_iff scheme trace hart x).0 parts.1 }),
  (λ e. and_from _ _ (frame_shared frames x.entry e.frame e.among e.of_page) ((stale_iff scheme trace hart x).1 e.stale)),
)

stale_since_iff : (scheme : Scheme) (happens : Record → Trace → Bool) (Happens : Record → Trace → Type 0) → ((newest : Record) (before : Trace) → IsTrue (happens newest before) ↔ Happens newest before) → (trace : Trace) (hart : ℕ) (x : Translation)
    → IsTrue (is_stale_since scheme happens trace hart x) ↔ StaleSince scheme Happens trace hart x
stale_since_iff scheme happens Happens same [] hart x = none_iff
stale_since_iff scheme happens Happens same (newest ∷ trace) hart x =
    and_iff _ _ _ _ (stale_iff scheme (newest ∷ trace) hart x) (or_iff _ _ _ _ (same newest trace) (stale_since_iff scheme happens Happens same trace hart x))

since_claim_iff : (scheme : Scheme) (token : ℕ) (trace : Trace) (hart : ℕ) (x : Translation)
    → IsTrue (is_stale_since_claim scheme token trace hart x) ↔ StaleSince scheme (λ newest before. IsTrue (begins_claim token newest)) trace hart x
since_claim_iff scheme token trace hart x =
    stale_since_iff scheme (λ newest before. begins_claim token newest) (λ newest before. IsTrue (begins_claim token newest)) (λ newest before. self_test (begins_claim token newest)) trace hart x

of-broken : (scheme : Scheme) (o : Option Claim) (token : ℕ) (trace : Trace) (hart : ℕ) (x : Translation) → claim_of trace token ≡ o → IsTrue (is_broken_of scheme o token trace hart x) → IsBroken scheme token trace hart x
of-broken scheme None token trace hart x is h = cc
of-broken scheme (Some claim) token trace hart x is h =
    let parts = and_parts (is_claimed claim x) _ h in
    record { claim = claim; begun = is; claimed = parts.0; stale = (since_claim_iff scheme token trace hart x).0 parts.1 }

broken_iff : (scheme : Scheme) (token : ℕ) (trace : Trace) (hart : ℕ) (x : Translation) → IsTrue (is_broken scheme token trace hart x) ↔ IsBroken scheme token trace hart x
broken_iff scheme token trace hart x = (
  of-broken scheme (claim_of trace token) token trace hart x refl,
  (λ b. ap (λ o. is_broken_of scheme o token trace hart x) b.begun ∙ and_from _ _ b.claimed ((since_claim_iff scheme token trace hart x).1 b.stale)),
)

takes_iff : (scheme : Scheme) (newest : Record) (trace : Trace) (hart : ℕ) (x : Translation) → IsTrue (takes scheme newest trace hart x) ↔ TakesForGone scheme newest trace hart x
takes_iff scheme (GiveBack of frames) trace hart x = exposed_iff scheme frames trace hart x
takes_iff scheme (ClaimEnd of token) trace hart x = broken_iff scheme token trace hart x
takes_iff scheme _ trace hart x = none_iff

taken_iff : (scheme : Scheme) (trace : Trace) (hart : ℕ) (x : Translation) → IsTrue (is_taken scheme trace hart x) ↔ TakenForGone scheme trace hart x
taken_iff scheme trace hart x =
    stale_since_iff scheme (λ newest before. takes scheme newest before hart x) (λ newest before. TakesForGone scheme newest before hart x) (λ newest before. takes_iff scheme newest before hart x) trace hart x

in-served : (o : Option Space) (trace : Trace) (hart address : ℕ) (x : Translation) → satp_of trace hart ≡ o → IsTrue (is_served_in o address x) → Serves trace hart address x
in-served None trace hart address x is h = cc
in-served (Some space) trace hart address x is h = record { space = space; satp = is; «match» = h }

served_iff : (trace : Trace) (hart address : ℕ) (x : Translation) → IsTrue (is_served_in (satp_of trace hart) address x) ↔ Serves trace hart address x
served_iff trace hart address x = (
  in-served (satp_of trace hart) trace hart address x refl,
  (λ s. ap (λ o. is_served_in o address x) s.satp ∙ s.«match»),
)

free_iff : (scheme : Scheme) (newest : Record) (trace : Trace) (hart : ℕ) (x : Translation) → IsTrue (is_free scheme newest trace hart x) ↔ IsGiven scheme Free newest trace hart x
free_iff scheme (GiveBack of frames) trace hart x = exposed_iff scheme frames trace hart x
free_iff scheme _ trace hart x = none_iff

reuse_iff : (scheme : Scheme) (newest : Record) (trace : Trace) (hart : ℕ) (x : Translation) → IsTrue (is_reuse scheme newest trace hart x) ↔ IsGiven scheme Reuse newest trace hart x
reuse_iff scheme (GiveOut of frames) trace hart x = exposed_iff scheme frames trace hart x
reuse_iff scheme _ trace hart x = none_iff

claim_iff : (scheme : Scheme) (newest : Record) (trace : Trace) (hart : ℕ) (x : Translation) → IsTrue (is_claim scheme newest trace hart x) ↔ IsGiven scheme Claimed newest trace hart x
claim_iff scheme (ClaimEnd of token) trace hart x = broken_iff scheme token trace hart x
claim_iff scheme _ trace hart x = none_iff

use_iff : (scheme : Scheme) (newest : Record) (trace : Trace) (hart : ℕ) (x : Translation) → IsTrue (is_use scheme newest trace hart x) ↔ IsGiven scheme Used newest trace hart x
use_iff scheme (Use of address) trace hart x = (
  (λ h.
      let parts = and_parts (of == hart) _ h in
      let more = and_parts (is_taken scheme trace hart x) _ parts.1 in
      (eqb-true _ _ parts.0, (taken_iff scheme trace hart x).0 more.0, (served_iff trace hart address x).0 more.1)),
  (λ h. and_from _ _ (eq-eqb _ _ h.0) (and_from _ _ ((taken_iff scheme trace hart x).1 h.1) ((served_iff trace hart address x).1 h.2))),
)
use_iff scheme _ trace hart x = none_iff

pub verdict_iff : (scheme : Scheme) (verdict : Verdict) (newest : Record) (trace : Trace) (hart : ℕ) (x : Translation) → IsTrue (has_verdict scheme verdict newest trace hart x) ↔ IsGiven scheme verdict newest trace hart x
verdict_iff scheme Free newest trace hart x = free_iff scheme newest trace hart x
verdict_iff scheme Reuse newest trace hart x = reuse_iff scheme newest trace hart x
verdict_iff scheme Claimed newest trace hart x = claim_iff scheme newest trace hart x
verdict_iff scheme Used newest trace hart x = use_iff scheme newest trace hart x

-- whether it is new

pub has_held_iff : (scheme : Scheme) (verdict : Verdict) (trace : Trace) (hart : ℕ) (x : Translation) → IsTrue (has_held scheme verdict trace hart x) ↔ WasGiven scheme verdict trace hart x
has_held_iff scheme verdict trace hart x =
    stale_since_iff scheme (λ newest before. has_verdict scheme verdict newest before hart x) (λ newest before. IsGiven scheme verdict newest before hart x)
    (λ newest before. verdict_iff scheme verdict newest before hart x) trace hart x

pub new_iff : (scheme : Scheme) (verdict : Verdict) (trace : Trace) (hart : ℕ) (x : Translation) → IsTrue (is_new scheme verdict trace hart x) ↔ IsNew scheme verdict trace hart x
new_iff scheme Used trace hart x = ((λ h. tt), (λ u. refl))
new_iff scheme Free trace hart x = not_iff _ _ (has_held_iff scheme Free trace hart x)
new_iff scheme Reuse trace hart x = not_iff _ _ (has_held_iff scheme Reuse trace hart x)
new_iff scheme Claimed trace hart x = not_iff _ _ (has_held_iff scheme Claimed trace hart x)

-- what has a test is so or not
known : (b : Bool) (A : Type 0) → (IsTrue b ↔ A) → A ⊎ (¬ A)
known true A p = inl (p.0 refl)
known false A p = inr (λ a. true≢false (sym (p.1 a)))

pub held_known : (scheme : Scheme) (trace : Trace) (hart : ℕ) (x : Translation) → MayHold scheme trace hart x ⊎ (¬ MayHold scheme trace hart x)
held_known scheme trace hart x = known (is_held scheme trace hart x) _ (held_iff scheme trace hart x)

pub stale_known : (scheme : Scheme) (trace : Trace) (hart : ℕ) (x : Translation) → Stale scheme trace hart x ⊎ (¬ Stale scheme trace hart x)
stale_known scheme trace hart x = known (is_stale scheme trace hart x) _ (stale_iff scheme trace hart x)

pub verdict_known : (scheme : Scheme) (verdict : Verdict) (newest : Record) (trace : Trace) (hart : ℕ) (x : Translation) → IsGiven scheme verdict newest trace hart x ⊎ (¬ IsGiven scheme verdict newest trace hart x)
verdict_known scheme verdict newest trace hart x = known (has_verdict scheme verdict newest trace hart x) _ (verdict_iff scheme verdict newest trace hart x)

pub new_known : (scheme : Scheme) (verdict : Verdict) (trace : Trace) (hart : ℕ) (x : Translation) → IsNew scheme verdict trace hart x ⊎ (¬ IsNew scheme verdict trace hart x)
new_known scheme verdict trace hart x = known (is_new scheme verdict trace hart x) _ (new_iff scheme verdict trace hart x)
