-- What each kind of record leaves of what is known.
use Rattle.std.proofs.Common.{◌≡◌, ℕ, ◌≤◌, ◌<◌, Bool, true, false, Option, Some, None, List, ◌∷◌, length, ap, sym, ◌∙◌, subst, refl, inl, inr, arith}
use Rattle.std.specs.Prelude.{◌==◌, ◌&&◌, not, nat_le, nat_lt, is_some, map, filter}
use Rattle.std.proofs.lemmas.Bool.{and_parts, and_from, not-true, not-false, true≢false, false_from_ne_true, cases_lt, lt-leb}
use Rattle.pte.specs.declared.scheme.Scheme.{Scheme}
use Rattle.tlb.specs.Fence.{is_fenced}
use Rattle.watch.specs.declared.trace.Claim.{Claim}
use Rattle.watch.specs.declared.trace.Frames.{Frames}
use Rattle.watch.specs.declared.trace.RemoteFence.{RemoteFence}
use Rattle.watch.specs.declared.trace.Verdict.{Verdict}
use Rattle.watch.specs.declared.trace.Record.{Record}
use Rattle.watch.specs.declared.trace.Record.TheVariants.{Fence, RemoteBegin, RemoteEnd, GiveOut, GiveBack, ClaimBegin, ClaimEnd, Use}
use Rattle.watch.specs.declared.trace.Verdict.TheVariants.{Free, Reuse, Claimed}
use Rattle.watch.specs.Trace.{Trace}
use Rattle.watch.specs.Holding.{Translation, is_covered, names}
use Rattle.watch.specs.Verdicts.{is_claimed}
use Rattle.watch.specs.ComputedTraces.{has_verdict, is_broken_of, is_current, is_dropped, is_dropped_by, is_live, is_live_since, is_stale}
use Rattle.watch_engine.specs.declared.held.Held.{Held}
use Rattle.watch_engine.specs.declared.open.OpenClaim.{OpenClaim}
use Rattle.watch_engine.specs.declared.open.OpenFence.{OpenFence}
use Rattle.watch_engine.specs.Held.{is_by, is_claimed_by, is_exposed_by, is_taken_by, marked_if, outlives_fence, outlives_remote, shares, stale_since, translation_of, with_state}
use Rattle.watch_engine.specs.State.{alone, given_all, none_given, rechecked}
use Rattle.watch_engine.specs.Open.{IsOpenClaim, IsOpenFence, fence_begun}
use Rattle.watch_engine.specs.Follows.{AreHeld, IsKnown, last_live_of}
use Rattle.watch_engine.proofs.Lists.{KeepsKey, filter_same, from_at_most, from_within, map_same, state_keeps, within}
use Rattle.watch_engine.proofs.Moments.{held_stale, stale_since-claim, live_since-begun}
use Rattle.watch_engine.proofs.Rechecks.{advanced, advanced_quiet, given_if, nothing_given}
use Rattle.watch_engine.proofs.Steps.{After, given_at, held-on, known_some, step}

-- nothing is changed
abbrev pub same : Held → Held
same i = i

pub same_keeps : KeepsKey same
same_keeps = state_keeps (λ i. i.state)

module _ (scheme : Scheme) (trace : Trace) where
  -- what a record leaves by which nothing becomes current, or stale
  pub quiet_given : (newest : Record) → (i : Held) → is_current scheme (newest ∷ trace) (translation_of i) ≡ is_current scheme trace (translation_of i) → IsKnown scheme trace i
      → with_state (given_all (given_at scheme newest trace i.hart (translation_of i)) i.state) i ≡ After scheme newest trace i
  quiet_given newest i unchanged known =
      let x : Translation = translation_of i in
      let stale : is_some (stale_since i) ≡ not (is_current scheme (newest ∷ trace) x) = known_some scheme trace i known ∙ (held_stale scheme trace i.hart x known.held ∙ ap not (sym unchanged)) in
      ap (λ s. with_state s i) (sym (advanced_quiet (is_current scheme (newest ∷ trace) x) (length (newest ∷ trace)) (given_at scheme newest trace i.hart x) i.state stale))

  -- and gives no verdict
  pub quiet : (newest : Record) → (i : Held) → given_at scheme newest trace i.hart (translation_of i) ≡ none_given → is_current scheme (newest ∷ trace) (translation_of i) ≡ is_current scheme trace (translation_of i) → IsKnown scheme trace i
      → i ≡ After scheme newest trace i
  quiet newest i none unchanged known =
      ap (λ s. with_state s i) (sym (nothing_given i.state) ∙ ap (λ g. given_all g i.state) (sym none)) ∙ quiet_given newest i unchanged known

  abbrev pub all_pass : Held → Bool
  all_pass i = true

  -- a record that drops nothing, and by which nothing is live, or current, that was not, and the other way round
  pub record IsPlain (newest : Record) : Type 0 where
    pub live : (hart : ℕ) (x : Translation) → is_live scheme (newest ∷ trace) hart x ≡ is_live scheme trace hart x
    pub current : (x : Translation) → is_current scheme (newest ∷ trace) x ≡ is_current scheme trace x
    pub keeps : (hart : ℕ) (x : Translation) → is_dropped scheme newest trace hart x ≡ false

  module _ (IsLeft : ℕ → Translation → ℕ → Type 0) where
    plain : (newest : Record) (f : Held → Held) (held : List Held) → KeepsKey f → IsPlain newest → ((i : Held) → IsKnown scheme trace i → f i ≡ After scheme newest trace i) → AreHeld scheme trace IsLeft held
        → AreHeld scheme (newest ∷ trace) IsLeft (map f held)
    plain newest f held keeps is after are =
        subst (λ (h : List Held). AreHeld scheme (newest ∷ trace) IsLeft (map f h)) (filter_same held)
        (step scheme newest trace IsLeft IsLeft held all_pass f (record {
          keeps = keeps;
          left = λ hart x n l. (l, is.keeps hart x, is.current x ∙ (are.left hart x n l).current);
          live = λ hart x norm live dead. absurd (true≢false (sym live ∙ (sym (is.live hart x) ∙ dead)));
          stays = λ hart x n norm l not_live last dead none. inr l;
          kept = λ i known t. held-on scheme newest trace i.hart (translation_of i) known.held (is.keeps i.hart (translation_of i));
          dropped = λ i known last t dead. absurd (true≢false t);
          after = λ i known h. after i known;
        }) are)

    pub remote_begins : (by token : ℕ) (fence : RemoteFence) (held : List Held) → AreHeld scheme trace IsLeft held → AreHeld scheme (RemoteBegin by token fence ∷ trace) IsLeft held
    remote_begins by token fence held are =
        let newest : Record = RemoteBegin by token fence in
        subst (AreHeld scheme (newest ∷ trace) IsLeft) (map_same held)
        (plain newest same held same_keeps (record { live = λ h x. refl; current = λ x. refl; keeps = λ h x. refl }) (λ i known. quiet newest i refl refl known) are)

    pub claim_begins : (by token : ℕ) (claim : Claim) (held : List Held) → AreHeld scheme trace IsLeft held → AreHeld scheme (ClaimBegin by token claim ∷ trace) IsLeft held
    claim_begins by token claim held are =
        let newest : Record = ClaimBegin by token claim in
        subst (AreHeld scheme (newest ∷ trace) IsLeft) (map_same held)
        (plain newest same held same_keeps (record { live = λ h x. refl; current = λ x. refl; keeps = λ h x. refl }) (λ i known. quiet newest i refl refl known) are)

    pub is_accessed : (by address : ℕ) (held : List Held) → AreHeld scheme trace IsLeft held → AreHeld scheme (Use by address ∷ trace) IsLeft held
    is_accessed by address held are =
        let newest : Record = Use by address in
        subst (AreHeld scheme (newest ∷ trace) IsLeft) (map_same held)
        (plain newest same held same_keeps (record { live = λ h x. refl; current = λ x. refl; keeps = λ h x. refl }) (λ i known. quiet newest i refl refl known) are)

  -- verdicts by what is known
  exposed_by : (frames : Frames) (i : Held) → IsKnown scheme trace i → is_exposed_by frames i ≡ (shares frames i.entry && is_stale scheme trace i.hart (translation_of i))
  exposed_by frames i known =
      ap (λ b. b && shares frames i.entry) (known_some scheme trace i known)
      ∙ (let swap : (a b : Bool) → (a && b) ≡ (b && a) = λ a b. elim a as (λ a. (a && b) ≡ (b && a)) [
        | true ↦ elim b as (λ b. b ≡ (b && true)) [ true ↦ refl | false ↦ refl ]
        | false ↦ elim b as (λ b. false ≡ (b && false)) [ true ↦ refl | false ↦ refl ]
      ] in swap (is_stale scheme trace i.hart (translation_of i)) (shares frames i.entry))

  pub freed_by : (by : ℕ) (frames : Frames) (i : Held) → IsKnown scheme trace i → is_exposed_by frames i ≡ has_verdict scheme Free (GiveBack by frames) trace i.hart (translation_of i)
  freed_by by frames i known = exposed_by frames i known

  pub reused_by : (by : ℕ) (frames : Frames) (i : Held) → IsKnown scheme trace i → is_exposed_by frames i ≡ has_verdict scheme Reuse (GiveOut by frames) trace i.hart (translation_of i)
  reused_by by frames i known = exposed_by frames i known

  pub claimed_by : (by token : ℕ) (found : Option OpenClaim) (i : Held) → IsOpenClaim trace token found → IsKnown scheme trace i → is_claimed_by found i ≡ has_verdict scheme Claimed (ClaimEnd by token) trace i.hart (translation_of i)
  claimed_by by token None i begun known = sym (ap (λ o. is_broken_of scheme o token trace i.hart (translation_of i)) begun)
  claimed_by by token (Some o) i begun known =
      (λ j. is_claimed o.claim (translation_of i) && is_by (known.since j) (begun.1 j))
      ∙ (ap (λ b. is_claimed o.claim (translation_of i) && b) (sym (stale_since-claim scheme token trace i.hart (translation_of i)))
      ∙ sym (ap (λ o. is_broken_of scheme o token trace i.hart (translation_of i)) begun.0))

  -- what gets a verdict
  pub marked_known : (v : Verdict) (test : Held → Bool) (b : Bool) (i : Held) → test i ≡ b → marked_if v test i ≡ with_state (given_all (alone v b) i.state) i
  marked_known v test b i is = ap (λ s. with_state s i) (given_if v (test i) i.state ∙ ap (λ b. given_all (alone v b) i.state) is)

  module _ (IsLeft : ℕ → Translation → ℕ → Type 0) where
    pub frames_back : (by : ℕ) (frames : Frames) (held : List Held) → AreHeld scheme trace IsLeft held → AreHeld scheme (GiveBack by frames ∷ trace) IsLeft (map (marked_if Free (is_exposed_by frames)) held)
    frames_back by frames held are =
        let newest : Record = GiveBack by frames in
        plain IsLeft newest (marked_if Free (is_exposed_by frames)) held (state_keeps (λ i. (marked_if Free (is_exposed_by frames) i).state)) (record { live = λ h x. refl; current = λ x. refl; keeps = λ h x. refl })
        (λ i known. marked_known Free (is_exposed_by frames) (has_verdict scheme Free newest trace i.hart (translation_of i)) i (freed_by by frames i known) ∙ quiet_given newest i refl known) are

    pub claim_ends : (by token : ℕ) (found : Option OpenClaim) (held : List Held) → IsOpenClaim trace token found → AreHeld scheme trace IsLeft held → AreHeld scheme (ClaimEnd by token ∷ trace) IsLeft (map (marked_if Claimed (is_claimed_by found)) held)
    claim_ends by token found held begun are =
        let newest : Record = ClaimEnd by token in
        plain IsLeft newest (marked_if Claimed (is_claimed_by found)) held (state_keeps (λ i. (marked_if Claimed (is_claimed_by found) i).state)) (record { live = λ h x. refl; current = λ x. refl; keeps = λ h x. refl })
        (λ i known. marked_known Claimed (is_claimed_by found) (has_verdict scheme Claimed newest trace i.hart (translation_of i)) i (claimed_by by token found i begun known) ∙ quiet_given newest i refl known) are

  -- fences
  module _ (Old New : ℕ → Translation → ℕ → Type 0) where
    abbrev pub Keeps : Record → Type 0
    Keeps newest = (hart : ℕ) (x : Translation) (n : ℕ) → Old hart x n → last_live_of scheme trace hart x ≤ n → is_dropped scheme newest trace hart x ≡ false → New hart x n

    abbrev pub Takes : Record → Type 0
    Takes newest = (hart : ℕ) (x : Translation) (n : ℕ) → New hart x n → Old hart x n × (is_dropped scheme newest trace hart x ≡ false)

    pub hart_fences : (by : ℕ) (rs1 rs2 : Option ℕ) (held : List Held) → Takes (Fence by rs1 rs2) → Keeps (Fence by rs1 rs2) → AreHeld scheme trace Old held → AreHeld scheme (Fence by rs1 rs2 ∷ trace) New (filter (outlives_fence scheme by rs1 rs2) held)
    hart_fences by rs1 rs2 held takes keeps are =
        let newest : Record = Fence by rs1 rs2 in
        subst (AreHeld scheme (newest ∷ trace) New) (map_same (filter (outlives_fence scheme by rs1 rs2) held))
        (step scheme newest trace Old New held (outlives_fence scheme by rs1 rs2) same (record {
          keeps = same_keeps;
          left = λ hart x n l. let t = takes hart x n l in (t.0, t.1, (are.left hart x n t.0).current);
          live = λ hart x norm live dead. absurd (true≢false (sym live ∙ dead));
          stays = λ hart x n norm l not_live last dead none. inr (keeps hart x n l last none);
          kept = λ i known t. held-on scheme newest trace i.hart (translation_of i) known.held (not-true ((by == i.hart) && is_fenced scheme rs1 rs2 i.entry) t);
          dropped = λ i known last t dead. not-false ((by == i.hart) && is_fenced scheme rs1 rs2 i.entry) t;
          after = λ i known h. quiet newest i refl refl known;
        }) are)

    taken_all : (by token : ℕ) (found : Option OpenFence) (i : Held) → IsOpenFence trace token found → IsKnown scheme trace i → is_dropped scheme (RemoteEnd by token) trace i.hart (translation_of i) ≡ true → is_taken_by scheme found i ≡ true
    taken_all by token None i begun known gone = absurd (true≢false (sym gone ∙ ap (λ o. is_dropped_by scheme o token trace i.hart (translation_of i)) begun))
    taken_all by token (Some o) i begun known gone =
        let x : Translation = translation_of i in
        let some : 0 < fence_begun token trace = subst (λ n. 0 < n) begun.1 begun.2 in
        let all : (names o.fence i.hart && (is_covered scheme o.fence i.entry && not (is_live_since scheme token trace i.hart x))) ≡ true =
        sym (ap (λ o. is_dropped_by scheme o token trace i.hart x) begun.0) ∙ gone in
        let p = and_parts (names o.fence i.hart) _ all in
        let q = and_parts (is_covered scheme o.fence i.entry) _ p.1 in
        let since = live_since-begun scheme token trace i.hart x some in
        let none : nat_le (fence_begun token trace) (last_live_of scheme trace i.hart x) ≡ false = sym since ∙ not-true _ q.1 in
        let last = known.last in
        let is = begun.1 in
        let less : i.last_live < o.begun = elim (cases_lt i.last_live o.begun) [
          | inl less ↦ less
          | inr more ↦ absurd (true≢false (sym (from_at_most (fence_begun token trace) (last_live_of scheme trace i.hart x) (omega arith)) ∙ none))
        ] in
        and_from _ _ p.0 (and_from _ _ q.0 (from_within i.last_live o.begun less))

    all_taken : (by token : ℕ) (found : Option OpenFence) (i : Held) → IsOpenFence trace token found → last_live_of scheme trace i.hart (translation_of i) ≤ i.last_live → is_taken_by scheme found i ≡ true → is_dropped scheme (RemoteEnd by token) trace i.hart (translation_of i) ≡ true
    all_taken by token None i begun last taken = cc
    all_taken by token (Some o) i begun last taken =
        let x : Translation = translation_of i in
        let some : 0 < fence_begun token trace = subst (λ n. 0 < n) begun.1 begun.2 in
        let p = and_parts (names o.fence i.hart) _ taken in
        let q = and_parts (is_covered scheme o.fence i.entry) (nat_lt i.last_live o.begun) p.1 in
        let less = within i.last_live o.begun q.1 in
        let is = begun.1 in
        let none : nat_le (fence_begun token trace) (last_live_of scheme trace i.hart x) ≡ false = lt-leb (fence_begun token trace) (last_live_of scheme trace i.hart x) (omega arith) in
        let dead : is_live_since scheme token trace i.hart x ≡ false = live_since-begun scheme token trace i.hart x some ∙ none in
        ap (λ o. is_dropped_by scheme o token trace i.hart x) begun.0 ∙ and_from _ _ p.0 (and_from _ _ q.0 (ap not dead))

    pub remote_ends : (by token : ℕ) (found : Option OpenFence) (held : List Held) → IsOpenFence trace token found → Takes (RemoteEnd by token) → Keeps (RemoteEnd by token) → AreHeld scheme trace Old held
        → AreHeld scheme (RemoteEnd by token ∷ trace) New (filter (outlives_remote scheme found) held)
    remote_ends by token found held begun takes keeps are =
        let newest : Record = RemoteEnd by token in
        subst (AreHeld scheme (newest ∷ trace) New) (map_same (filter (outlives_remote scheme found) held))
        (step scheme newest trace Old New held (outlives_remote scheme found) same (record {
          keeps = same_keeps;
          left = λ hart x n l. let t = takes hart x n l in (t.0, t.1, (are.left hart x n t.0).current);
          live = λ hart x norm live dead. absurd (true≢false (sym live ∙ dead));
          stays = λ hart x n norm l not_live last dead none. inr (keeps hart x n l last none);
          kept = λ i known t. held-on scheme newest trace i.hart (translation_of i) known.held
              (false_from_ne_true _ (λ gone. true≢false (sym (taken_all by token found i begun known gone) ∙ not-true (is_taken_by scheme found i) t)));
          dropped = λ i known last t dead. all_taken by token found i begun last (not-false (is_taken_by scheme found i) t);
          after = λ i known h. quiet newest i refl refl known;
        }) are)

  -- after a change of memory or of satp, which gives no verdict
  pub settled_after : (m : Bool) (n : ℕ) (i : Held) → with_state (rechecked m n i.state) i ≡ with_state (advanced m n none_given i.state) i
  settled_after m n i = ap (λ s. with_state (rechecked m n s) i) (sym (nothing_given i.state))
