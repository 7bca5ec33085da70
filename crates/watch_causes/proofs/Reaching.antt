-- What the moves decide of a finding, with one more record.
use Rattle.std.proofs.Common.{add-one, ◌≡◌, ◌∙◌, ◌+◌, ◌<◌, ◌≤◌, ℕ, Bool, true, false, List, [], ◌∷◌, ◌++◌, Option, Some, None, ap, arith, drop, get_or, inl, inr, length, map, refl, subst, suc, sym, take, zero}
use Rattle.std.specs.Prelude.{◌-◌, ◌==◌, ◌&&◌, ◌||◌, Err, Ok, OnOk, Result, cond, is_some, nat_le, nat_lt, not, slice_get}
use Rattle.std.specs.Option.{option_or, unwrap_or}
use Rattle.std.specs.Ordering.{is_eq}
use Rattle.std.proofs.Math.Seq.{drop-length, get_or-append_seam}
use Rattle.std.proofs.lemmas.Bool.{cases_Bool, ltb-false, ltb-true, or_parts}
use Rattle.std.proofs.lemmas.Bool.Decides.{nat_tests}
use Rattle.std.proofs.lemmas.List.{drop-append-le, get_or-append_right, get_or_append_left, length-append, length-reverse}
use Rattle.pte.specs.declared.scheme.Scheme.{Scheme}
use Rattle.tlb.specs.declared.store.Entry.{Entry}
use Rattle.watch.specs.declared.trace.Record.{Record}
use Rattle.watch.specs.declared.trace.Record.TheVariants.{Store, Satp, Fence, RemoteBegin, RemoteEnd, GiveOut, GiveBack, ClaimBegin, ClaimEnd, Use}
use Rattle.watch.specs.declared.trace.Space.{Space}
use Rattle.watch.specs.declared.trace.Verdict.TheVariants as uses
use Rattle.watch.specs.Trace.{Trace, fence_of, satp_of}
use Rattle.watch_engine.specs.declared.warning.Warning.{Warning}
use Rattle.watch_engine.specs.Open.{fence_begun}
use Rattle.watch_causes.specs.declared.begun.Begun.{Begun}
use Rattle.watch_causes.specs.declared.finding.Finding.{Finding}
use Rattle.watch_causes.specs.declared.log.Numbered.{Numbered}
use Rattle.watch_causes.specs.declared.moves.Move.{Move}
use Rattle.watch_causes.specs.declared.moves.Move.TheVariants.{Fences, Writes}
use Rattle.watch_causes.specs.Decisions.{by_fence, comes_from, decided, decision, is_under_asid}
use Rattle.watch_causes.specs.Findings.{Judged, finding_cmp, finding_of, is_same_finding, is_same_verdict}
use Rattle.watch_causes.specs.Moves.{AreWithin, IsWithin, asid_in, ended_by, fence_count, fences_of, kept_with, moved_by, newest_open, open_of, start_by}
use Rattle.watch_causes.specs.Reaches.{comes_back, is_left, is_under, is_used, reach_among, reach_by, takes, takes_at_end}
use Rattle.watch_causes.specs.Reaching.{IsFrom, IsStart, Stands}
use Rattle.watch_causes.proofs.Knowing.{or-none, same-by-order}
use Rattle.watch_causes.proofs.OpenFences.{IsOpenAt, at-newest, grown, open-at, still-at}

low : (m n : ℕ) → m < n → nat_le n m ≡ false
low m n is = grind (arith, nat_tests)

high : (m n : ℕ) → n ≤ m → nat_le n m ≡ true
high m n is = grind (arith, nat_tests)

and-false : (b : Bool) → (b && false) ≡ false
and-false true = refl
and-false false = refl

-- ---- a finding that begins with the newest record

module _ (scheme : Scheme) (w : Warning) (number : ℕ) where
  left-new : (trace : Trace) → length trace ≤ number → is_left scheme w number trace ≡ true
  left-new [] late = refl
  left-new (x ∷ trace) late =
      ap (λ b. not (b && takes scheme w x trace) && is_left scheme w number trace) (low (length trace) number (omega (arith, late)))
      ∙ left-new trace (omega (arith, late))

  away-new : (trace : Trace) → length trace < number → comes_back scheme w number trace ≡ false
  away-new [] late = refl
  away-new (x ∷ trace) late =
      ap (λ b. b || (nat_le number (length (x ∷ trace)) && (is_left scheme w number (x ∷ trace) && is_under w.entry (satp_of (x ∷ trace) w.hart))))
      (away-new trace (omega (arith, late)))
      ∙ ap (λ b. b && (is_left scheme w number (x ∷ trace) && is_under w.entry (satp_of (x ∷ trace) w.hart))) (low (length (x ∷ trace)) number late)

  back-new : (x : Record) (trace : Trace) → number ≡ length (x ∷ trace) → comes_back scheme w number (x ∷ trace) ≡ is_under w.entry (satp_of (x ∷ trace) w.hart)
  back-new x trace is =
      ap (λ b. b || (nat_le number (length (x ∷ trace)) && (is_left scheme w number (x ∷ trace) && is_under w.entry (satp_of (x ∷ trace) w.hart))))
      (away-new trace (omega (arith, is)))
      ∙ (ap (λ b. b && (is_left scheme w number (x ∷ trace) && is_under w.entry (satp_of (x ∷ trace) w.hart))) (high (length (x ∷ trace)) number (omega (arith, is)))
      ∙ ap (λ b. b && is_under w.entry (satp_of (x ∷ trace) w.hart)) (left-new (x ∷ trace) (omega (arith, is))))

pub new-start : (scheme : Scheme) (x : Record) (trace : Trace) (moves : List Move) (b : Begun) → b.number ≡ length (x ∷ trace)
    → IsStart scheme (x ∷ trace) moves b (start_by (is_under b.warning.entry (satp_of (x ∷ trace) b.warning.hart)) (length moves))
new-start scheme x trace moves b is =
    let w : Warning = b.warning in
    let under : Bool = is_under w.entry (satp_of (x ∷ trace) w.hart) in
    let t : Trace = x ∷ trace in
    record {
      number = omega (arith, is);
      from = elim (cases_Bool under) [
        | inl near ↦
            subst (λ v. IsFrom scheme t moves b (start_by v (length moves))) (sym near) (back-new scheme w b.number x trace is ∙ near)
        | inr away ↦
            subst (λ v. IsFrom scheme t moves b (start_by v (length moves))) (sym away) (
              omega arith,
              subst (λ ms. Stands scheme w b.number t (decided scheme (fences_of t) w ms)) (sym (drop-length moves))
                  (left-new scheme w b.number t (omega (arith, is)), away, back-new scheme w b.number x trace is ∙ away),
            )
      ];
    }

-- ---- the fences of the log grow

pub within-more : (m n : ℕ) → m ≤ n → (moves : List Move) → AreWithin m moves → AreWithin n moves
within-more m n more [] are = tt
within-more m n more (Writes hart asid ∷ moves) are = (tt, within-more m n more moves are.1)
within-more m n more (Fences at ∷ moves) are = (omega (arith, more, are.0), within-more m n more moves are.1)

pub within-append : (n : ℕ) (moves more : List Move) → AreWithin n moves → AreWithin n more → AreWithin n (moves ++ more)
within-append n [] more are those = those
within-append n (m ∷ moves) more are those = (are.0, within-append n moves more are.1 those)

within-drop : (n k : ℕ) (moves : List Move) → AreWithin n moves → AreWithin n (drop k moves)
within-drop n zero moves are = are
within-drop n (suc k) [] are = tt
within-drop n (suc k) (m ∷ moves) are = within-drop n k moves are.1

module _ (scheme : Scheme) (w : Warning) where
  same-decision : (fences more : List Numbered) (m : Move) → IsWithin (length fences) m → decision scheme (fences ++ more) w m ≡ decision scheme fences w m
  same-decision fences more (Writes hart asid) is = refl
  same-decision fences more (Fences at) is = ap (by_fence scheme w) (still-at fences more at is)

  same-decided : (fences more : List Numbered) (moves : List Move) → AreWithin (length fences) moves → decided scheme (fences ++ more) w moves ≡ decided scheme fences w moves
  same-decided fences more [] are = refl
  same-decided fences more (m ∷ moves) are =
      ap (λ o. option_or o (decided scheme (fences ++ more) w moves)) (same-decision fences more m are.0)
      ∙ ap (option_or (decision scheme fences w m)) (same-decided fences more moves are.1)

  or-or : (a b c : Option Bool) → option_or (option_or a b) c ≡ option_or a (option_or b c)
  or-or None b c = refl
  or-or (Some x) b c = refl

  decided-append : (fences : List Numbered) (moves more : List Move) → decided scheme fences w (moves ++ more) ≡ option_or (decided scheme fences w moves) (decided scheme fences w more)
  decided-append fences [] more = refl
  decided-append fences (m ∷ moves) more =
      ap (option_or (decision scheme fences w m)) (decided-append fences moves more)
      ∙ sym (or-or (decision scheme fences w m) (decided scheme fences w moves) (decided scheme fences w more))

-- ---- what the newest record decides

abbrev enters : Warning → Record → Bool
enters w (Satp hart space) = (hart == w.hart) && is_under w.entry space
enters w _ = false

abbrev decision_at : Scheme → Warning → Record → Trace → Option Bool
decision_at scheme w x trace = cond (takes scheme w x trace) (Some false) (cond (enters w x) (Some true) None)

same-under : (e : Entry) (space : Option Space) → is_under_asid e (asid_in space) ≡ is_under e space
same-under e None = refl
same-under e (Some space) = refl

pub under-by-asid : (e : Entry) (space : Option Space) (asid : Option ℕ) → asid ≡ asid_in space → is_under_asid e asid ≡ is_under e space
under-by-asid e space asid is = ap (is_under_asid e) is ∙ same-under e space

module _ (scheme : Scheme) (w : Warning) where
  and-true : (a b : Bool) → (a && (b && true)) ≡ (a && b)
  and-true true true = refl
  and-true true false = refl
  and-true false b = refl

  ended : (hart token : ℕ) (trace : Trace) (o : Option _) → IsOpenAt trace token o
      → decided scheme (fences_of trace) w (ended_by o) ≡ cond (takes_at_end scheme w (fence_begun token trace) (fence_of trace token)) (Some false) None
  ended hart token trace None none = sym (ap (λ f. cond (takes_at_end scheme w (fence_begun token trace) f) (Some false) None) none)
  ended hart token trace (Some o) (by, fence, is, within, at) =
      or-none (by_fence scheme w (slice_get (fences_of trace) o.at))
      ∙ (ap (by_fence scheme w) at ∙ sym (ap (λ f. cond (takes_at_end scheme w (fence_begun token trace) f) (Some false) None) is))

  moved-decides : (x : Record) (trace : Trace) → decided scheme (fences_of (x ∷ trace)) w (moved_by x trace) ≡ decision_at scheme w x trace
  moved-decides (Satp hart space) trace =
      or-none (decision scheme (fences_of trace) w (Writes hart (asid_in space)))
      ∙ ap (λ b. cond ((hart == w.hart) && b) (Some true) None) (same-under w.entry space)
  moved-decides (Fence of rs1 rs2) trace =
      or-none (by_fence scheme w (slice_get (fences_of (Fence of rs1 rs2 ∷ trace)) (fence_count trace)))
      ∙ (ap (by_fence scheme w) (at-newest (Fence of rs1 rs2) trace) ∙ ap (λ b. cond b (Some false) None) (and-true (of == w.hart) _))
  moved-decides (RemoteEnd hart token) trace = ended hart token trace (newest_open token None (open_of trace)) (open-at trace token)
  moved-decides (RemoteBegin hart token fence) trace = refl
  moved-decides (Store hart address word) trace = refl
  moved-decides (GiveOut hart frames) trace = refl
  moved-decides (GiveBack hart frames) trace = refl
  moved-decides (ClaimBegin hart token claim) trace = refl
  moved-decides (ClaimEnd hart token) trace = refl
  moved-decides (Use hart address) trace = refl

ended-within : (trace : Trace) (token : ℕ) (o : Option _) → IsOpenAt trace token o → AreWithin (fence_count trace) (ended_by o)
ended-within trace token None none = tt
ended-within trace token (Some o) (by, fence, is, within, at) = (within, tt)

pub moved-within : (x : Record) (trace : Trace) → AreWithin (fence_count (x ∷ trace)) (moved_by x trace)
moved-within (Satp hart space) trace = (tt, tt)
moved-within (Fence of rs1 rs2) trace = (omega arith, tt)
moved-within (RemoteEnd hart token) trace = ended-within trace token (newest_open token None (open_of trace)) (open-at trace token)
moved-within _ trace = tt

-- ---- a finding stands with one more record

module _ (scheme : Scheme) (w : Warning) (number : ℕ) where
  under-if : (b : Bool) (space old : Option Space) → is_under w.entry old ≡ false → is_under w.entry (cond b space old) ≡ (b && is_under w.entry space)
  under-if true space old away = refl
  under-if false space old away = away

  under-after : (x : Record) (trace : Trace) → is_under w.entry (satp_of trace w.hart) ≡ false → is_under w.entry (satp_of (x ∷ trace) w.hart) ≡ enters w x
  under-after (Satp of space) trace away = under-if (of == w.hart) space (satp_of trace w.hart) away
  under-after _ trace away = away

  left-after : (x : Record) (trace : Trace) → number ≤ length trace → is_left scheme w number trace ≡ true
      → is_left scheme w number (x ∷ trace) ≡ not (takes scheme w x trace)
  left-after x trace late left =
      ap (λ b. not (b && takes scheme w x trace) && is_left scheme w number trace) (high (length trace) number late)
      ∙ (ap (λ b. not (takes scheme w x trace) && b) left ∙ elim (takes scheme w x trace) as (λ b. (not b && true) ≡ not b) [ true ↦ refl | false ↦ refl ])

  back-after : (x : Record) (trace : Trace) → number ≤ length trace → comes_back scheme w number trace ≡ false
      → comes_back scheme w number (x ∷ trace) ≡ (is_left scheme w number (x ∷ trace) && is_under w.entry (satp_of (x ∷ trace) w.hart))
  back-after x trace late away =
      ap (λ b. b || (nat_le number (length (x ∷ trace)) && (is_left scheme w number (x ∷ trace) && is_under w.entry (satp_of (x ∷ trace) w.hart)))) away
      ∙ ap (λ b. b && (is_left scheme w number (x ∷ trace) && is_under w.entry (satp_of (x ∷ trace) w.hart))) (high (length (x ∷ trace)) number (omega (arith, late)))

  pub back-stays : (x : Record) (trace : Trace) → comes_back scheme w number trace ≡ true → comes_back scheme w number (x ∷ trace) ≡ true
  back-stays x trace back =
      ap (λ b. b || (nat_le number (length (x ∷ trace)) && (is_left scheme w number (x ∷ trace) && is_under w.entry (satp_of (x ∷ trace) w.hart)))) back

  stands-after : (x : Record) (trace : Trace) → number ≤ length trace → (o : Option Bool) → Stands scheme w number trace o
      → Stands scheme w number (x ∷ trace) (option_or o (decision_at scheme w x trace))
  stands-after x trace late (Some true) back = back-stays x trace back
  stands-after x trace late (Some false) (taken, away) =
      let left : is_left scheme w number (x ∷ trace) ≡ false =
      ap (λ b. not (nat_le number (length trace) && takes scheme w x trace) && b) taken ∙ and-false _ in
      (left, back-after x trace late away ∙ ap (λ b. b && is_under w.entry (satp_of (x ∷ trace) w.hart)) left)
  stands-after x trace late None (left, under, away) =
      let now-left = left-after x trace late left in
      let back = back-after x trace late away in
      let now-under = under-after x trace under in
      elim (cases_Bool (takes scheme w x trace)) [
        | inl taken ↦
            let gone : is_left scheme w number (x ∷ trace) ≡ false = now-left ∙ ap not taken in
            subst (λ b. Stands scheme w number (x ∷ trace) (cond b (Some false) (cond (enters w x) (Some true) None))) (sym taken)
            (gone, back ∙ ap (λ b. b && is_under w.entry (satp_of (x ∷ trace) w.hart)) gone)
        | inr kept ↦
            let still : is_left scheme w number (x ∷ trace) ≡ true = now-left ∙ ap not kept in
            let is : comes_back scheme w number (x ∷ trace) ≡ enters w x =
            back ∙ (ap (λ b. b && is_under w.entry (satp_of (x ∷ trace) w.hart)) still ∙ now-under) in
            subst (λ b. Stands scheme w number (x ∷ trace) (cond b (Some false) (cond (enters w x) (Some true) None))) (sym kept)
            (elim (cases_Bool (enters w x)) [
              | inl here ↦ subst (λ b. Stands scheme w number (x ∷ trace) (cond b (Some true) None)) (sym here) (is ∙ here)
              | inr out ↦ subst (λ b. Stands scheme w number (x ∷ trace) (cond b (Some true) None)) (sym out) (still, now-under ∙ out, is ∙ out)
            ])
      ]

pub start-after : (scheme : Scheme) (x : Record) (trace : Trace) (moves : List Move) → AreWithin (fence_count trace) moves → (keeps : Bool) (b : Begun) (start : Option ℕ)
    → (keeps ≡ false → start ≡ None)
    → IsStart scheme trace moves b start → IsStart scheme (x ∷ trace) (kept_with keeps moves (moved_by x trace)) b start
start-after scheme x trace moves within keeps b None none is =
    record { number = omega (arith, is.number); from = back-stays scheme b.warning b.number x trace is.from }
start-after scheme x trace moves within false b (Some start) none is = absurd (let e = none refl in cc)
start-after scheme x trace moves within true b (Some start) none is =
    let w : Warning = b.warning in
    let grow = grown x trace in
    let fences : List Numbered = fences_of (x ∷ trace) in
    let old : AreWithin (length (fences_of trace)) (drop start moves) =
    subst (λ n. AreWithin n (drop start moves)) (sym (length-reverse _)) (within-drop (fence_count trace) start moves within) in
    let same : decided scheme fences w (drop start moves) ≡ decided scheme (fences_of trace) w (drop start moves) =
    ap (λ fs. decided scheme fs w (drop start moves)) grow.1 ∙ same-decided scheme w (fences_of trace) grow.0 (drop start moves) old in
    let whole : decided scheme fences w (drop start (moves ++ moved_by x trace)) ≡ option_or (decided scheme (fences_of trace) w (drop start moves)) (decision_at scheme w x trace) =
    ap (decided scheme fences w) (drop-append-le start moves (moved_by x trace) is.from.0)
    ∙ (decided-append scheme w fences (drop start moves) (moved_by x trace)
    ∙ (ap (λ o. option_or o (decided scheme fences w (moved_by x trace))) same
    ∙ ap (option_or (decided scheme (fences_of trace) w (drop start moves))) (moved-decides scheme w x trace))) in
    record {
      number = omega (arith, is.number);
      from = (
        omega (arith, is.from.0, length-append moves (moved_by x trace)),
        subst (Stands scheme w b.number (x ∷ trace)) (sym whole) (stands-after scheme w b.number x trace is.number _ is.from.1),
      );
    }

-- ---- at the end

stands-tells : (scheme : Scheme) (w : Warning) (number : ℕ) (trace : Trace) (o : Option Bool) → Stands scheme w number trace o → unwrap_or o false ≡ comes_back scheme w number trace
stands-tells scheme w number trace None is = sym is.2
stands-tells scheme w number trace (Some true) is = sym is
stands-tells scheme w number trace (Some false) is = sym is.1

pub start-tells : (scheme : Scheme) (trace : Trace) (moves : List Move) (b : Begun) (start : Option ℕ) → IsStart scheme trace moves b start
    → comes_from scheme (fences_of trace) moves b.warning start ≡ comes_back scheme b.warning b.number trace
start-tells scheme trace moves b None is = sym is.from
start-tells scheme trace moves b (Some start) is = stands-tells scheme b.warning b.number trace _ is.from.1

-- ---- what is kept of all of them

more-count : (x : Record) (trace : Trace) → fence_count trace ≤ fence_count (x ∷ trace)
more-count (Fence of rs1 rs2) trace = omega arith
more-count (RemoteBegin of token fence) trace = omega arith
more-count _ trace = omega arith

none-by : {A : Type 0} (o : Option A) → is_some o ≡ false → o ≡ None
none-by None is = refl
none-by (Some x) is = absurd (let never : true ≡ false = is in cc)

of-none : (i : ℕ) → get_or {A = Option ℕ} (None ∷ []) i None ≡ None
of-none zero = refl
of-none (suc i) = refl

pub kept-within : (x : Record) (trace : Trace) (keeps : Bool) (moves : List Move) → AreWithin (fence_count trace) moves
    → AreWithin (fence_count (x ∷ trace)) (kept_with keeps moves (moved_by x trace))
kept-within x trace false moves are = within-more (fence_count trace) (fence_count (x ∷ trace)) (more-count x trace) moves are
kept-within x trace true moves are =
    within-append (fence_count (x ∷ trace)) moves (moved_by x trace)
    (within-more (fence_count trace) (fence_count (x ∷ trace)) (more-count x trace) moves are) (moved-within x trace)

module _ (scheme : Scheme) (x : Record) (trace : Trace) (moves : List Move) (others : List Begun) (starts : List (Option ℕ)) (long : length starts ≡ length others)
    (all : (i : ℕ) (d : Begun) → i < length others → IsStart scheme (x ∷ trace) moves (get_or others i d) (get_or starts i None))
    (b : Begun) (is : b.number ≡ length (x ∷ trace)) where
  abbrev own : Option ℕ
  own = start_by (is_under b.warning.entry (satp_of (x ∷ trace) b.warning.hart)) (length moves)

  pub with-start : (i : ℕ) (d : Begun) → i < length (others ++ b ∷ []) → IsStart scheme (x ∷ trace) moves (get_or (others ++ b ∷ []) i d) (get_or (starts ++ own ∷ []) i None)
  with-start i d low =
      elim (cases_Bool (nat_lt i (length others))) [
        | inl before ↦
            let under : i < length others = ltb-true i (length others) before in
            subst (λ one. IsStart scheme (x ∷ trace) moves one (get_or (starts ++ own ∷ []) i None)) (sym (get_or_append_left others (b ∷ []) d i under))
            (subst (λ s. IsStart scheme (x ∷ trace) moves (get_or others i d) s) (sym (get_or_append_left starts (own ∷ []) None i (omega (arith, under, long)))) (all i d under))
        | inr behind ↦
            let over : length others ≤ i = ltb-false i (length others) behind in
            let last : i ≡ length others = omega (arith, over, low, length-append others (b ∷ [])) in
            let P : ℕ → Type 0 = λ k. IsStart scheme (x ∷ trace) moves (get_or (others ++ b ∷ []) k d) (get_or (starts ++ own ∷ []) k None) in
            subst P (sym last)
            (subst (λ one. IsStart scheme (x ∷ trace) moves one (get_or (starts ++ own ∷ []) (length others) None)) (sym (get_or-append_seam others b [] d))
            (subst (λ s. IsStart scheme (x ∷ trace) moves b s)
            (sym (ap (λ k. get_or (starts ++ own ∷ []) k None) (sym long) ∙ get_or-append_seam starts own [] None)) (new-start scheme x trace moves b is)))
      ]

  -- where none is kept, it has no start either
  pub no-start : (keeps : Bool) → (keeps ≡ false → (i : ℕ) → get_or starts i None ≡ None) → (is_some own || keeps) ≡ false → (i : ℕ) → get_or (starts ++ own ∷ []) i None ≡ None
  no-start keeps none off i =
      let parts = or_parts (is_some own) keeps off in
      elim (cases_Bool (nat_lt i (length starts))) [
        | inl before ↦ get_or_append_left starts (own ∷ []) None i (ltb-true i (length starts) before) ∙ none parts.1 i
        | inr behind ↦
            get_or-append_right starts (own ∷ []) (length starts) i None refl (ltb-false i (length starts) behind)
            ∙ (ap (λ o. get_or (o ∷ []) (i - length starts) None) (none-by own parts.0) ∙ of-none (i - length starts))
      ]

some-either : {A : Type 0} (b : Bool) (x : A) (o : Option A) → is_some (cond b (Some x) o) ≡ (b || is_some o)
some-either true x o = refl
some-either false x o = refl

-- one more verdict, which is a use or not
pub one-use : {A : Type 0} (verdicts : List Judged) (v : Judged) (f : Finding) (x : A) (o : Option A) → is_some o ≡ is_used verdicts f → is_same_verdict v.warning.verdict uses.Used ≡ true
    → is_some (cond (is_eq (finding_cmp (finding_of v.warning) f)) (Some x) o) ≡ is_used (v ∷ verdicts) f
one-use verdicts v f x o is is-use =
    some-either (is_eq (finding_cmp (finding_of v.warning) f)) x o
    ∙ (ap (λ b. b || is_some o) (same-by-order (finding_of v.warning) f)
    ∙ (ap (λ b. is_same_finding (finding_of v.warning) f || b) is
    ∙ sym (ap (λ b. (b && is_same_finding (finding_of v.warning) f) || is_used verdicts f) is-use)))

pub no-use : (verdicts : List Judged) (v : Judged) (f : Finding) (used : Bool) → used ≡ is_used verdicts f → is_same_verdict v.warning.verdict uses.Used ≡ false → used ≡ is_used (v ∷ verdicts) f
no-use verdicts v f used is other = is ∙ sym (ap (λ b. (b && is_same_finding (finding_of v.warning) f) || is_used verdicts f) other)

pub on_both : {T E P Q R : Type 0} (r : Result T E) → OnOk r P → OnOk r Q → (P → Q → R) → OnOk r R
on_both (Ok x) p q f = f p q
on_both (Err e) p q f = tt

-- ---- the reach of each

pub reach-from : (scheme : Scheme) (trace : Trace) (verdicts : List Judged) (moves : List Move) (b : Begun) (start : Option ℕ) (fences : List Numbered) → fences ≡ fences_of trace
    → (used : Bool) → used ≡ is_used verdicts (finding_of b.warning) → IsStart scheme trace moves b start
    → reach_by used (comes_from scheme fences moves b.warning start) ≡ reach_among scheme trace verdicts b
reach-from scheme trace verdicts moves b start fences same used is from =
    ap (λ u. reach_by u (comes_from scheme fences moves b.warning start)) is
    ∙ ap (reach_by (is_used verdicts (finding_of b.warning)))
    (ap (λ fs. comes_from scheme fs moves b.warning start) same ∙ start-tells scheme trace moves b start from)

more-items : {A B : Type 0} (f : A → B) (xs : List A) (i : ℕ) (d : A) → i < length xs → map f (take (suc i) xs) ≡ map f (take i xs) ++ f (get_or xs i d) ∷ []
more-items f [] i d within = absurd (omega (arith, within))
more-items f (x ∷ xs) zero d within = refl
more-items f (x ∷ xs) (suc i) d within = ap (λ ys. f x ∷ ys) (more-items f xs i d (omega (arith, within)))

pub next-item : {A B : Type 0} (f : A → B) (xs : List A) (i : ℕ) (d : A) → i < length xs → map f (take (i + 1) xs) ≡ map f (take i xs) ++ f (get_or xs i d) ∷ []
next-item f xs i d within = ap (λ n. map f (take n xs)) (add-one i) ∙ more-items f xs i d within
