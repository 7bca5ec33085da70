-- What a hart that writes satp leaves.
use Rattle.std.proofs.Common.{◌≡◌, ℕ, Bool, true, false, ◌+◌, ◌<◌, ◌≤◌, ◌⊎◌, zero, suc, Option, Some, None, List, [], ◌∷◌, length, get_or, set, map, filter, IsTrue, ap, sym, ◌∙◌, subst, refl, inl, inr, arith}
use Rattle.std.specs.Prelude.{◌==◌, ◌&&◌, ◌||◌, cond, is_some, not}
use Rattle.std.specs.List.{list_any}
use Rattle.std.proofs.lemmas.Bool.{and_parts, cases_Bool, cases_eq, eq-eqb, eqb-true, ne_eqb, or_right, true≢false}
use Rattle.watch.specs.declared.trace.Record.{Record}
use Rattle.watch.specs.declared.trace.Record.TheVariants.{Satp}
use Rattle.watch.specs.declared.trace.Space.{Space}
use Rattle.watch.specs.Trace.{Trace, has_root, is_root, satp_of, words_of}
use Rattle.watch.specs.Holding.{BelongsTo, HasLeaf, Translation}
use Rattle.watch.specs.Computed.{is_mapped}
use Rattle.watch.specs.ComputedTraces.{is_current, is_live, is_live_in}
use Rattle.watch.proofs.ComputedTraces.{live_iff}
use Rattle.watch.proofs.Roots.{satp-root}
use Rattle.watch_engine.specs.declared.held.Held.{Held}
use Rattle.watch_engine.specs.declared.left.Left.{Left}
use Rattle.watch_engine.specs.declared.open.OpenClaim.{OpenClaim}
use Rattle.watch_engine.specs.declared.open.OpenFence.{OpenFence}
use Rattle.watch_engine.specs.Held.{AreEntered, IsNormalized, IsWith, all_found_again, found_again, is_current_by, knows, stale_since, translation_of, with_state}
use Rattle.watch_engine.specs.declared.state.State.TheVariants.{Current}
use Rattle.watch_engine.specs.State.{rechecked}
use Rattle.watch_engine.specs.Left.{EachLeft, IsLeftAt, IsLeftHeld, added, is_other, is_space, left_of, takes, with_left}
use Rattle.watch_engine.specs.Follows.{AreHeld, IsHeldFrom, IsKnown}
use Rattle.watch_engine.specs.Standing.{AreRoots, IsLeftWithin, Stands}
use Rattle.watch_engine.proofs.Leaving.{any_first, any_last, any_member, any_out, any_pushed, any_weaker, any_with, each_pushed, filter_each, filter_in, filter_out}
use Rattle.watch_engine.proofs.Moments.{held_stale}
use Rattle.watch_engine.proofs.Lists.{KeepsKey, filter_same, map_same, state_keeps}
use Rattle.watch_engine.proofs.Rechecks.{current_again}
use Rattle.watch_engine.proofs.Records.{all_pass, quiet, same, same_keeps, settled_after}
use Rattle.watch_engine.proofs.SpaceRoots.{current_same, roots_current, roots_entered}
use Rattle.watch_engine.proofs.Standings.{current_of, drop_end, live_from, more_records, since_now, to_live}
use Rattle.watch_engine.proofs.Steps.{After, held-on, known_some, step}
use Rattle.watch_engine.specs.View.{IsLeftIn, View}

-- a list with one place written
set-other : (xs : List (Option Space)) (k h : ℕ) (s : Option Space) → (k ≡ h → ⊥) → get_or (set xs k s) h None ≡ get_or xs h None
set-other [] k h s other = refl
set-other (x ∷ xs) zero zero s other = absurd (other refl)
set-other (x ∷ xs) zero (suc h) s other = refl
set-other (x ∷ xs) (suc k) zero s other = refl
set-other (x ∷ xs) (suc k) (suc h) s other = set-other xs k h s (λ e. other (ap suc e))

set-here : (xs : List (Option Space)) (k : ℕ) (s : Option Space) → k < length xs → get_or (set xs k s) k None ≡ s
set-here [] k s within = absurd (omega arith)
set-here (x ∷ xs) zero s within = refl
set-here (x ∷ xs) (suc k) s within = set-here xs k s (omega arith)

set-length : (xs : List (Option Space)) (k : ℕ) (s : Option Space) → length (set xs k s) ≡ length xs
set-length [] k s = refl
set-length (x ∷ xs) zero s = refl
set-length (x ∷ xs) (suc k) s = ap suc (set-length xs k s)

is-space : (o : Option Space) (space : Space) → is_space o space ≡ true → o ≡ Some space
is-space None space h = cc
is-space (Some s) space h =
    let p = and_parts (s.root == space.root) (s.asid == space.asid) h in
    let root : s.root ≡ space.root = eqb-true _ _ p.0 in
    let asid : s.asid ≡ space.asid = eqb-true _ _ p.1 in
    (λ j. Some (record { root = root j; asid = asid j }))

module _ {trace : Trace} {v : View} {held : List Held} {fences : List OpenFence} {claims : List OpenClaim}
    (at : Stands trace v held fences claims) where
  -- the space in the hart's satp may be written down as left now
  module _ (by : ℕ) (space : Space) (is : get_or v.satps by None ≡ Some space) where
    abbrev one : Left
    one = record { hart = by; space = space; left = v.count; fences = length v.drops }

    one-held : (hart : ℕ) (x : Translation) → by ≡ hart → BelongsTo space x → HasLeaf v.scheme v.words space.root x.entry → IsLeftHeld v.scheme v.words v.since v.drops one hart x
    one-held hart x same belongs leaf = record {
      by = same;
      belongs = belongs;
      leaf = leaf;
      unchanged = since_now at space.root x.entry leaf;
      kept = ap (list_any (takes v.scheme one x.entry)) (drop_end v.drops);
    }

    one-good : (hart : ℕ) (x : Translation) (n : ℕ) → (v.count ≡ n) × IsLeftHeld v.scheme v.words v.since v.drops one hart x → IsHeldFrom v.scheme trace hart x n
    one-good hart x n (last, h) =
        let count_is = at.records in
        let satp : satp_of trace hart ≡ Some space = subst (λ k. satp_of trace k ≡ Some space) h.by (sym (at.satp by) ∙ is) in
        let live = (live_iff v.scheme trace hart x).1 (record { space = space; satp = satp; belongs = h.belongs; leaf = subst (λ w. HasLeaf v.scheme w space.root x.entry) at.memory h.leaf }) in
        live_from at hart x n live (omega arith)

    one-pushed : Stands trace (record v { left = added one v.left }) held fences claims
    one-pushed = record {
      memory = at.memory;
      ages = at.ages;
      harts = at.harts;
      satp = at.satp;
      spaces = at.spaces;
      leaving = each_pushed (IsLeftWithin trace v.drops) v.left one at.leaving (record { root = satp-root trace by space (sym (at.satp by) ∙ is); within = let n = at.records in omega arith; fences = omega arith });
      are = record {
        each = at.are.each;
        left = λ hart x n l. elim (any_pushed (λ l. (l.left ≡ n) × IsLeftHeld v.scheme v.words v.since v.drops l hart x) v.left one l) [
          | inl old ↦ at.are.left hart x n old
          | inr new ↦ one-good hart x n new
        ];
        all = λ hart x norm h dead. elim (at.are.all hart x norm h dead) [
          | inl known ↦ inl known
          | inr old ↦ inr (any_first _ v.left one old)
        ];
      };
      fence = at.fence;
      claim = at.claim;
      records = at.records;
    }

  pub left_pushed : (by : ℕ) (old : Option Space) → get_or v.satps by None ≡ old → (now : List Left) → now ≡ with_left (left_of by old v.count (length v.drops)) v.left → Stands trace (record v { left = now }) held fences claims
  left_pushed by None is now are =
      subst (λ (ls : List Left). Stands trace (record v { left = ls }) held fences claims) (sym are)
      (record { memory = at.memory; ages = at.ages; harts = at.harts; satp = at.satp; spaces = at.spaces; leaving = at.leaving; are = at.are; fence = at.fence; claim = at.claim; records = at.records })
  left_pushed by (Some space) is now are =
      subst (λ (ls : List Left). Stands trace (record v { left = ls }) held fences claims) (sym are) (one-pushed by space is)

  pub other_satps : (these : List (Option Space)) → length these ≤ 256 → ((hart : ℕ) → get_or these hart None ≡ get_or v.satps hart None) → Stands trace (record v { satps = these }) held fences claims
  other_satps these small same =
      record { memory = at.memory; ages = at.ages; harts = small; satp = λ hart. same hart ∙ at.satp hart; spaces = at.spaces; leaving = at.leaving; are = at.are; fence = at.fence; claim = at.claim; records = at.records }

-- one test more
or-more : (g t a b : Bool) → ((not g && t) || (g && (a || b))) ≡ (((not g && t) || (g && a)) || (g && b))
or-more true t true b = refl
or-more true t false true = refl
or-more true t false false = refl
or-more false true a b = refl
or-more false false a b = refl

-- with the space that the hart leaves among those that were left
module _ {trace : Trace} {v : View} {held : List Held} {fences : List OpenFence} {claims : List OpenClaim}
    (at : Stands trace v held fences claims) (by : ℕ) (space : Option Space)
    (leaves : (hart : ℕ) (x : Translation) → by ≡ hart → is_live v.scheme trace hart x ≡ true → IsLeftIn v hart x v.count) (these : List ℕ) (entered : AreEntered space v.roots these) where
  abbrev newest : Record
  newest = Satp by space

  abbrev kept : List Left
  kept = filter (is_other by space) v.left

  abbrev Old : ℕ → Translation → ℕ → Type 0
  Old = IsLeftIn v

  abbrev New : ℕ → Translation → ℕ → Type 0
  New = IsLeftAt v.scheme v.words v.since v.drops kept

  abbrev Left_at : ℕ → Translation → ℕ → Left → Type 0
  Left_at hart x n l = (l.left ≡ n) × IsLeftHeld v.scheme v.words v.since v.drops l hart x

  spaces : AreRoots (newest ∷ trace) these
  spaces = roots_entered trace by space v.roots these entered at.spaces

  more-roots : (root : ℕ) → IsTrue (is_root trace root) → IsTrue (is_root (newest ∷ trace) root)
  more-roots root is = or_right (has_root space root) (is_root trace root) is

  other-live : (hart : ℕ) (x : Translation) → (by ≡ hart → ⊥) → is_live v.scheme (newest ∷ trace) hart x ≡ is_live v.scheme trace hart x
  other-live hart x other = ap (λ b. is_live_in v.scheme (words_of trace) (cond b space (satp_of trace hart)) x) (ne_eqb by hart other)

  -- what was left in the space to which the hart comes is live
  back-live : (hart : ℕ) (x : Translation) (n : ℕ) (l : Left) → Left_at hart x n l → is_other by space l ≡ false → is_live v.scheme (newest ∷ trace) hart x ≡ true
  back-live hart x n l (last, h) back =
      let both : ((l.hart == by) && is_space space l.space) ≡ true = elim (cases_Bool ((l.hart == by) && is_space space l.space)) [
        | inl t ↦ t
        | inr f ↦ absurd (true≢false (sym (ap not f) ∙ back))
      ] in
      let p = and_parts (l.hart == by) (is_space space l.space) both in
      let same : by ≡ hart = sym (eqb-true _ _ p.0) ∙ h.by in
      let satp : satp_of (newest ∷ trace) hart ≡ Some l.space = ap (λ b. cond b space (satp_of trace hart)) (eq-eqb by hart same) ∙ is-space space l.space p.1 in
      (live_iff v.scheme (newest ∷ trace) hart x).1 (record { space = l.space; satp = satp; belongs = h.belongs; leaf = subst (λ w. HasLeaf v.scheme w l.space.root x.entry) at.memory h.leaf })

  still : (hart : ℕ) (x : Translation) (n : ℕ) → Old hart x n → is_live v.scheme (newest ∷ trace) hart x ≡ false → New hart x n
  still hart x n old dead =
      let m = any_member (Left_at hart x n) v.left old in
      let stays : is_other by space m.one ≡ true = elim (cases_Bool (is_other by space m.one)) [
        | inl t ↦ t
        | inr f ↦ absurd (true≢false (sym (back-live hart x n m.one m.has f) ∙ dead))
      ] in
      filter_in (Left_at hart x n) (is_other by space) v.left (m.among (λ l. Left_at hart x n l × (is_other by space l ≡ true)) (m.has, stays))

  before : (hart : ℕ) (x : Translation) (n : ℕ) → New hart x n → Old hart x n
  before hart x n new = any_weaker (λ l. Left_at hart x n l × (is_other by space l ≡ true)) (Left_at hart x n) (λ l h. h.0) v.left (filter_out (Left_at hart x n) (is_other by space) v.left new)

  current : (hart : ℕ) (x : Translation) (n : ℕ) → Old hart x n → is_current v.scheme (newest ∷ trace) x ≡ true
  current hart x n old =
      any_out (λ l. Left_at hart x n l × IsLeftWithin trace v.drops l) (is_current v.scheme (newest ∷ trace) x ≡ true)
      (λ l h. current_of v.scheme (newest ∷ trace) l.space x (more-roots l.space.root h.1.root) h.0.1.belongs (subst (λ w. HasLeaf v.scheme w l.space.root x.entry) at.memory h.0.1.leaf))
      v.left (any_with (Left_at hart x n) (IsLeftWithin trace v.drops) v.left at.leaving old)

  live-left : (hart : ℕ) (x : Translation) → IsNormalized x → is_live v.scheme trace hart x ≡ true → is_live v.scheme (newest ∷ trace) hart x ≡ false → (knows hart x (length trace) held ≡ true) ⊎ New hart x (length trace)
  live-left hart x norm live dead =
      elim (cases_eq by hart) [
        | inl mine ↦ inr (still hart x (length trace) (subst (Old hart x) at.records (leaves hart x mine live)) dead)
        | inr other ↦ absurd (true≢false (sym live ∙ (sym (other-live hart x other) ∙ dead)))
      ]

  entered-are : (f : Held → Held) → KeepsKey f → ((i : Held) → IsKnown v.scheme trace i → f i ≡ After v.scheme newest trace i) → AreHeld v.scheme (newest ∷ trace) New (map f held)
  entered-are f keeps after =
      subst (λ (h : List Held). AreHeld v.scheme (newest ∷ trace) New (map f h)) (filter_same held)
      (step v.scheme newest trace Old New held (all_pass v.scheme trace) f (record {
        keeps = keeps;
        left = λ hart x n l. let old = before hart x n l in (old, refl, current hart x n old);
        live = live-left;
        stays = λ hart x n norm old not_live last dead none. inr (still hart x n old dead);
        kept = λ i known t. held-on v.scheme newest trace i.hart (translation_of i) known.held refl;
        dropped = λ i known last t dead. absurd (true≢false t);
        after = λ i known h. after i known;
      }) at.are)

  abbrev test : Translation → Bool
  test = is_mapped v.scheme v.words

  current-after : (x : Translation) → is_current_by test these x ≡ is_current v.scheme (newest ∷ trace) x
  current-after x = ap (λ w. is_current_by (is_mapped v.scheme w) these x) at.memory ∙ roots_current v.scheme (newest ∷ trace) these spaces x

  current-then : (x : Translation) → is_current_by test v.roots x ≡ is_current v.scheme trace x
  current-then x = ap (λ w. is_current_by (is_mapped v.scheme w) v.roots x) at.memory ∙ roots_current v.scheme trace v.roots at.spaces x

  -- a new root
  module _ (root : ℕ) (one_more : IsWith root v.roots these) where
    abbrev found : Translation → Bool
    found x = x.entry.global && test (record x { root = root })

    current-more : (x : Translation) → is_current v.scheme (newest ∷ trace) x ≡ (is_current v.scheme trace x || found x)
    current-more x =
        let which : Translation → ℕ → Bool = λ x r. test (record x { root = r }) in
        sym (current-after x)
        ∙ (ap (λ b. (not x.entry.global && test x) || (x.entry.global && b)) (one_more (which x))
        ∙ (or-more x.entry.global (test x) (list_any (which x) v.roots) (which x root)
        ∙ ap (λ b. b || found x) (current-then x)))

    found-after-satp : (i : Held) → IsKnown v.scheme trace i → found_again test root i ≡ After v.scheme newest trace i
    found-after-satp i known =
        let x : Translation = translation_of i in
        let n : ℕ = length (newest ∷ trace) in
        let stale : is_some (stale_since i) ≡ not (is_current v.scheme trace x) = known_some v.scheme trace i known ∙ held_stale v.scheme trace i.hart x known.held in
        let go : (c f : Bool) → is_current v.scheme trace x ≡ c → found x ≡ f → with_state (cond (not c && f) Current i.state) i ≡ After v.scheme newest trace i =
        λ c f. elim c as (λ c. is_current v.scheme trace x ≡ c → found x ≡ f → with_state (cond (not c && f) Current i.state) i ≡ After v.scheme newest trace i) [
          | true ↦ λ was is. quiet v.scheme trace newest i refl (current-more x ∙ (ap (λ b. b || found x) was ∙ sym was)) known
          | false ↦ λ was. elim f as (λ f. found x ≡ f → with_state (cond f Current i.state) i ≡ After v.scheme newest trace i) [
            | true ↦ λ is.
                let now : is_current v.scheme (newest ∷ trace) x ≡ true = current-more x ∙ (λ j. was j || is j) in
                sym (ap (λ b. with_state (rechecked b n i.state) i) now ∙ ap (λ s. with_state s i) (current_again n i.state known.there)) ∙ settled_after v.scheme trace (is_current v.scheme (newest ∷ trace) x) n i
            | false ↦ λ is. quiet v.scheme trace newest i refl (current-more x ∙ ((λ j. was j || is j) ∙ sym was)) known
          ]
        ] in
        ap (λ b. with_state (cond (b && found x) Current i.state) i) stale ∙ go (is_current v.scheme trace x) (found x) refl refl

  quiet-after-satp : these ≡ v.roots → (i : Held) → IsKnown v.scheme trace i → i ≡ After v.scheme newest trace i
  quiet-after-satp unchanged i known =
      quiet v.scheme trace newest i refl
      (current_same v.scheme trace (newest ∷ trace) (translation_of i) (λ root. sym (at.spaces root) ∙ (ap (list_any (λ r. r == root)) (sym unchanged) ∙ spaces root)) (λ root counts. ((λ m. m), (λ m. m)))) known

  entered-held : (new : Option ℕ) → (new ≡ None → these ≡ v.roots) → ((root : ℕ) → new ≡ Some root → IsWith root v.roots these) → (now : List Held) → now ≡ all_found_again test new held → AreHeld v.scheme (newest ∷ trace) New now
  entered-held (Some root) same more now is =
      subst (AreHeld v.scheme (newest ∷ trace) New) (sym is) (entered-are (found_again test root) (state_keeps (λ i. (found_again test root i).state)) (found-after-satp root (more root refl)))
  entered-held None unchanged more now is =
      subst (AreHeld v.scheme (newest ∷ trace) New) (map_same held ∙ sym is) (entered-are same same_keeps (quiet-after-satp (unchanged refl)))

  pub satp_stands : by < length v.satps → (new : Option ℕ) → (new ≡ None → these ≡ v.roots) → ((root : ℕ) → new ≡ Some root → IsWith root v.roots these) → (now : List Held) → now ≡ all_found_again test new held → (stayed : List Left) → stayed ≡ kept → (written : List (Option Space)) → written ≡ set v.satps by space
      → Stands (newest ∷ trace) (record v { satps = written; roots = these; left = stayed; count = v.count + 1 }) now fences claims
  satp_stands within new unchanged more now is stayed stay written put =
      let satp : (hart : ℕ) → get_or (set v.satps by space) hart None ≡ cond (by == hart) space (satp_of trace hart) =
      λ hart. elim (cases_eq by hart) [
        | inl mine ↦ subst (λ h. get_or (set v.satps by space) h None ≡ cond (by == h) space (satp_of trace h)) mine (set-here v.satps by space within ∙ sym (ap (λ b. cond b space (satp_of trace by)) (eq-eqb by by refl)))
        | inr other ↦ set-other v.satps by hart space other ∙ (at.satp hart ∙ sym (ap (λ b. cond b space (satp_of trace hart)) (ne_eqb by hart other)))
      ] in
      record {
        memory = at.memory;
        ages = record { within = λ t i filled. let old = at.ages.within t i filled in omega arith };
        harts = subst (λ n. n ≤ 256) (sym (ap (λ (ss : List (Option Space)). length ss) put ∙ set-length v.satps by space)) at.harts;
        satp = λ hart. ap (λ ss. get_or ss hart None) put ∙ satp hart;
        spaces = spaces;
        leaving = subst (EachLeft (IsLeftWithin (newest ∷ trace) v.drops)) (sym stay)
            (filter_each (IsLeftWithin trace v.drops) (IsLeftWithin (newest ∷ trace) v.drops) (is_other by space) (λ l w t. record { root = more-roots l.space.root w.root; within = let less = w.within in omega arith; fences = w.fences }) v.left at.leaving);
        are = subst (λ (ls : List Left). AreHeld v.scheme (newest ∷ trace) (IsLeftAt v.scheme v.words v.since v.drops ls) now) (sym stay) (entered-held new unchanged more now is);
        fence = at.fence;
        claim = at.claim;
        records = more_records at newest;
      }

-- what is live for the hart is left by it
pub leaving_all : {trace : Trace} {v : View} {held : List Held} {fences : List OpenFence} {claims : List OpenClaim}
    → (at : Stands trace v held fences claims) (by : ℕ) (old : Option Space) → get_or v.satps by None ≡ old → (now : List Left) → now ≡ with_left (left_of by old v.count (length v.drops)) v.left
    → (hart : ℕ) (x : Translation) → by ≡ hart → is_live v.scheme trace hart x ≡ true → IsLeftAt v.scheme v.words v.since v.drops now hart x v.count
leaving_all {trace} {v} at by old is now are hart x mine live =
    let l = to_live at hart x live in
    let satp : old ≡ Some l.of = sym is ∙ (ap (λ h. get_or v.satps h None) mine ∙ l.satp) in
    let one : Left = record { hart = by; space = l.of; left = v.count; fences = length v.drops } in
    let is_now : now ≡ added one v.left = are ∙ (λ j. with_left (left_of by (satp j) v.count (length v.drops)) v.left) in
    subst (λ (ls : List Left). IsLeftAt v.scheme v.words v.since v.drops ls hart x v.count) (sym is_now)
    (any_last (λ m. (m.left ≡ v.count) × IsLeftHeld v.scheme v.words v.since v.drops m hart x) v.left one (refl, one-held at by l.of (ap (λ h. get_or v.satps h None) mine ∙ l.satp) hart x mine l.belongs l.leaf))
