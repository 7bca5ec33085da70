-- What fences leave of the spaces that were left.
use Rattle.std.proofs.Common.{◌≡◌, ℕ, Bool, true, false, ◌+◌, ◌<◌, ◌≤◌, Option, Some, None, List, [], ◌∷◌, ◌++◌, length, filter, ap, sym, ◌∙◌, subst, refl, inl, inr, arith}
use Rattle.std.specs.Prelude.{◌==◌, ◌&&◌, ◌||◌, cond, not, nat_le, nat_lt}
use Rattle.std.proofs.lemmas.Bool.{and_parts, and_from, cases_lt, eq-eqb, eqb-true, false_from_ne_true, lt-leb, not-true, not_from_false, or_from, or_parts, true≢false}
use Rattle.tlb.specs.declared.store.Entry.{Entry}
use Rattle.tlb.specs.Fence.{is_fenced}
use Rattle.watch.specs.declared.trace.Record.{Record}
use Rattle.watch.specs.declared.trace.Record.TheVariants.{Fence, RemoteEnd}
use Rattle.watch.specs.Trace.{Trace}
use Rattle.watch.specs.Holding.{Translation, is_covered, names}
use Rattle.watch.specs.ComputedTraces.{is_dropped, is_dropped_by, is_live_since}
use Rattle.watch_engine.specs.declared.held.Held.{Held}
use Rattle.watch_engine.specs.declared.left.Left.{Left}
use Rattle.watch_engine.specs.declared.left.PastFence.{PastFence}
use Rattle.watch_engine.specs.declared.left.PastFence.TheVariants.{Own, Remote}
use Rattle.watch_engine.specs.declared.open.OpenClaim.{OpenClaim}
use Rattle.watch_engine.specs.declared.open.OpenFence.{OpenFence}
use Rattle.watch_engine.specs.Held.{outlives_fence, outlives_remote}
use Rattle.watch_engine.specs.Left.{EachLeft, IsLeftAt, IsLeftHeld, ended, is_full, is_of_other, is_taken_since, takes}
use Rattle.watch_engine.specs.Open.{IsOpenFence, fence_begun, is_not_fence_of, newest_fence}
use Rattle.watch_engine.specs.Follows.{AreHeld, last_live_of}
use Rattle.watch_engine.specs.Standing.{IsLeftWithin, Stands}
use Rattle.watch_engine.proofs.Leaving.{any_member, any_with, each_weaker, filter_each, filter_in, filter_out}
use Rattle.watch_engine.proofs.Lists.{from_at_most, from_within, within}
use Rattle.watch_engine.proofs.Moments.{live_since-begun}
use Rattle.watch_engine.proofs.Opening.{AreFences, fence_ends}
use Rattle.watch_engine.proofs.Records.{Keeps, Takes, hart_fences, remote_ends}
use Rattle.watch_engine.proofs.Standings.{plain_stands, taken_pushed}
use Rattle.watch_engine.specs.View.{IsLeftIn, View}

length-pushed : (drops : List PastFence) (d : PastFence) → length (drops ++ d ∷ []) ≡ length drops + 1
length-pushed [] d = omega arith
length-pushed (f ∷ drops) d = let e = length-pushed drops d in omega arith

module _ {trace : Trace} {v : View} {held : List Held} {fences : List OpenFence} {claims : List OpenClaim}
    (at : Stands trace v held fences claims) where
  abbrev Old : ℕ → Translation → ℕ → Type 0
  Old = IsLeftIn v

  abbrev Left_at : List PastFence → ℕ → Translation → ℕ → Left → Type 0
  Left_at ds hart x n l = (l.left ≡ n) × IsLeftHeld v.scheme v.words v.since ds l hart x

  pushed-out : (d : PastFence) (hart : ℕ) (x : Translation) (n : ℕ) (l : Left) → IsLeftWithin trace v.drops l → Left_at (v.drops ++ d ∷ []) hart x n l → Left_at v.drops hart x n l × (takes v.scheme l x.entry d ≡ false)
  pushed-out d hart x n l w (last, h) =
      let split : (is_taken_since v.scheme v.drops l x.entry || (takes v.scheme l x.entry d || false)) ≡ false = sym (taken_pushed v.scheme v.drops d l x.entry w.fences) ∙ h.kept in
      let p = or_parts (is_taken_since v.scheme v.drops l x.entry) _ split in
      ((last, record { by = h.by; belongs = h.belongs; leaf = h.leaf; unchanged = h.unchanged; kept = p.0 }), (or_parts (takes v.scheme l x.entry d) false p.1).0)

  pushed-in : (d : PastFence) (hart : ℕ) (x : Translation) (n : ℕ) (l : Left) → IsLeftWithin trace v.drops l → Left_at v.drops hart x n l → takes v.scheme l x.entry d ≡ false → Left_at (v.drops ++ d ∷ []) hart x n l
  pushed-in d hart x n l w (last, h) none = (
    last,
    record {
      by = h.by;
      belongs = h.belongs;
      leaf = h.leaf;
      unchanged = h.unchanged;
      kept = taken_pushed v.scheme v.drops d l x.entry w.fences ∙ or_from (is_taken_since v.scheme v.drops l x.entry) (takes v.scheme l x.entry d || false) h.kept (or_from (takes v.scheme l x.entry d) false none refl);
    },
  )

  fits : (d : PastFence) (l : Left) → IsLeftWithin trace v.drops l → l.fences ≤ length (v.drops ++ d ∷ [])
  fits d l w = let f = w.fences in let one = length-pushed v.drops d in omega arith

  module _ (by : ℕ) (rs1 rs2 : Option ℕ) where
    abbrev own_fence : Record
    own_fence = Fence by rs1 rs2

    -- a fence of all
    full-fenced : (a b : Option ℕ) (e : Entry) → is_full a b ≡ true → is_fenced v.scheme a b e ≡ true
    full-fenced None None e h = refl
    full-fenced None (Some b) e h = cc
    full-fenced (Some a) b e h = cc

    other-out : (hart : ℕ) (x : Translation) (n : ℕ) (l : Left) → Left_at v.drops hart x n l → is_of_other by l ≡ true → is_dropped v.scheme own_fence trace hart x ≡ false
    other-out hart x n l (last, h) other =
        false_from_ne_true _ (λ gone.
        let same : by ≡ hart = eqb-true _ _ (and_parts (by == hart) _ gone).0 in
        true≢false (sym (eq-eqb l.hart by (h.by ∙ sym same)) ∙ not-true (l.hart == by) other))

    own-takes : (hart : ℕ) (x : Translation) (l : Left) → l.hart ≡ hart → takes v.scheme l x.entry (Own by rs1 rs2) ≡ is_dropped v.scheme own_fence trace hart x
    own-takes hart x l same = ap (λ h. (by == h) && is_fenced v.scheme rs1 rs2 x.entry) same

    pub own_stands : (full : Bool) → is_full rs1 rs2 ≡ full → (now : List Held) → now ≡ filter (outlives_fence v.scheme by rs1 rs2) held → (kept : List Left) → kept ≡ cond full (filter (is_of_other by) v.left) v.left
        → (dropped : List PastFence) → dropped ≡ cond full v.drops (v.drops ++ Own by rs1 rs2 ∷ []) → Stands (own_fence ∷ trace) (record v { left = kept; drops = dropped; count = v.count + 1 }) now fences claims
    own_stands true is now are kept stay dropped drop_is =
        let others : List Left = filter (is_of_other by) v.left in
        let New : ℕ → Translation → ℕ → Type 0 = IsLeftAt v.scheme v.words v.since v.drops others in
        let taken : Takes v.scheme trace Old New own_fence =
        (λ hart x n l.
        let m = any_member (λ l. Left_at v.drops hart x n l × (is_of_other by l ≡ true)) v.left (filter_out (Left_at v.drops hart x n) (is_of_other by) v.left l) in
        (m.among (Left_at v.drops hart x n) m.has.0, other-out hart x n m.one m.has.0 m.has.1)) in
        let keeps : Keeps v.scheme trace Old New own_fence =
        (λ hart x n l last none.
        let m = any_member (Left_at v.drops hart x n) v.left l in
        let other : is_of_other by m.one ≡ true =
        not_from_false _ (false_from_ne_true _ (λ same.
        let mine : by ≡ hart = sym (eqb-true m.one.hart by same) ∙ m.has.1.by in
        true≢false (sym (and_from _ _ (eq-eqb by hart mine) (full-fenced rs1 rs2 x.entry is)) ∙ none))) in
        filter_in (Left_at v.drops hart x n) (is_of_other by) v.left (m.among (λ l. Left_at v.drops hart x n l × (is_of_other by l ≡ true)) (m.has, other))) in
        let within_all : EachLeft (IsLeftWithin (own_fence ∷ trace) v.drops) others =
        filter_each (IsLeftWithin trace v.drops) (IsLeftWithin (own_fence ∷ trace) v.drops) (is_of_other by) (λ l w t. record { root = w.root; within = let less = w.within in omega arith; fences = w.fences }) v.left at.leaving in
        subst (λ (ls : List Left). Stands (own_fence ∷ trace) (record v { left = ls; drops = dropped; count = v.count + 1 }) now fences claims) (sym stay)
        (subst (λ (ds : List PastFence). Stands (own_fence ∷ trace) (record v { left = others; drops = ds; count = v.count + 1 }) now fences claims) (sym drop_is)
        (plain_stands at own_fence now others v.drops fences claims refl (λ h. refl) (λ r. refl) within_all
        (subst (AreHeld v.scheme (own_fence ∷ trace) New) (sym are) (hart_fences v.scheme trace Old New by rs1 rs2 held taken keeps at.are)) at.fence at.claim))
    own_stands false is now are kept stay dropped drop_is =
        let d : PastFence = Own by rs1 rs2 in
        let New : ℕ → Translation → ℕ → Type 0 = IsLeftAt v.scheme v.words v.since (v.drops ++ d ∷ []) v.left in
        let taken : Takes v.scheme trace Old New own_fence =
        (λ hart x n l.
        let m = any_member (λ l. Left_at (v.drops ++ d ∷ []) hart x n l × IsLeftWithin trace v.drops l) v.left (any_with (Left_at (v.drops ++ d ∷ []) hart x n) (IsLeftWithin trace v.drops) v.left at.leaving l) in
        let p = pushed-out d hart x n m.one m.has.1 m.has.0 in
        (m.among (Left_at v.drops hart x n) p.0, sym (own-takes hart x m.one m.has.0.1.by) ∙ p.1)) in
        let keeps : Keeps v.scheme trace Old New own_fence =
        (λ hart x n l last none.
        let m = any_member (λ l. Left_at v.drops hart x n l × IsLeftWithin trace v.drops l) v.left (any_with (Left_at v.drops hart x n) (IsLeftWithin trace v.drops) v.left at.leaving l) in
        m.among (Left_at (v.drops ++ d ∷ []) hart x n) (pushed-in d hart x n m.one m.has.1 m.has.0 (own-takes hart x m.one m.has.0.1.by ∙ none))) in
        let within_all : EachLeft (IsLeftWithin (own_fence ∷ trace) (v.drops ++ d ∷ [])) v.left =
        each_weaker (IsLeftWithin trace v.drops) (IsLeftWithin (own_fence ∷ trace) (v.drops ++ d ∷ [])) (λ l w. record { root = w.root; within = let less = w.within in omega arith; fences = fits d l w }) v.left at.leaving in
        subst (λ (ls : List Left). Stands (own_fence ∷ trace) (record v { left = ls; drops = dropped; count = v.count + 1 }) now fences claims) (sym stay)
        (subst (λ (ds : List PastFence). Stands (own_fence ∷ trace) (record v { drops = ds; count = v.count + 1 }) now fences claims) (sym drop_is)
        (plain_stands at own_fence now v.left (v.drops ++ d ∷ []) fences claims refl (λ h. refl) (λ r. refl) within_all
        (subst (AreHeld v.scheme (own_fence ∷ trace) New) (sym are) (hart_fences v.scheme trace Old New by rs1 rs2 held taken keeps at.are)) at.fence at.claim))

  module _ (by token : ℕ) where
    abbrev end_of : Record
    end_of = RemoteEnd by token

    -- the end of a fence takes what it drops from a space that was left
    takes-dropped : (o : OpenFence) → IsOpenFence trace token (Some o) → (hart : ℕ) (x : Translation) (n : ℕ) (l : Left) → l.hart ≡ hart → l.left ≡ n → n ≤ last_live_of v.scheme trace hart x → is_dropped v.scheme end_of trace hart x ≡ true → takes v.scheme l x.entry (Remote o.fence o.begun) ≡ true
    takes-dropped o begun hart x n l same last less gone =
        let some : 0 < fence_begun token trace = subst (λ n. 0 < n) begun.1 begun.2 in
        let all : (names o.fence hart && (is_covered v.scheme o.fence x.entry && not (is_live_since v.scheme token trace hart x))) ≡ true =
        sym (ap (λ o. is_dropped_by v.scheme o token trace hart x) begun.0) ∙ gone in
        let p = and_parts (names o.fence hart) _ all in
        let q = and_parts (is_covered v.scheme o.fence x.entry) _ p.1 in
        let none : nat_le (fence_begun token trace) (last_live_of v.scheme trace hart x) ≡ false = sym (live_since-begun v.scheme token trace hart x some) ∙ not-true _ q.1 in
        let is = begun.1 in
        let early : l.left < o.begun = elim (cases_lt l.left o.begun) [
          | inl less ↦ less
          | inr not_less ↦ absurd (true≢false (sym (from_at_most (fence_begun token trace) (last_live_of v.scheme trace hart x) (omega arith)) ∙ none))
        ] in
        and_from _ _ (ap (names o.fence) same ∙ p.0) (and_from _ _ q.0 (from_within l.left o.begun early))

    dropped-takes : (o : OpenFence) → IsOpenFence trace token (Some o) → (hart : ℕ) (x : Translation) (n : ℕ) (l : Left) → l.hart ≡ hart → l.left ≡ n → last_live_of v.scheme trace hart x ≤ n → takes v.scheme l x.entry (Remote o.fence o.begun) ≡ true → is_dropped v.scheme end_of trace hart x ≡ true
    dropped-takes o begun hart x n l same last less taken =
        let some : 0 < fence_begun token trace = subst (λ n. 0 < n) begun.1 begun.2 in
        let p = and_parts (names o.fence l.hart) _ taken in
        let q = and_parts (is_covered v.scheme o.fence x.entry) (nat_lt l.left o.begun) p.1 in
        let early = within l.left o.begun q.1 in
        let is = begun.1 in
        let none : nat_le (fence_begun token trace) (last_live_of v.scheme trace hart x) ≡ false = lt-leb (fence_begun token trace) (last_live_of v.scheme trace hart x) (omega arith) in
        let dead : is_live_since v.scheme token trace hart x ≡ false = live_since-begun v.scheme token trace hart x some ∙ none in
        ap (λ o. is_dropped_by v.scheme o token trace hart x) begun.0 ∙ and_from _ _ (sym (ap (names o.fence) same) ∙ p.0) (and_from _ _ q.0 (ap not dead))

    remote-held : (found : Option OpenFence) → IsOpenFence trace token found → AreHeld v.scheme (end_of ∷ trace) (IsLeftAt v.scheme v.words v.since (ended found v.drops) v.left) (filter (outlives_remote v.scheme found) held)
    remote-held None begun =
        let none : (hart : ℕ) (x : Translation) → is_dropped v.scheme end_of trace hart x ≡ false = λ hart x. ap (λ o. is_dropped_by v.scheme o token trace hart x) begun in
        remote_ends v.scheme trace Old Old by token None held begun (λ hart x n l. (l, none hart x)) (λ hart x n l last stays. l) at.are
    remote-held (Some o) begun =
        let d : PastFence = Remote o.fence o.begun in
        remote_ends v.scheme trace Old (IsLeftAt v.scheme v.words v.since (v.drops ++ d ∷ []) v.left) by token (Some o) held begun
        (λ hart x n l.
        let m = any_member (λ l. Left_at (v.drops ++ d ∷ []) hart x n l × IsLeftWithin trace v.drops l) v.left (any_with (Left_at (v.drops ++ d ∷ []) hart x n) (IsLeftWithin trace v.drops) v.left at.leaving l) in
        let p = pushed-out d hart x n m.one m.has.1 m.has.0 in
        let old = m.among (Left_at v.drops hart x n) p.0 in
        (old, false_from_ne_true _ (λ gone. true≢false (sym (takes-dropped o begun hart x n m.one m.has.0.1.by m.has.0.0 (at.are.left hart x n old).last gone) ∙ p.1))))
        (λ hart x n l last stays.
        let m = any_member (λ l. Left_at v.drops hart x n l × IsLeftWithin trace v.drops l) v.left (any_with (Left_at v.drops hart x n) (IsLeftWithin trace v.drops) v.left at.leaving l) in
        m.among (Left_at (v.drops ++ d ∷ []) hart x n)
        (pushed-in d hart x n m.one m.has.1 m.has.0 (false_from_ne_true _ (λ taken. true≢false (sym (dropped-takes o begun hart x n m.one m.has.0.1.by m.has.0.0 last taken) ∙ stays)))))
        at.are

    ended-within : (found : Option OpenFence) → EachLeft (IsLeftWithin (end_of ∷ trace) (ended found v.drops)) v.left
    ended-within None = each_weaker (IsLeftWithin trace v.drops) (IsLeftWithin (end_of ∷ trace) v.drops) (λ l w. record { root = w.root; within = let less = w.within in omega arith; fences = w.fences }) v.left at.leaving
    ended-within (Some o) =
        each_weaker (IsLeftWithin trace v.drops) (IsLeftWithin (end_of ∷ trace) (v.drops ++ Remote o.fence o.begun ∷ [])) (λ l w. record { root = w.root; within = let less = w.within in omega arith; fences = fits (Remote o.fence o.begun) l w }) v.left at.leaving

    pub remote_end_stands : (now : List Held) (dropped : List PastFence) (begun : List OpenFence) → now ≡ filter (outlives_remote v.scheme (newest_fence token None fences)) held → dropped ≡ ended (newest_fence token None fences) v.drops → begun ≡ filter (is_not_fence_of token) fences
        → Stands (end_of ∷ trace) (record v { drops = dropped; count = v.count + 1 }) now begun claims
    remote_end_stands now dropped begun are drop_is still_open =
        let found : Option OpenFence = newest_fence token None fences in
        subst (λ (ds : List PastFence). Stands (end_of ∷ trace) (record v { drops = ds; count = v.count + 1 }) now begun claims) (sym drop_is)
        (plain_stands at end_of now v.left (ended found v.drops) begun claims refl (λ h. refl) (λ r. refl) (ended-within found)
        (subst (AreHeld v.scheme (end_of ∷ trace) (IsLeftAt v.scheme v.words v.since (ended found v.drops) v.left)) (sym are) (remote-held found (at.fence token)))
        (subst (AreFences (end_of ∷ trace)) (sym still_open) (fence_ends trace fences by token at.fence)) at.claim)
