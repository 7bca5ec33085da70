-- The roots of address spaces, and what their tables have now.
use Rattle.std.proofs.Common.{◌≡◌, ℕ, zero, suc, Bool, true, false, Option, Some, None, List, [], ◌∷◌, filter, get_or, IsTrue, ap, sym, ◌∙◌, subst, refl, inl, inr}
use Rattle.std.specs.Prelude.{◌==◌, ◌&&◌, ◌||◌, ◌↔◌, cond, not}
use Rattle.std.specs.List.{list_all, list_any}
use Rattle.std.proofs.lemmas.Bool.{and_parts, and_from, cases_eq, eq-eqb, eqb-true, ne_eqb, or_cases, or_left, or_right, not-true, not_from_false}
use Rattle.pte.specs.declared.scheme.Scheme.{Scheme}
use Rattle.walk.proofs.Unique.{same_bool}
use Rattle.watch.specs.declared.trace.Frames.{Frames}
use Rattle.watch.specs.declared.trace.Record.TheVariants.{Satp, GiveOut}
use Rattle.watch.specs.declared.trace.Space.{Space}
use Rattle.watch.specs.Trace.{Trace, has_root, is_among, is_root, is_used, satp_of, words_of}
use Rattle.watch.specs.Holding.{Translation}
use Rattle.watch.specs.Staleness.{IsCurrent, IsMapped, IsRootFor}
use Rattle.watch.specs.Computed.{is_mapped}
use Rattle.watch.specs.ComputedTraces.{is_current}
use Rattle.watch.proofs.Computed.{mapped_iff}
use Rattle.watch.proofs.ComputedTraces.{current_iff}
use Rattle.watch.proofs.Roots.{used_iff}
use Rattle.watch_engine.specs.Held.{AreEntered, is_current_by, is_root_in, stays, without_frames}
use Rattle.watch_engine.specs.Standing.{AreRoots}

any-at : (test : ℕ → Bool) (roots : List ℕ) → list_any test roots ≡ true → (r : ℕ) × (test r ≡ true) × (list_any (λ q. q == r) roots ≡ true)
any-at test [] h = cc
any-at test (q ∷ roots) h =
    elim (or_cases (test q) (list_any test roots) h) [
      | inl now ↦ (q, now, or_left (q == q) (list_any (λ p. p == q) roots) (eq-eqb q q refl))
      | inr more ↦ let at = any-at test roots more in (at.0, at.1, or_right (q == at.0) (list_any (λ p. p == at.0) roots) at.2)
    ]

at-any : (test : ℕ → Bool) (r : ℕ) (roots : List ℕ) → test r ≡ true → list_any (λ q. q == r) roots ≡ true → list_any test roots ≡ true
at-any test r [] passes h = cc
at-any test r (q ∷ roots) passes h =
    elim (or_cases (q == r) (list_any (λ p. p == r) roots) h) [
      | inl same ↦ or_left (test q) (list_any test roots) (ap test (eqb-true q r same) ∙ passes)
      | inr more ↦ or_right (test q) (list_any test roots) (at-any test r roots passes more)
    ]

-- what the roots give is current
module _ (scheme : Scheme) (trace : Trace) (roots : List ℕ) (are : AreRoots trace roots) (x : Translation) where
  abbrev under : ℕ → Translation
  under root = record x { root = root }

  abbrev test : Translation → Bool
  test = is_mapped scheme (words_of trace)

  by-current : IsTrue (is_current_by test roots x) → IsCurrent scheme trace x
  by-current h =
      elim (or_cases (not x.entry.global && test x) _ h) [
        | inl own ↦
            let parts = and_parts (not x.entry.global) (test x) own in
            record { root = x.root; counts = inl (not-true x.entry.global parts.0, refl); mapped = (mapped_iff scheme (words_of trace) x).0 parts.1 }
        | inr shared ↦
            let parts = and_parts x.entry.global _ shared in
            let at = any-at (λ r. test (under r)) roots parts.1 in
            record { root = at.0; counts = inr (parts.0, sym (are at.0) ∙ at.2); mapped = (mapped_iff scheme (words_of trace) (under at.0)).0 at.1 }
      ]

  counted : (root : ℕ) → IsRootFor trace x root → IsMapped scheme (words_of trace) (under root) → IsTrue (is_current_by test roots x)
  counted root (inl own) mapped =
      or_left (not x.entry.global && test x) _ (and_from _ _ (not_from_false x.entry.global own.0) ((mapped_iff scheme (words_of trace) x).1 (subst (λ r. IsMapped scheme (words_of trace) (under r)) own.1 mapped)))
  counted root (inr g) mapped =
      or_right (not x.entry.global && test x) _ (and_from x.entry.global _ g.0 (at-any (λ r. test (under r)) root roots ((mapped_iff scheme (words_of trace) (under root)).1 mapped) (are root ∙ g.1)))

  pub roots_current : is_current_by test roots x ≡ is_current scheme trace x
  roots_current =
      let iff = current_iff scheme trace x in
      same_bool (is_current_by test roots x) (is_current scheme trace x) ((λ h. iff.1 (by-current h)), (λ h. let c = iff.0 h in counted c.root c.counts c.mapped))

-- where the mapped are the same under each root that counts, the current are
moved-counts : (before after : Trace) → ((root : ℕ) → is_root before root ≡ is_root after root) → (x : Translation) (root : ℕ) → IsRootFor before x root → IsRootFor after x root
moved-counts before after roots x root (inl own) = inl own
moved-counts before after roots x root (inr g) = inr (g.0, sym (roots root) ∙ g.1)

pub current_same : (scheme : Scheme) (before after : Trace) (x : Translation) → ((root : ℕ) → is_root before root ≡ is_root after root)
    → ((root : ℕ) → IsRootFor before x root → IsMapped scheme (words_of before) (record x { root = root }) ↔ IsMapped scheme (words_of after) (record x { root = root }))
    → is_current scheme after x ≡ is_current scheme before x
current_same scheme before after x roots mapped =
    same_bool (is_current scheme after x) (is_current scheme before x) (
      (λ h.
          let c = (current_iff scheme after x).0 h in
          let counts = moved-counts after before (λ r. sym (roots r)) x c.root c.counts in
          (current_iff scheme before x).1 (record { root = c.root; counts = counts; mapped = (mapped c.root counts).1 c.mapped })),
      (λ h.
          let c = (current_iff scheme before x).0 h in
          (current_iff scheme after x).1 (record { root = c.root; counts = moved-counts before after roots x c.root c.counts; mapped = (mapped c.root c.counts).0 c.mapped })),
    )

-- a hart goes to a space
pub roots_entered : (trace : Trace) (by : ℕ) (space : Option Space) (old new : List ℕ) → AreEntered space old new → AreRoots trace old → AreRoots (Satp by space ∷ trace) new
roots_entered trace by space old new entered are root = entered root ∙ ap (λ b. has_root space root || b) (are root)

-- frames are given out
none-and : (b : Bool) → false ≡ (b && false)
none-and true = refl
none-and false = refl

kept-at : (p : ℕ → Bool) (root q : ℕ) (rest kept : Bool) (b : Bool) → p q ≡ b → kept ≡ (p root && rest) → cond b ((q == root) || kept) kept ≡ (p root && ((q == root) || rest))
kept-at p root q rest kept true is more =
    elim (cases_eq q root) [
      | inl same ↦
          let one : (q == root) ≡ true = eq-eqb q root same in
          let there : p root ≡ true = ap p (sym same) ∙ is in
          ap (λ b. b || kept) one ∙ sym (ap (λ b. b && ((q == root) || rest)) there ∙ ap (λ b. b || rest) one)
      | inr other ↦
          let none : (q == root) ≡ false = ne_eqb q root other in
          ap (λ b. b || kept) none ∙ (more ∙ sym (ap (λ b. p root && (b || rest)) none))
    ]
kept-at p root q rest kept false is more =
    elim (cases_eq q root) [
      | inl same ↦
          let gone : p root ≡ false = ap p (sym same) ∙ is in
          more ∙ (ap (λ b. b && rest) gone ∙ sym (ap (λ b. b && ((q == root) || rest)) gone))
      | inr other ↦ more ∙ sym (ap (λ b. p root && (b || rest)) (ne_eqb q root other))
    ]

any-cond : (b : Bool) (p : ℕ → Bool) (q : ℕ) (kept : List ℕ) → list_any p (cond b (q ∷ kept) kept) ≡ cond b (p q || list_any p kept) (list_any p kept)
any-cond true p q kept = refl
any-cond false p q kept = refl

kept-any : (p : ℕ → Bool) (root : ℕ) (roots : List ℕ) → list_any (λ r. r == root) (filter p roots) ≡ (p root && list_any (λ r. r == root) roots)
kept-any p root [] = none-and (p root)
kept-any p root (q ∷ roots) =
    any-cond (p q) (λ r. r == root) q (filter p roots) ∙ kept-at p root q (list_any (λ r. r == root) roots) (list_any (λ r. r == root) (filter p roots)) (p q) refl (kept-any p root roots)

-- the roots in satps
satp-at : (satps : List (Option Space)) (frame : ℕ) → is_root_in satps frame ≡ true → (hart : ℕ) × (space : Space) × (get_or satps hart None ≡ Some space) × (space.root ≡ frame)
satp-at [] frame h = cc
satp-at (None ∷ satps) frame h = let at = satp-at satps frame h in (suc at.0, at.1, at.2, at.3)
satp-at (Some space ∷ satps) frame h =
    elim (or_cases (space.root == frame) (is_root_in satps frame) h) [
      | inl here ↦ (0, space, refl, eqb-true _ _ here)
      | inr there ↦ let at = satp-at satps frame there in (suc at.0, at.1, at.2, at.3)
    ]

at-satp : (satps : List (Option Space)) (frame hart : ℕ) (space : Space) → get_or satps hart None ≡ Some space → space.root ≡ frame → is_root_in satps frame ≡ true
at-satp [] frame hart space at is = cc
at-satp (s ∷ satps) frame zero space at is = or_left _ _ (ap (λ o. has_root o frame) at ∙ eq-eqb _ _ is)
at-satp (s ∷ satps) frame (suc hart) space at is = or_right (has_root s frame) _ (at-satp satps frame hart space at is)

pub used_in : (trace : Trace) (satps : List (Option Space)) → ((hart : ℕ) → get_or satps hart None ≡ satp_of trace hart) → (frame : ℕ) → is_root_in satps frame ≡ is_used trace frame
used_in trace satps are frame =
    same_bool (is_root_in satps frame) (is_used trace frame) (
      (λ h. let at = satp-at satps frame h in (used_iff trace frame).1 (at.0, at.1, sym (are at.0) ∙ at.2, at.3)),
      (λ h. let at = (used_iff trace frame).0 h in at-satp satps frame at.0 at.1 (are at.0 ∙ at.2) at.3),
    )

pub roots_left : (trace : Trace) (by : ℕ) (frames : Frames) (satps : List (Option Space)) (roots : List ℕ) → ((hart : ℕ) → get_or satps hart None ≡ satp_of trace hart) → AreRoots trace roots → AreRoots (GiveOut by frames ∷ trace) (without_frames frames satps roots)
roots_left trace by frames satps roots satp are root =
    kept-any (stays frames satps) root roots ∙ ((λ j. (not (is_among frames root) || used_in trace satps satp root j) && are root j))

pub all_stay : (p : ℕ → Bool) (roots : List ℕ) → list_all p roots ≡ true → filter p roots ≡ roots
all_stay p [] h = refl
all_stay p (q ∷ roots) h =
    let parts = and_parts (p q) (list_all p roots) h in
    ap (λ b. cond b (q ∷ filter p roots) (filter p roots)) parts.0 ∙ ap (λ rs. q ∷ rs) (all_stay p roots parts.1)
