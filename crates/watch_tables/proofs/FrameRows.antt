-- Frames in a row, and the place of each PPN.
use Rattle.std.proofs.Common.{ℕ, ◌≡◌, ◌+◌, ◌-◌, ◌<◌, Option, Some, None, List, [], ◌∷◌, ◌++◌, length, slice_index_or, zero, suc, Bool, true, false, cond, ap, sym, ◌∙◌, refl, inl, inr, arith}
use Rattle.std.specs.Prelude.{◌==◌, slice_get, Result, Ok, Err, OnOk}
use Rattle.std.specs.Ordering.{is_eq, nat_cmp}
use Rattle.std.specs.Result.{is_err}
use Rattle.std.specs.Option.{option_map}
use Rattle.std.proofs.lemmas.Bool.{cases_eq, cases_lt, eq-eqb, eqb-true, cond-true, cond-false, false_from_ne_true}
use Rattle.std.proofs.lemmas.Option.{slice_get-get_or, slice_get_within}
use Rattle.watch_tables.specs.declared.frame.Frame.{Frame}
use Rattle.watch_tables.specs.declared.frame_table.PlacedFrame.{PlacedFrame}
use Rattle.watch_tables.specs.FrameRow.{IsInStep, frame_at, ppn_at}
use Rattle.watch_tables.proofs.PointerPairs.{is-same}

abbrev pub ppn_of : Option PlacedFrame → Option ℕ
ppn_of = option_map (λ (f : PlacedFrame). f.ppn)

abbrev words_of : Option PlacedFrame → Option Frame
words_of = option_map (λ (f : PlacedFrame). f.frame)

pub same-some : (a b : ℕ) → Some a ≡ Some b → a ≡ b
same-some a b is = cc

never-some : (a : ℕ) → None ≡ Some a → ⊥
never-some a is = cc

no-frame-is : (frame : Frame) → None ≡ Some frame → ⊥
no-frame-is frame is = cc

some-frame : (o : Option PlacedFrame) (ppn : ℕ) → ppn_of o ≡ Some ppn → (f : PlacedFrame) × (o ≡ Some f) × (f.ppn ≡ ppn)
some-frame None ppn is = absurd (never-some ppn is)
some-frame (Some f) ppn is = (f, refl, same-some f.ppn ppn is)

-- a place with a PPN is in the row
pub in-row : (row : List PlacedFrame) (place ppn : ℕ) → ppn_at row place ≡ Some ppn → place < length row
in-row row place ppn is =
    let has = some-frame (slice_get row place) ppn is in
    slice_get_within row place has.0 has.1

module _ (at : ℕ → Option ℕ) (row : List PlacedFrame) (step : IsInStep at row) where
  pub place-in-row : (ppn place : ℕ) → at ppn ≡ Some place → place < length row
  place-in-row ppn place is = in-row row place ppn ((step ppn place).0 is)

  pub place-is : (place : ℕ) (here : PlacedFrame) → slice_get row place ≡ Some here → at here.ppn ≡ Some place
  place-is place here is = (step here.ppn place).1 (ap ppn_of is)

  pub frame-is : (ppn place : ℕ) (here : PlacedFrame) → at ppn ≡ Some place → slice_get row place ≡ Some here → frame_at row (at ppn) ≡ Some here.frame
  frame-is ppn place here there is = ap (frame_at row) there ∙ ap words_of is

  -- two PPNs have two places
  apart : (a b p q : ℕ) → at a ≡ Some p → at b ≡ Some q → (a ≡ b → ⊥) → p ≡ q → ⊥
  apart a b p q of_a of_b differ same =
      differ (same-some a b (sym ((step a p).0 of_a) ∙ ap (ppn_at row) same ∙ (step b q).0 of_b))

  -- one PPN has one place
  one-place : (a b p q : ℕ) → at a ≡ Some p → at b ≡ Some q → a ≡ b → p ≡ q
  one-place a b p q of_a of_b same = same-some p q (sym of_a ∙ ap at same ∙ of_b)

  -- a PPN without a frame has no place
  pub no-place : (ppn : ℕ) (o : Option ℕ) → at ppn ≡ o → frame_at row o ≡ None → at ppn ≡ None
  no-place ppn None is none = is
  no-place ppn (Some place) is none =
      let has = some-frame (slice_get row place) ppn ((step ppn place).0 is) in
      absurd (no-frame-is has.0.frame (sym none ∙ ap words_of has.1))

-- frames whose PPNs stay
pub step-on : (at : ℕ → Option ℕ) (row new : List PlacedFrame) → IsInStep at row → ((p : ℕ) → ppn_at new p ≡ ppn_at row p) → IsInStep at new
step-on at row new step same k p = (
  (λ is. same p ∙ (step k p).0 is),
  (λ seat. (step k p).1 (sym (same p) ∙ seat)),
)

-- what a map has with another place for a PPN
module _ (old new : ℕ → Option ℕ) (ppn : ℕ) (to : Option ℕ) (updates : (k : ℕ) → new k ≡ cond (is_eq (nat_cmp ppn k)) to (old k)) where
  pub has-there : new ppn ≡ to
  has-there = updates ppn ∙ cond-true (is_eq (nat_cmp ppn ppn)) to _ (is-same ppn ppn ∙ eq-eqb ppn ppn refl)

  pub has-elsewhere : (k : ℕ) → (k ≡ ppn → ⊥) → new k ≡ old k
  has-elsewhere k out = updates k ∙ cond-false (is_eq (nat_cmp ppn k)) to _ (is-same ppn k ∙ false_from_ne_true (ppn == k) (λ h. out (sym (eqb-true ppn k h))))

-- the same, of a map that was told by another test
module _ (old new : ℕ → Option ℕ) (ppn : ℕ) (to : Option ℕ) (updates : (k : ℕ) → new k ≡ cond (k == ppn) to (old k)) where
  pub moved-there : new ppn ≡ to
  moved-there = updates ppn ∙ cond-true (ppn == ppn) to _ (eq-eqb ppn ppn refl)

  pub moved-elsewhere : (k : ℕ) → (k ≡ ppn → ⊥) → new k ≡ old k
  moved-elsewhere k out = updates k ∙ cond-false (k == ppn) to _ (false_from_ne_true (k == ppn) (λ h. out (eqb-true k ppn h)))

-- a row with one more frame
pub longer-by-one : (row : List PlacedFrame) (more : PlacedFrame) → length (row ++ more ∷ []) ≡ length row + 1
longer-by-one [] more = refl
longer-by-one (f ∷ row) more = let rest = longer-by-one row more in omega arith

pub last-of : (row : List PlacedFrame) (more : PlacedFrame) → slice_get (row ++ more ∷ []) (length row) ≡ Some more
last-of [] more = refl
last-of (f ∷ row) more = last-of row more

pub before-last : (row : List PlacedFrame) (more : PlacedFrame) (p : ℕ) → p < length row → slice_get (row ++ more ∷ []) p ≡ slice_get row p
before-last [] more p low = absurd (omega arith)
before-last (f ∷ row) more zero low = refl
before-last (f ∷ row) more (suc p) low = before-last row more p (omega arith)

-- a row with one frame less
pub rest-of : (row new : List PlacedFrame) (place count : ℕ) (d : PlacedFrame) → count ≡ length row → length new + 1 ≡ length row → ((k : ℕ) (d : PlacedFrame) → (k ≡ place → ⊥) → k + 1 < count → slice_index_or new k d ≡ slice_index_or row k d)
    → (p : ℕ) → (p ≡ place → ⊥) → p < length new → slice_get new p ≡ slice_get row p
rest-of row new place count d full shorter same p differ low = slice_get-get_or new p d low ∙ ap Some (same p d differ (omega arith)) ∙ sym (slice_get-get_or row p d (omega arith))

pub comes-from : (row new : List PlacedFrame) (place count : ℕ) (moved : PlacedFrame) → count ≡ length row → length new + 1 ≡ length row → place < length new → ((d : PlacedFrame) → place + 1 < count → slice_index_or new place d ≡ slice_index_or row (count - 1) d)
    → slice_get new place ≡ Some moved → slice_get row (length new) ≡ Some moved
comes-from row new place count moved full shorter low same is =
    let end : count - 1 ≡ length new = omega arith in
    slice_get-get_or row (length new) moved (omega arith) ∙ ap (λ k. Some (slice_index_or row k moved)) (sym end) ∙ ap Some (sym (same moved (omega arith))) ∙ sym (slice_get-get_or new place moved low) ∙ is

-- what a call has done that did not fail
pub if-fine : {A E P : Type 0} (r : Result A E) (failed : Bool) → failed ≡ is_err r → failed ≡ false → OnOk r P → P
if-fine (Ok x) failed is fine done = done
if-fine (Err e) failed is fine done = absurd (let never : true ≡ false = sym is ∙ fine in cc)

-- a frame comes to the end of the row
module _ (at after : ℕ → Option ℕ) (row new : List PlacedFrame) (step : IsInStep at row) (more : PlacedFrame) (none : at more.ppn ≡ None) (pushed : new ≡ row ++ more ∷ [])
    (here : after more.ppn ≡ Some (length row)) (others : (k : ℕ) → (k ≡ more.ppn → ⊥) → after k ≡ at k) where
  longer : length new ≡ length row + 1
  longer = ap length pushed ∙ longer-by-one row more

  last : slice_get new (length row) ≡ Some more
  last = ap (λ r. slice_get r (length row)) pushed ∙ last-of row more

  rest : (p : ℕ) → p < length row → slice_get new p ≡ slice_get row p
  rest p low = ap (λ r. slice_get r p) pushed ∙ before-last row more p low

  pub step-with : IsInStep after new
  step-with k p = (
    (λ is. elim (cases_eq k more.ppn) [
      | inl same ↦
          let end : length row ≡ p = same-some (length row) p (sym here ∙ ap after (sym same) ∙ is) in
          ap (ppn_at new) (sym end) ∙ ap ppn_of last ∙ ap Some (sym same)
      | inr other ↦
          let seat = (step k p).0 (sym (others k other) ∙ is) in
          ap ppn_of (rest p (in-row row p k seat)) ∙ seat
    ]),
    (λ seat. elim (cases_eq p (length row)) [
      | inl end ↦
          let same : more.ppn ≡ k = same-some more.ppn k (sym (ap (ppn_at new) end ∙ ap ppn_of last) ∙ seat) in
          ap after (sym same) ∙ here ∙ ap Some (sym end)
      | inr before ↦
          let bound = in-row new p k seat in
          let more_by_one = longer in
          let is = (step k p).1 (sym (ap ppn_of (rest p (omega arith))) ∙ seat) in
          others k (λ same. never-some p (sym none ∙ ap at (sym same) ∙ is)) ∙ is
    ]),
  )

  kept-at : (k : ℕ) (o : Option ℕ) → at k ≡ o → frame_at new o ≡ frame_at row o
  kept-at k None is = refl
  kept-at k (Some p) is = ap words_of (rest p (place-in-row at row step k p is))

  pub frames-with : (k : ℕ) → frame_at new (after k) ≡ cond (k == more.ppn) (Some more.frame) (frame_at row (at k))
  frames-with k =
      elim (cases_eq k more.ppn) [
        | inl same ↦ ap (frame_at new) (ap after same ∙ here) ∙ ap words_of last ∙ sym (cond-true (k == more.ppn) _ _ (eq-eqb k more.ppn same))
        | inr other ↦
            ap (frame_at new) (others k other) ∙ kept-at k (at k) refl ∙ sym (cond-false (k == more.ppn) _ _ (false_from_ne_true (k == more.ppn) (λ h. other (eqb-true k more.ppn h))))
      ]

-- a frame is taken out of the row
module _ (at mid : ℕ → Option ℕ) (row new : List PlacedFrame) (step : IsInStep at row) (ppn place : ℕ) (there : at ppn ≡ Some place) (shorter : length new + 1 ≡ length row)
    (rest : (p : ℕ) → (p ≡ place → ⊥) → p < length new → slice_get new p ≡ slice_get row p) (gone : mid ppn ≡ None) (others : (k : ℕ) → (k ≡ ppn → ⊥) → mid k ≡ at k) where
  low : place < length row
  low = place-in-row at row step ppn place there

  -- it was the last one
  module _ (end : place ≡ length new) where
    stays : (k p : ℕ) → (k ≡ ppn → ⊥) → at k ≡ Some p → slice_get new p ≡ slice_get row p
    stays k p other is =
        let bound = place-in-row at row step k p is in
        let differ = apart at row step k ppn p place is there other in
        elim (cases_lt p (length new)) [
          | inl before ↦ rest p differ before
          | inr after ↦ absurd (differ (omega arith))
        ]

    pub step-shorter : IsInStep mid new
    step-shorter k p = (
      (λ is. elim (cases_eq k ppn) [
        | inl same ↦ absurd (never-some p (sym gone ∙ ap mid (sym same) ∙ is))
        | inr other ↦ let before : at k ≡ Some p = sym (others k other) ∙ is in ap ppn_of (stays k p other before) ∙ (step k p).0 before
      ]),
      (λ seat.
          let bound = in-row new p k seat in
          let is = (step k p).1 (sym (ap ppn_of (rest p (λ h. omega arith) bound)) ∙ seat) in
          others k (λ same. let one = one-place at row step k ppn p place is there same in omega arith) ∙ is),
    )

    kept-shorter : (k : ℕ) (o : Option ℕ) → (k ≡ ppn → ⊥) → at k ≡ o → frame_at new o ≡ frame_at row o
    kept-shorter k None other is = refl
    kept-shorter k (Some p) other is = ap words_of (stays k p other is)

    pub frames-shorter : (k : ℕ) → frame_at new (mid k) ≡ cond (k == ppn) None (frame_at row (at k))
    frames-shorter k =
        elim (cases_eq k ppn) [
          | inl same ↦ ap (frame_at new) (ap mid same ∙ gone) ∙ sym (cond-true (k == ppn) None _ (eq-eqb k ppn same))
          | inr other ↦
              ap (frame_at new) (others k other) ∙ kept-shorter k (at k) other refl ∙ sym (cond-false (k == ppn) None _ (false_from_ne_true (k == ppn) (λ h. other (eqb-true k ppn h))))
        ]

  -- the last one comes to its place
  module _ (inside : place < length new) (moved : PlacedFrame) (was : slice_get row (length new) ≡ Some moved) (comes : slice_get new place ≡ Some moved) where
    at-moved : at moved.ppn ≡ Some (length new)
    at-moved = place-is at row step (length new) moved was

    moved-other : moved.ppn ≡ ppn → ⊥
    moved-other same = let one = one-place at row step moved.ppn ppn (length new) place at-moved there same in omega arith

    pub moved-has-place : mid moved.ppn ≡ Some (length new)
    moved-has-place = others moved.ppn moved-other ∙ at-moved

    module _ (after : ℕ → Option ℕ) (here : after moved.ppn ≡ Some place) (elsewhere : (k : ℕ) → (k ≡ moved.ppn → ⊥) → after k ≡ mid k) where
      remains : (k p : ℕ) → (k ≡ ppn → ⊥) → (k ≡ moved.ppn → ⊥) → at k ≡ Some p → slice_get new p ≡ slice_get row p
      remains k p other still is =
          let bound = place-in-row at row step k p is in
          let differ = apart at row step k moved.ppn p (length new) is at-moved still in
          elim (cases_lt p (length new)) [
            | inl before ↦ rest p (apart at row step k ppn p place is there other) before
            | inr end ↦ absurd (differ (omega arith))
          ]

      pub step-moved : IsInStep after new
      step-moved k p = (
        (λ is. elim (cases_eq k moved.ppn) [
          | inl same ↦
              let one : place ≡ p = same-some place p (sym here ∙ ap after (sym same) ∙ is) in
              ap (ppn_at new) (sym one) ∙ ap ppn_of comes ∙ ap Some (sym same)
          | inr still ↦
              elim (cases_eq k ppn) [
                | inl same ↦ absurd (never-some p (sym (elsewhere k still ∙ ap mid same ∙ gone) ∙ is))
                | inr other ↦
                    let before : at k ≡ Some p = sym (elsewhere k still ∙ others k other) ∙ is in
                    ap ppn_of (remains k p other still before) ∙ (step k p).0 before
              ]
        ]),
        (λ seat. elim (cases_eq p place) [
          | inl one ↦
              let same : moved.ppn ≡ k = same-some moved.ppn k (sym (ap (ppn_at new) one ∙ ap ppn_of comes) ∙ seat) in
              ap after (sym same) ∙ here ∙ ap Some (sym one)
          | inr differ ↦
              let bound = in-row new p k seat in
              let is = (step k p).1 (sym (ap ppn_of (rest p differ bound)) ∙ seat) in
              elsewhere k (λ same. let one = one-place at row step k moved.ppn p (length new) is at-moved same in omega arith)
              ∙ others k (λ same. differ (one-place at row step k ppn p place is there same)) ∙ is
        ]),
      )

      kept-moved : (k : ℕ) (o : Option ℕ) → (k ≡ ppn → ⊥) → (k ≡ moved.ppn → ⊥) → at k ≡ o → frame_at new o ≡ frame_at row o
      kept-moved k None other still is = refl
      kept-moved k (Some p) other still is = ap words_of (remains k p other still is)

      without : (k : ℕ) → (k ≡ ppn → ⊥) → frame_at row (at k) ≡ cond (k == ppn) None (frame_at row (at k))
      without k other = sym (cond-false (k == ppn) None _ (false_from_ne_true (k == ppn) (λ h. other (eqb-true k ppn h))))

      pub frames-moved : (k : ℕ) → frame_at new (after k) ≡ cond (k == ppn) None (frame_at row (at k))
      frames-moved k =
          elim (cases_eq k moved.ppn) [
            | inl same ↦
                ap (frame_at new) (ap after same ∙ here) ∙ ap words_of comes ∙ sym (ap (frame_at row) (ap at same ∙ at-moved) ∙ ap words_of was)
                ∙ without k (λ h. moved-other (sym same ∙ h))
            | inr still ↦
                elim (cases_eq k ppn) [
                  | inl same ↦ ap (frame_at new) (elsewhere k still ∙ ap mid same ∙ gone) ∙ sym (cond-true (k == ppn) None _ (eq-eqb k ppn same))
                  | inr other ↦ ap (frame_at new) (elsewhere k still ∙ others k other) ∙ kept-moved k (at k) other still refl ∙ without k other
                ]
          ]
