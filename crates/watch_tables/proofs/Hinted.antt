-- Which frames of a row have hints.
use Rattle.std.proofs.Common.{ℕ, ◌≡◌, ◌<◌, Option, None, Some, List, [], ◌∷◌, ◌++◌, length, ap, sym, ◌∙◌, subst, refl, inl, inr, arith}
use Rattle.std.specs.Prelude.{slice_get}
use Rattle.std.proofs.lemmas.Bool.{cases_eq, cases_lt}
use Rattle.watch_tables.specs.declared.frame_table.PlacedFrame.{PlacedFrame}
use Rattle.watch_tables.specs.FrameRow.{IsInStep, ppn_at}
use Rattle.watch_tables.proofs.FrameRows.{before-last, in-row, last-of, longer-by-one, ppn_of, same-some}

abbrev pub Each : (ℕ → Type 0) → List PlacedFrame → Type 0
Each has row = (place ppn : ℕ) → ppn_at row place ≡ Some ppn → has ppn

module _ (old new : ℕ → Type 0) (row after : List PlacedFrame) (each : Each old row) (kept : (k : ℕ) → old k → new k) where
  -- a frame comes to the end of the row
  pub each-with : (more : PlacedFrame) → after ≡ row ++ more ∷ [] → new more.ppn → Each new after
  each-with more pushed own place ppn is =
      let there : ppn_at (row ++ more ∷ []) place ≡ Some ppn = subst (λ (r : List PlacedFrame). ppn_at r place ≡ Some ppn) pushed is in
      let small = in-row (row ++ more ∷ []) place ppn there in
      let longer = longer-by-one row more in
      elim (cases_lt place (length row)) [
        | inl low ↦ kept ppn (each place ppn (sym (ap ppn_of (before-last row more place low)) ∙ there))
        | inr from ↦
            let last : place ≡ length row = omega arith in
            let same = same-some more.ppn ppn (sym (ap ppn_of (last-of row more)) ∙ subst (λ (p : ℕ). ppn_at (row ++ more ∷ []) p ≡ Some ppn) last there) in
            subst new same own
      ]

  module _ (place : ℕ) (rest : (p : ℕ) → (p ≡ place → ⊥) → p < length after → slice_get after p ≡ slice_get row p) where
    -- the last frame is gone
    pub each-shorter : place ≡ length after → Each new after
    each-shorter last p ppn is =
        let low = in-row after p ppn is in
        kept ppn (each p ppn (sym (ap ppn_of (rest p (λ same. absurd (omega arith)) low)) ∙ is))

    -- the last frame is moved to the place of one that is gone
    pub each-moved : (moved : PlacedFrame) → slice_get after place ≡ Some moved → new moved.ppn → Each new after
    each-moved moved here own p ppn is =
        elim (cases_eq p place) [
          | inl same ↦ subst new (same-some moved.ppn ppn (sym (ap ppn_of here) ∙ subst (λ (q : ℕ). ppn_at after q ≡ Some ppn) same is)) own
          | inr other ↦ kept ppn (each p ppn (sym (ap ppn_of (rest p other (in-row after p ppn is))) ∙ is))
        ]

-- a PPN without a hint has no frame
pub no-frame : (at : ℕ → Option ℕ) (row : List PlacedFrame) → IsInStep at row → (has : ℕ → Type 0) → Each has row → (ppn : ℕ) → (has ppn → ⊥) → (o : Option ℕ) → at ppn ≡ o → None ≡ o
no-frame at row step has each ppn lacks None is = refl
no-frame at row step has each ppn lacks (Some place) is = absurd (lacks (each place ppn ((step ppn place).0 is)))
