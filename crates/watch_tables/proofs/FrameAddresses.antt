-- The addresses of the words of one frame after the other.
use Rattle.std.proofs.Common.{ℕ, ◌≡◌, ◌+◌, ◌*◌, ◌/◌, ◌%◌, ◌<◌, ◌≤◌, Option, Some, None, List, [], ◌∷◌, ◌++◌, ap, sym, ◌∙◌, subst, inl, inr, ◌⊎◌, arith, IsSome, is_some}
use Rattle.std.specs.Prelude.{◌↔◌}
use Rattle.std.specs.List.{Contains}
use Rattle.std.proofs.lemmas.Bool.{cases_lt}
use Rattle.std.proofs.lemmas.List.Elements.{Contains-append_left, Contains-push, Contains-push_cases}
use Rattle.watch_tables.specs.declared.frame.Frame.{Frame}
use Rattle.watch_tables.specs.declared.frame_table.FrameTable.{FrameTable}
use Rattle.watch_tables.specs.declared.frame.StoredWord.{StoredWord}
use Rattle.watch_tables.specs.InFrame.{IsOfFrame, word_in, word_of}
use Rattle.watch_tables.specs.FrameTables.{frame_of, in_frames}
use Rattle.watch_tables.proofs.Filled.{Each, Sound}

-- a word by its number, in its frame
pub in-frame : (frames : FrameTable) (ppn i : ℕ) (o : Option Frame) → i < 512 → frame_of frames ppn ≡ o → in_frames frames (ppn * 512 + i) ≡ word_of o i
in-frame frames ppn i o small is =
    let frame : (ppn * 512 + i) / 512 ≡ ppn = omega arith in
    let place : (ppn * 512 + i) % 512 ≡ i = omega arith in
    ap (λ k. word_of (frame_of frames k) ((ppn * 512 + i) % 512)) frame ∙ ap (λ k. word_of (frame_of frames ppn) k) place ∙ ap (λ f. word_of f i) is

-- the words of a frame that is not there
pub no-frame : (frames : FrameTable) (number : ℕ) → frame_of frames (number / 512) ≡ None → in_frames frames number ≡ None
no-frame frames number none = ap (λ f. word_of f (number % 512)) none

none-stored : (o : Option StoredWord) → o ≡ None → IsSome o → ⊥
none-stored None is has = cc
none-stored (Some s) is has = cc

-- the addresses of the words of a frame before an index
module _ (frame : Frame) (ppn : ℕ) (first : List ℕ) where
  abbrev pub Added : ℕ → List ℕ → Type 0
  Added from addresses = (address : ℕ) → Contains addresses address ↔ (Contains first address ⊎ IsOfFrame frame ppn from address)

  pub none-added : Added 0 first
  none-added address = (
    (λ has. inl has),
    (λ either. elim either [
      | inl has ↦ has
      | inr of ↦ absurd (let small = of.small in omega arith)
    ]),
  )

  pub add-next : (from index value : ℕ) (stored : StoredWord) (old new : List ℕ) → from ≤ index → word_in frame index ≡ Some stored → ((n : ℕ) → from ≤ n → n < index → word_in frame n ≡ None)
      → value ≡ (ppn * 512 + index) * 8 → new ≡ old ++ value ∷ [] → Added from old → Added (index + 1) new
  add-next from index value stored old new low is least of_index pushes added address =
      let pushed : new ≡ old ++ (ppn * 512 + index) * 8 ∷ [] = pushes ∙ ap (λ a. old ++ a ∷ []) of_index in (
        (λ has. elim (Contains-push_cases old ((ppn * 512 + index) * 8) address (subst (λ l. Contains l address) pushed has)) [
          | inl before ↦
              elim ((added address).0 before) [
                | inl given ↦ inl given
                | inr of ↦ inr (record { index = of.index; small = let small = of.small in omega arith; is = of.is; filled = of.filled })
              ]
          | inr same ↦ inr (record { index = index; small = omega arith; is = sym same; filled = ap is_some is })
        ]),
        (λ either. subst (λ l. Contains l address) (sym pushed) (elim either [
          | inl given ↦ Contains-append_left old ((ppn * 512 + index) * 8 ∷ []) address ((added address).1 (inl given))
          | inr of ↦
              let small = of.small in
              elim (cases_lt of.index from) [
                | inl earlier ↦ Contains-append_left old ((ppn * 512 + index) * 8 ∷ []) address ((added address).1 (inr (record { index = of.index; small = earlier; is = of.is; filled = of.filled })))
                | inr later ↦
                    elim (cases_lt of.index index) [
                      | inl skipped ↦ absurd (none-stored (word_in frame of.index) (least of.index later skipped) of.filled)
                      | inr last ↦
                          let same : index ≡ of.index = omega arith in
                          subst (λ a. Contains (old ++ (ppn * 512 + index) * 8 ∷ []) a) (ap (λ k. (ppn * 512 + k) * 8) same ∙ sym of.is) (Contains-push old ((ppn * 512 + index) * 8))
                    ]
              ]
        ])),
      )

  pub all-added : (from : ℕ) (addresses : List ℕ) → from ≤ 512 → ((n : ℕ) → from ≤ n → n < 512 → word_in frame n ≡ None) → Added from addresses → Added 512 addresses
  all-added from addresses le none added address = (
    (λ has. elim ((added address).0 has) [
      | inl given ↦ inl given
      | inr of ↦ inr (record { index = of.index; small = let small = of.small in omega arith; is = of.is; filled = of.filled })
    ]),
    (λ either. elim either [
      | inl given ↦ (added address).1 (inl given)
      | inr of ↦
          elim (cases_lt of.index from) [
            | inl earlier ↦ (added address).1 (inr (record { index = of.index; small = earlier; is = of.is; filled = of.filled }))
            | inr later ↦ absurd (none-stored (word_in frame of.index) (none of.index later of.small) of.filled)
          ]
    ]),
  )

-- the addresses of the words of the frames before one, and of that one
module _ (frames : FrameTable) (start from ppn : ℕ) (frame : Frame) (old new : List ℕ) (low : start ≤ from) (later : from ≤ ppn) (there : frame_of frames ppn ≡ Some frame) (added : Added frame ppn old 512 new) where
  pub sound-frame : Sound (in_frames frames) (start * 512) (from * 512) old → Sound (in_frames frames) (start * 512) ((ppn + 1) * 512) new
  sound-frame sound address has =
      elim ((added address).0 has) [
        | inl before ↦
            let known = sound address before in
            let less = known.3 in
            (known.0, known.1, known.2, omega arith, known.4)
        | inr of ↦
            let small = of.small in
            (ppn * 512 + of.index, of.is, omega arith, omega arith, subst (λ o. IsSome o) (sym (in-frame frames ppn of.index (Some frame) small there)) of.filled)
      ]

  pub each-frame : ((k : ℕ) → from ≤ k → k < ppn → frame_of frames k ≡ None) → Each (in_frames frames) (start * 512) (from * 512) old → Each (in_frames frames) (start * 512) ((ppn + 1) * 512) new
  each-frame skipped each number above below has =
      elim (cases_lt number (from * 512)) [
        | inl earlier ↦ (added (number * 8)).1 (inl (each number above earlier has))
        | inr after ↦
            elim (cases_lt (number / 512) ppn) [
              | inl between ↦ absurd (none-stored (in_frames frames number) (no-frame frames number (skipped (number / 512) (omega arith) between)) has)
              | inr last ↦
                  let place : ppn * 512 + number % 512 ≡ number = omega arith in
                  (added (number * 8)).1 (inr (record {
                    index = number % 512;
                    small = omega arith;
                    is = omega arith;
                    filled = subst (λ o. IsSome o) (ap (in_frames frames) (sym place) ∙ in-frame frames ppn (number % 512) (Some frame) (omega arith) there) has;
                  }))
            ]
      ]
