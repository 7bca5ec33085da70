-- The pointers of a frame that goes.
use Rattle.std.proofs.Common.{ℕ, ◌≡◌, ◌≢◌, ◌+◌, ◌*◌, ◌/◌, ◌%◌, ◌<◌, ◌≤◌, Bool, true, false, Option, Some, None, ap, sym, ◌∙◌, subst, refl, inl, inr, ◌⊎◌, arith, IsTrue}
use Rattle.std.specs.Prelude.{◌==◌, ◌&&◌, not, cond}
use Rattle.std.proofs.lemmas.Bool.{cases_lt, cases_eq, eq-eqb, eqb-true, cond-true, cond-false, false_from_ne_true}
use Rattle.watch_tables.specs.declared.frame.Frame.{Frame}
use Rattle.watch_tables.specs.declared.frame_table.FrameTable.{FrameTable}
use Rattle.watch_tables.specs.declared.frame.StoredWord.{StoredWord}
use Rattle.watch_tables.specs.InFrame.{word_in, word_of}
use Rattle.watch_tables.specs.FrameTables.{frame_of, in_frames}
use Rattle.watch_tables.specs.Stored.{is_kept, is_table, table_of}
use Rattle.watch_tables.proofs.FrameAddresses.{in-frame}

-- what is left where one is taken out, and elsewhere
taken : (a b : Bool) (test : Bool) → test ≡ true → (not (a && test) && b) ≡ (not a && b)
taken true b true is = refl
taken false b true is = refl
taken a b false is = absurd (cc)

left : (a b : Bool) (test : Bool) → test ≡ false → (not (a && test) && b) ≡ b
left true b false is = refl
left false b false is = refl
left a b true is = absurd (cc)

module _ (frame : Frame) (ppn : ℕ) (first : ℕ → ℕ → Bool) where
  -- the pointers before an index are taken out, and all others are there
  abbrev pub Taken : ℕ → (ℕ → ℕ → Bool) → Type 0
  Taken from has = (t i : ℕ) → i < from → has t (ppn * 512 + i) ≡ (not (is_table (table_of (word_in frame i)) t) && first t (ppn * 512 + i))

  abbrev pub Left : ℕ → (ℕ → ℕ → Bool) → Type 0
  Left from has = (t n : ℕ) → (n < ppn * 512) ⊎ (ppn * 512 + from ≤ n) → has t n ≡ first t n

  -- an index without a word
  nothing : (o : Option StoredWord) (t : ℕ) (b : Bool) → o ≡ None → b ≡ (not (is_table (table_of o) t) && b)
  nothing None t b is = refl
  nothing (Some s) t b is = absurd (cc)

  module _ (from : ℕ) (old : ℕ → ℕ → Bool) (taken_before : Taken from old) (left_before : Left from old) where
    skip : (to : ℕ) → ((n : ℕ) → from ≤ n → n < to → word_in frame n ≡ None) → Taken to old
    skip to none t i below =
        elim (cases_lt i from) [
          | inl earlier ↦ taken_before t i earlier
          | inr later ↦ left_before t (ppn * 512 + i) (inr (omega arith)) ∙ nothing (word_in frame i) t (first t (ppn * 512 + i)) (none i later below)
        ]

    module _ (index : ℕ) (stored : StoredWord) (new : ℕ → ℕ → Bool) (number : ℕ) (at : number ≡ ppn * 512 + index) (low : from ≤ index) (is : word_in frame index ≡ Some stored) (least : (n : ℕ) → from ≤ n → n < index → word_in frame n ≡ None)
        (removed : (t n : ℕ) → new t n ≡ (not (is_table (table_of (Some stored)) t && (number == n)) && old t n)) where
      other : (t n : ℕ) → (number ≡ n → ⊥) → new t n ≡ old t n
      other t n apart = removed t n ∙ left (is_table (table_of (Some stored)) t) (old t n) (number == n) (false_from_ne_true (number == n) (λ h. apart (eqb-true number n h)))

      pub taken-next : Taken (index + 1) new
      taken-next t i below =
          elim (cases_lt i index) [
            | inl earlier ↦ other t (ppn * 512 + i) (λ h. omega arith) ∙ skip index least t i earlier
            | inr last ↦
                let same : index ≡ i = omega arith in
                let here : number ≡ ppn * 512 + i = omega arith in
                removed t (ppn * 512 + i) ∙ taken (is_table (table_of (Some stored)) t) (old t (ppn * 512 + i)) (number == ppn * 512 + i) (eq-eqb number (ppn * 512 + i) here)
                ∙ ap (λ o. not (is_table (table_of o) t) && old t (ppn * 512 + i)) (sym is ∙ ap (word_in frame) same) ∙ ap (λ b. not (is_table (table_of (word_in frame i)) t) && b) (left_before t (ppn * 512 + i) (inr (omega arith)))
          ]

      pub left-next : Left (index + 1) new
      left-next t n (inl below) = other t n (λ h. omega arith) ∙ left_before t n (inl below)
      left-next t n (inr above) = other t n (λ h. omega arith) ∙ left_before t n (inr (omega arith))

    pub taken-all : ((n : ℕ) → from ≤ n → n < 512 → word_in frame n ≡ None) → Taken 512 old
    taken-all none = skip 512 none

    pub left-all : from ≤ 512 → (t n : ℕ) → n / 512 ≢ ppn → old t n ≡ first t n
    left-all le t n out =
        elim (cases_lt n (ppn * 512)) [
          | inl below ↦ left_before t n (inl below)
          | inr above ↦
              elim (cases_lt n (ppn * 512 + 512)) [
                | inl inside ↦ absurd (out (omega arith))
                | inr after ↦ left_before t n (inr (omega arith))
              ]
        ]

-- what a table has without a frame
module _ (old new : FrameTable) (ppn : ℕ) (without : (k : ℕ) → frame_of new k ≡ cond (k == ppn) None (frame_of old k)) where
  pub is-gone : frame_of new ppn ≡ None
  is-gone = without ppn ∙ cond-true (ppn == ppn) None _ (eq-eqb ppn ppn refl)

  pub is-kept : (k : ℕ) → (k ≡ ppn → ⊥) → frame_of new k ≡ frame_of old k
  is-kept k out = without k ∙ cond-false (k == ppn) None _ (false_from_ne_true (k == ppn) (λ h. out (eqb-true k ppn h)))

none-left : (b : Bool) → (not b && b) ≡ false
none-left true = refl
none-left false = refl

-- a frame is taken out, and its pointers with it
module _ (old new : FrameTable) (ppn : ℕ) (frame : Frame) (there : frame_of old ppn ≡ Some frame) (gone : frame_of new ppn ≡ None) (kept : (k : ℕ) → (k ≡ ppn → ⊥) → frame_of new k ≡ frame_of old k) where
  pub here-gone : (n : ℕ) → n / 512 ≡ ppn → in_frames new n ≡ None
  here-gone n is = ap (λ k. word_of (frame_of new k) (n % 512)) is ∙ ap (λ f. word_of f (n % 512)) gone

  pub there-kept : (n : ℕ) → (n / 512 ≡ ppn → ⊥) → in_frames new n ≡ in_frames old n
  there-kept n out = ap (λ f. word_of f (n % 512)) (kept (n / 512) out)

  pub kept-without : ((n : ℕ) → IsTrue (is_kept n (in_frames old n))) → (n : ℕ) → IsTrue (is_kept n (in_frames new n))
  kept-without before n =
      elim (cases_eq (n / 512) ppn) [
        | inl here ↦ subst (λ (o : Option StoredWord). IsTrue (is_kept n o)) (sym (here-gone n here)) refl
        | inr out ↦ subst (λ (o : Option StoredWord). IsTrue (is_kept n o)) (sym (there-kept n out)) (before n)
      ]

  pub linked-without : (before after : ℕ → ℕ → Bool) → ((t n : ℕ) → before t n ≡ is_table (table_of (in_frames old n)) t)
      → Taken frame ppn before 512 after → ((t n : ℕ) → n / 512 ≢ ppn → after t n ≡ before t n) → (t n : ℕ) → after t n ≡ is_table (table_of (in_frames new n)) t
  linked-without before after linked inside outside t n =
      elim (cases_eq (n / 512) ppn) [
        | inl here ↦
            let place : ppn * 512 + n % 512 ≡ n = omega arith in
            let small : n % 512 < 512 = omega arith in
            let word : in_frames old n ≡ word_in frame (n % 512) = ap (in_frames old) (sym place) ∙ in-frame old ppn (n % 512) (Some frame) small there in
            ap (after t) (sym place) ∙ inside t (n % 512) small ∙ ap (λ k. not (is_table (table_of (word_in frame (n % 512))) t) && before t k) place
            ∙ ap (λ b. not (is_table (table_of (word_in frame (n % 512))) t) && b) (linked t n ∙ ap (λ o. is_table (table_of o) t) word) ∙ none-left (is_table (table_of (word_in frame (n % 512))) t)
            ∙ ap (λ (o : Option StoredWord). is_table (table_of o) t) (sym (here-gone n here))
        | inr out ↦ outside t n out ∙ linked t n ∙ ap (λ (o : Option StoredWord). is_table (table_of o) t) (sym (there-kept n out))
      ]
