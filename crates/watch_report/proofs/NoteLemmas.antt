-- The notes of one record more.
use Rattle.std.proofs.Common.{◌≡◌, ◌≢◌, true, false, eqb, ℕ, ◌≤◌, zero, suc, List, [], ◌∷◌, ◌++◌, length, get_or, ◌⊎◌, inl, inr, ne_eqb, ap, sym, ◌∙◌, refl, arith, length-append}
use Rattle.std.proofs.lemmas.Bool.{cond-false, cond-true}
use Rattle.std.proofs.lemmas.Bool.Decides.{eqb_tells}
use Rattle.std.proofs.lemmas.List.{get_or_push}
use Rattle.watch_report.specs.declared.notes.Notes.{Notes}
use Rattle.watch_report.specs.NoteTexts.{AreNotes, note_in, text_of}
use Rattle.watch_report.specs.TraceText.{Noted, note_at}

-- ---- the places of records, and one more

place_within : (places : List ℕ) (place count n : ℕ) → ((k : ℕ) → get_or places k 0 ≤ count) → place ≤ count → get_or (places ++ place ∷ []) n 0 ≤ count
place_within [] place count zero all within = within
place_within [] place count (suc n) all within = omega arith
place_within (p ∷ places) place count zero all within = all 0
place_within (p ∷ places) place count (suc n) all within = place_within places place count n (λ k. all (suc k)) within

place_other : (places : List ℕ) (place n : ℕ) → n ≢ length places → get_or (places ++ place ∷ []) n 0 ≡ get_or places n 0
place_other [] place zero other = absurd (other refl)
place_other [] place (suc n) other = refl
place_other (p ∷ places) place zero other = refl
place_other (p ∷ places) place (suc n) other = place_other places place n (λ is. other (ap suc is))

-- ---- their notes

note_of_newest : (newest : Noted) (records : List Noted) (number : ℕ) → eqb number (suc (length records)) ≡ true → newest.by ≡ note_at (newest ∷ records) number
note_of_newest newest records number is = sym (cond-true (eqb number (suc (length records))) newest.by (note_at records number) is)

note_of_other : (newest : Noted) (records : List Noted) (number : ℕ) → eqb number (suc (length records)) ≡ false → note_at records number ≡ note_at (newest ∷ records) number
note_of_other newest records number other = sym (cond-false (eqb number (suc (length records))) newest.by (note_at records number) other)

note_after : (old new : Notes) (records : List Noted) (newest : Noted) (place n : ℕ) → AreNotes records old → new.places.items ≡ old.places.items ++ place ∷ []
    → text_of new.texts place ≡ newest.by → ((p : ℕ) → p ≤ length old.texts.ends.items → text_of new.texts p ≡ text_of old.texts p)
    → ((eqb (suc n) (suc (length records)) ≡ true) × (suc n ≡ suc (length records))) ⊎ ((eqb (suc n) (suc (length records)) ≡ false) × (suc n ≢ suc (length records)))
    → note_in new (suc n) ≡ note_at (newest ∷ records) (suc n)
note_after old new records newest place n are places text others (inl (is, at)) =
    let last : get_or new.places.items n 0 ≡ place = ap (λ (ps : List ℕ). get_or ps n 0) places ∙ get_or_push old.places.items place 0 n (omega (arith, are.count, at)) in
    ap (text_of new.texts) last ∙ (text ∙ note_of_newest newest records (suc n) is)
note_after old new records newest place n are places text others (inr (is, other)) =
    let same : get_or new.places.items n 0 ≡ get_or old.places.items n 0 =
    ap (λ (ps : List ℕ). get_or ps n 0) places ∙ place_other old.places.items place n (λ at. other (ap suc (at ∙ are.count))) in
    ap (text_of new.texts) same ∙ (others (get_or old.places.items n 0) (are.within n) ∙ (are.note (suc n) ∙ note_of_other newest records (suc n) is))

notes_after : (old new : Notes) (records : List Noted) (newest : Noted) (place number : ℕ) → AreNotes records old → new.places.items ≡ old.places.items ++ place ∷ []
    → text_of new.texts place ≡ newest.by → ((p : ℕ) → p ≤ length old.texts.ends.items → text_of new.texts p ≡ text_of old.texts p)
    → note_in new number ≡ note_at (newest ∷ records) number
notes_after old new records newest place zero are places text others = are.note zero ∙ note_of_other newest records zero (ne_eqb zero (suc (length records)) (λ is. omega (arith, is)))
notes_after old new records newest place (suc n) are places text others =
    note_after old new records newest place n are places text others (eqb_tells (suc n) (suc (length records)))

pub more_notes : (old new : Notes) (records : List Noted) (newest : Noted) (place : ℕ) → AreNotes records old → new.places.items ≡ old.places.items ++ place ∷ []
    → text_of new.texts place ≡ newest.by → place ≤ length new.texts.ends.items → length old.texts.ends.items ≤ length new.texts.ends.items
    → ((p : ℕ) → p ≤ length old.texts.ends.items → text_of new.texts p ≡ text_of old.texts p) → AreNotes (newest ∷ records) new
more_notes old new records newest place are places text within grows others =
    record {
      count = omega (arith, ap (λ (ps : List ℕ). length ps) places, length-append old.places.items (place ∷ []), are.count);
      within = λ n. omega (arith, ap (λ (ps : List ℕ). get_or ps n 0) places, place_within old.places.items place (length new.texts.ends.items) n (λ k. omega (arith, are.within k, grows)) within);
      note = λ number. notes_after old new records newest place number are places text others;
    }
