-- Notes as they are shown, byte by byte.
use Rattle.std.proofs.Common.{◌≡◌, ◌∙◌, ℕ, Bool, true, false, cond, List, [], ◌∷◌, ◌++◌, refl, ap, sym, append_assoc}
use Rattle.std.specs.Prelude.{◌&&◌}
use Rattle.std.specs.List.{list_all}
use Rattle.std.proofs.lemmas.Bool.{false≢true}
use Rattle.watch_report.specs.ShownNotes.{escaped, is_plain, shown_byte, shown_note}

first_plain : (b : Bool) (byte : ℕ) (note : List ℕ) → (list_all is_plain note ≡ true → shown_note note ≡ note) → (b && list_all is_plain note) ≡ true
    → (cond b (byte ∷ []) (escaped byte) ++ shown_note note) ≡ byte ∷ note
first_plain true byte note rest plain = ap (λ (t : List ℕ). byte ∷ t) (rest plain)
first_plain false byte note rest plain = absurd (false≢true plain)

-- a note of plain bytes is shown as it is
pub plain_as_it_is : (note : List ℕ) → list_all is_plain note ≡ true → shown_note note ≡ note
plain_as_it_is [] plain = refl
plain_as_it_is (byte ∷ note) plain = first_plain (is_plain byte) byte note (plain_as_it_is note) plain

-- one byte more
pub front_byte : (byte : ℕ) (here next before after all : List ℕ) → here ≡ byte ∷ next → after ≡ before ++ shown_byte byte → before ++ shown_note here ≡ all → after ++ shown_note next ≡ all
front_byte byte here next before after all is more h =
    ap (λ (t : List ℕ). t ++ shown_note next) more
    ∙ (append_assoc before (shown_byte byte) (shown_note next) ∙ (ap (λ (bs : List ℕ). before ++ shown_note bs) (sym is) ∙ h))
