-- One more finding among those that are grouped by notes.
use Rattle.std.proofs.Common.{◌≡◌, ◌∙◌, ℕ, ◌+◌, ◌<◌, Bool, true, false, List, [], ◌∷◌, Option, Some, ap, cond, get_or, length, sym, refl, arith, take}
use Rattle.std.specs.Prelude.{◌&&◌, ◌||◌, ◌==◌, reverse}
use Rattle.std.specs.List.{list_any}
use Rattle.std.specs.Option.{is_none, unwrap_or}
use Rattle.std.specs.Ordering.{bool_cmp, is_eq, nat_cmp, ordering_then}
use Rattle.std.specs.Cmp.Lexicographic.{slice_cmp}
use Rattle.std.specs.Str.{bytes_eq}
use Rattle.std.specs.declared.cmp.Ordering.{Ordering}
use Rattle.std.specs.declared.cmp.Ordering.TheVariants.{Less, Equal, Greater}
use Rattle.std.proofs.lemmas.Bool.Decides.{nat_tests}
use Rattle.std.proofs.lemmas.List.{reverse-append, take_more}
use Rattle.std.proofs.lemmas.Map.Text.{is_eq-slice_cmp}
use Rattle.std.proofs.lemmas.Slice.Eq.{bytes_eq-Decides}
use Rattle.watch.specs.Computed.{is_same}
use Rattle.watch_causes.specs.declared.begun.Begun.{Begun}
use Rattle.watch_causes.specs.declared.tally.Tally.{Tally}
use Rattle.watch_report.specs.declared.found.Found.{Found}
use Rattle.watch_report.specs.declared.note_group.PageKey.{PageKey}
use Rattle.watch_report.specs.declared.note_group.SpaceKey.{SpaceKey}
use Rattle.watch_report.specs.GroupsSoFar.{counts_if, page_cmp, space_cmp}
use Rattle.watch_report.specs.NoteGroups.{counts_of, founds_of, has_page, has_space, is_empty, is_same_page, is_same_space, no_finding, note_of, of_note, page_of, space_of}

-- ---- the orders tell keys apart

then_of : (o p : Ordering) (a b : Bool) → is_eq o ≡ a → is_eq p ≡ b → is_eq (ordering_then o p) ≡ (a && b)
then_of Less p a b first rest = ap (λ v. v && b) first
then_of Equal p a b first rest = rest ∙ ap (λ v. v && b) first
then_of Greater p a b first rest = ap (λ v. v && b) first

of_numbers : (a b : ℕ) → is_eq (nat_cmp a b) ≡ (a == b)
of_numbers a b = grind (arith, nat_tests)

of_bools : (a b : Bool) → is_eq (bool_cmp a b) ≡ is_same a b
of_bools true true = refl
of_bools true false = refl
of_bools false true = refl
of_bools false false = refl

of_spaces : (a b : SpaceKey) → is_eq (space_cmp a b) ≡ is_same_space a b
of_spaces a b = then_of _ _ _ _ (of_numbers a.asid b.asid) (of_numbers a.root b.root)

of_pages : (a b : PageKey) → is_eq (page_cmp a b) ≡ is_same_page a b
of_pages a b =
    then_of _ _ _ _ (of_numbers a.base b.base)
    (then_of _ _ _ _ (of_numbers a.level b.level)
    (then_of _ _ _ _ (of_bools a.global b.global) (of_spaces a.space b.space)))

either : (b : Bool) (old : Bool) → cond b true old ≡ (b || old)
either true old = refl
either false old = refl

pub one_page : (note by : List ℕ) (page p : PageKey) (old : Bool)
    → cond (is_eq (ordering_then (slice_cmp nat_cmp note by) (page_cmp page p))) true old ≡ ((bytes_eq note by && is_same_page page p) || old)
one_page note by page p old =
    ap (λ (b : Bool). cond b true old) (then_of (slice_cmp nat_cmp note by) (page_cmp page p) (bytes_eq note by) (is_same_page page p) (is_eq-slice_cmp note by) (of_pages page p))
    ∙ either (bytes_eq note by && is_same_page page p) old

pub one_space : (note by : List ℕ) (space s : SpaceKey) (old : Bool)
    → cond (is_eq (ordering_then (slice_cmp nat_cmp note by) (space_cmp space s))) true old ≡ ((bytes_eq note by && is_same_space space s) || old)
one_space note by space s old =
    ap (λ (b : Bool). cond b true old) (then_of (slice_cmp nat_cmp note by) (space_cmp space s) (bytes_eq note by) (is_same_space space s) (is_eq-slice_cmp note by) (of_spaces space s))
    ∙ either (bytes_eq note by && is_same_space space s) old

pub one_note : {X : Type 0} (note by : List ℕ) (x old : Option X) → cond (is_eq (slice_cmp nat_cmp note by)) x old ≡ cond (bytes_eq note by) x old
one_note note by x old = ap (λ (b : Bool). cond b x old) (is_eq-slice_cmp note by)

-- ---- one more finding

any_more : (test : Found → Bool) (b : Bool) (f : Found) (own : List Found)
    → ((b && test f) || list_any test own) ≡ list_any test (cond b (f ∷ own) own)
any_more test true f own = refl
any_more test false f own = refl

module _ (notes : ℕ → List ℕ) (f : Found) (before : List Found) where
  pub more_pages : (by : List ℕ) (page : PageKey)
      → ((bytes_eq (note_of notes f) by && is_same_page (page_of f) page) || has_page page (of_note notes by before)) ≡ has_page page (of_note notes by (f ∷ before))
  more_pages by page = any_more (λ g. is_same_page (page_of g) page) (bytes_eq (note_of notes f) by) f (of_note notes by before)

  pub more_spaces : (by : List ℕ) (space : SpaceKey)
      → ((bytes_eq (note_of notes f) by && is_same_space (space_of f) space) || has_space space (of_note notes by before)) ≡ has_space space (of_note notes by (f ∷ before))
  more_spaces by space = any_more (λ g. is_same_space (space_of g) space) (bytes_eq (note_of notes f) by) f (of_note notes by before)

  more_by : (b : Bool) (own other : List Found) → (b ≡ true → own ≡ other) → cond b (Some (counts_of (f ∷ own))) (counts_if other) ≡ counts_if (cond b (f ∷ other) other)
  more_by true own other same = ap (λ (fs : List Found). Some (counts_of (f ∷ fs))) (same refl)
  more_by false own other same = refl

  pub more_groups : (by : List ℕ)
      → cond (bytes_eq (note_of notes f) by) (Some (counts_of (f ∷ of_note notes (note_of notes f) before))) (counts_if (of_note notes by before)) ≡ counts_if (of_note notes by (f ∷ before))
  more_groups by =
      more_by (bytes_eq (note_of notes f) by) (of_note notes (note_of notes f) before) (of_note notes by before)
      (λ is. ap (λ (n : List ℕ). of_note notes n before) ((bytes_eq-Decides (note_of notes f) by).0 is))

pub counts_in : (own : List Found) → unwrap_or (counts_if own) no_finding ≡ counts_of own
counts_in [] = refl
counts_in (f ∷ own) = refl

pub empty_if : (own : List Found) → is_none (counts_if own) ≡ is_empty own
empty_if [] = refl
empty_if (f ∷ own) = refl

pub reverse_more : {X : Type 0} (xs : List X) (i : ℕ) (d : X) → i < length xs → get_or xs i d ∷ reverse (take i xs) ≡ reverse (take (i + 1) xs)
reverse_more xs i d within = sym (ap reverse (take_more xs i d within) ∙ reverse-append (take i xs) (get_or xs i d ∷ []))

pub no_reaches : (tallies : List Tally) (begun : List Begun) → founds_of tallies begun [] ≡ []
no_reaches tallies [] = refl
no_reaches tallies (b ∷ begun) = refl
