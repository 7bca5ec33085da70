-- The first place that passes a test, and the fields that spaces cut.
use Rattle.std.proofs.Common.{◌≡◌, ◌==◌, ℕ, ◌+◌, ◌-◌, ◌<◌, ◌≤◌, Bool, false, ne_eqb, List, [], ◌∷◌, length, take, drop, nat_lt, Some, None, if◌then◌else◌, refl, subst, arith, length-drop}
use Rattle.std.specs.List.{position_or_len, slice_split}
use Rattle.std.specs.Option.{unwrap_or}
use Rattle.std.proofs.lemmas.Bool.Decides.{nat_tests}
use Rattle.std.proofs.lemmas.List.{take_all}
use Rattle.std.proofs.lemmas.List.Splits.{length-slice_split, slice_split_first, slice_split_none}
use Rattle.std.proofs.lemmas.List.Sums.{fails_before_first}
use Rattle.watch_report.specs.Fields.{fields_of, is_separator, one_field}

pub unwrap_position : (n m : ℕ) → n ≤ m → unwrap_or (if nat_lt n m then Some n else None) m ≡ n
unwrap_position n m h = grind (arith, nat_tests)

-- a slice from a place to the end
pub slice_to_end : (n : ℕ) (text : List ℕ) → take (length text - n) (drop n text) ≡ drop n text
slice_to_end n text = take_all (length text - n) (drop n text) (omega (arith, length-drop n text))

-- where an element passes, a part ends
pub first_part : (p : ℕ → Bool) (text : List ℕ) (end : ℕ) → end ≡ position_or_len p text → end < length text
    → slice_split p text ≡ take end text ∷ slice_split p (take (length text - (end + 1)) (drop (end + 1) text))
first_part p text end e less =
    let place : position_or_len p text < length text = subst (λ n. n < length text) e less in
    rw (slice_to_end (end + 1) text, e) (slice_split_first p text 0 place)

-- where none passes, the text is one part
pub last_part : (p : ℕ → Bool) (text : List ℕ) (end : ℕ) → end ≡ position_or_len p text → length text ≤ end → slice_split p text ≡ text ∷ []
last_part p text end e most = slice_split_none p text (λ i d less. fails_before_first p text i d (omega (arith, e)))

-- where a space stands, a field ends
pub first_field : (text : List ℕ) (end : ℕ) → end ≡ position_or_len is_separator text → end < length text
    → fields_of text ≡ take end text ∷ fields_of (take (length text - (end + 1)) (drop (end + 1) text))
first_field text end e less = first_part is_separator text end e less

-- where none stands, the text is one field
pub last_field : (text : List ℕ) (end : ℕ) → end ≡ position_or_len is_separator text → length text ≤ end → fields_of text ≡ text ∷ []
last_field text end e most = last_part is_separator text end e most

-- there is a field
pub some_field : (text : List ℕ) → (length (fields_of text) == 0) ≡ false
some_field text = ne_eqb (length (fields_of text)) 0 (λ e. omega (arith, e, length-slice_split is_separator text))

more_than_one : (a : List ℕ) (fields : List (List ℕ)) (n : ℕ) → length fields ≡ n + 1 → one_field (a ∷ fields) ≡ None
more_than_one a [] n e = absurd (omega (arith, e))
more_than_one a (b ∷ fields) n e = refl

pub not_one_field : (a text : List ℕ) → one_field (a ∷ fields_of text) ≡ None
not_one_field a text = more_than_one a (fields_of text) _ (length-slice_split is_separator text)
