-- A field that is `-` for none.
use Rattle.std.proofs.Common.{◌≡◌, ℕ, ◌+◌, ◌-◌, ◌≤◌, Bool, true, false, Option, Some, None, option_map, codes, List, [], ◌∷◌, length, take, drop, eqb, eqb-true, nat_eq, refl, sym, ap, subst, ◌∙◌, inl, inr, arith, if◌then◌else◌, ◌&&◌}
use Rattle.std.specs.Cmp.Lexicographic.{pointwise}
use Rattle.std.specs.List.{position_or_len}
use Rattle.std.specs.Str.{bytes_eq}
use Rattle.std.proofs.lemmas.Bool.{and_parts, cases_Bool, cases_lt, false≢true}
use Rattle.std.proofs.lemmas.List.Splits.{length-slice_split}
use Rattle.watch_report.specs.Fields.{◌>>=◌, fields_of, is_separator, number_field, one_field, optional_field}
use Rattle.watch_report.specs.NextFields.{last_optional, next_optional}
use Rattle.watch_report.proofs.FieldLemmas.{only_number}
use Rattle.watch_report.proofs.Positions.{first_field, last_field, not_one_field}

-- what was read, and the fields after it
abbrev pub with_rest : {A : Type 0} → Option A → List (List ℕ) → Option (A × List (List ℕ))
with_rest read fields = read >>= λ a. Some (a, fields)

abbrev is_dash : List ℕ → Bool
is_dash field = bytes_eq field (codes "-")

-- neither `-` nor a number
neither : (dash : Bool) (read : Option ℕ) → dash ≡ false → read ≡ None → (if dash then Some None else option_map Some read) ≡ None
neither dash read e n = rw (e, n) refl

dash_has_no_space : (text : List ℕ) → is_dash text ≡ true → length text ≤ position_or_len is_separator text
dash_has_no_space [] e = omega arith
dash_has_no_space (x ∷ []) e =
    let is : 45 ≡ x = sym (eqb-true x 45 (and_parts (eqb x 45) true e).0) in
    subst (λ x. 1 ≤ position_or_len is_separator (x ∷ [])) is (omega arith)
dash_has_no_space (x ∷ y ∷ bytes) e = absurd (false≢true (and_parts (eqb x 45) false e).1)

pub only_optional : (text : List ℕ) → optional_field text ≡ last_optional (fields_of text)
only_optional text =
    let end : ℕ = position_or_len is_separator text in
    elim (cases_lt end (length text)) [
      | inr none ↦ sym (ap last_optional (last_field text end refl none))
      | inl less ↦
          let rest : List ℕ = take (length text - (end + 1)) (drop (end + 1) text) in
          let two : one_field (fields_of text) ≡ None = ap one_field (first_field text end refl less) ∙ not_one_field (take end text) rest in
          let dash : is_dash text ≡ false = elim (cases_Bool (is_dash text)) [
            | inl is ↦ absurd (let short = dash_has_no_space text is in omega (arith, short, less))
            | inr other ↦ other
          ] in
          neither (is_dash text) (number_field 16 text) dash (only_number 16 text (omega arith) ∙ ap (λ (r : Option (List ℕ)). r >>= number_field 16) two)
          ∙ sym (ap (λ (r : Option (List ℕ)). r >>= optional_field) two)
    ]

-- ---- the next field

optional_from : (a : List ℕ) (fields : List (List ℕ)) (n : ℕ) → length fields ≡ n + 1 → next_optional (a ∷ fields) ≡ with_rest (optional_field a) fields
optional_from a [] n e = absurd (omega arith)
optional_from a (b ∷ fields) n e = refl

optional_of : (a text : List ℕ) → next_optional (a ∷ fields_of text) ≡ with_rest (optional_field a) (fields_of text)
optional_of a text = optional_from a (fields_of text) _ (length-slice_split is_separator text)

abbrev begins_with_dash : List ℕ → Bool
begins_with_dash text = pointwise nat_eq (take 2 text) (codes "- ")

pub dash_is_next : (text : List ℕ) → begins_with_dash text ≡ true → next_optional (fields_of text) ≡ Some (None, fields_of (drop 2 text))
dash_is_next [] e = absurd (false≢true e)
dash_is_next (x ∷ []) e = absurd (false≢true (and_parts (eqb x 45) false e).1)
dash_is_next (x ∷ y ∷ rest) e =
    let parts = and_parts (eqb x 45) (eqb y 32 && true) e in
    let dash : 45 ≡ x = sym (eqb-true x 45 parts.0) in
    let space : 32 ≡ y = sym (eqb-true y 32 (and_parts (eqb y 32) true parts.1).0) in
    subst (λ x. next_optional (fields_of (x ∷ y ∷ rest)) ≡ Some (None, fields_of rest)) dash
    (subst (λ y. next_optional (fields_of (45 ∷ y ∷ rest)) ≡ Some (None, fields_of rest)) space (optional_of (45 ∷ []) rest))
