-- A row of ends with one more.
use Rattle.std.proofs.Common.{◌≡◌, ◌∙◌, sym, ap, ap₂, refl, ℕ, zero, suc, ◌+◌, ◌<◌, ◌++◌, List, [], ◌∷◌, length, ◌⊎◌, inl, inr, map, Option, arith, length-append}
use Rattle.std.proofs.lemmas.Bool.{cases_lt}
use Rattle.std.proofs.lemmas.List.{length-map, map-append}
use Rattle.std.proofs.lemmas.List.FromFn.{length-map-range_with_len}
use Rattle.std.specs.Option.{option_map}
use Rattle.std.specs.List.{range_with_len}
use Rattle.board.specs.Ports.{End, element}
use Rattle.std.specs.Global.{Vec}
use Rattle.board.specs.Rows.{items_at, IsRow, capacity_of, capacity_between}

range_last : (from n : ℕ) → range_with_len from (suc n) ≡ range_with_len from n ++ (from + n) ∷ []
range_last from zero = ap (λ k. k ∷ []) (omega arith)
range_last from (suc n) = ap (λ rest. from ∷ rest) (range_last (from + 1) n ∙ ap (λ k. range_with_len (from + 1) n ++ k ∷ []) (omega arith))

range_up_to : (n : ℕ) → range_with_len 0 (n + 1) ≡ range_with_len 0 n ++ n ∷ []
range_up_to n = (let one-more : n + 1 ≡ suc n = omega arith in ap (range_with_len 0) one-more) ∙ range_last 0 n ∙ ap (λ k. range_with_len 0 n ++ k ∷ []) (omega arith)

module _ {X : Type 0} where
  pub element-old : (row : List (Option X)) (x : Option X) (i : ℕ) → i < length row → element (row ++ x ∷ []) i ≡ element row i
  element-old [] x i within = absurd (omega arith)
  element-old (y ∷ ys) x zero within = refl
  element-old (y ∷ ys) x (suc i) within = element-old ys x i (omega arith)

  pub element-last : (row : List (Option X)) (x : Option X) (i : ℕ) → i ≡ length row → element (row ++ x ∷ []) i ≡ x
  element-last [] x i is = ap (λ k. element (x ∷ []) k) is
  element-last (y ∷ ys) x zero is = absurd (omega arith)
  element-last (y ∷ ys) x (suc i) is = element-last ys x i (omega arith)

module _ {X : Type 0} (name : X → End) (new : End → X) (capacity hart : ℕ) where
  pub row_count : (count : ℕ) (row : List (Option X)) → IsRow name new capacity hart count row → length row ≡ count
  row_count count row is =
      sym (length-map (map (option_map name) row) capacity_of ∙ length-map row (option_map name)) ∙ (ap length is.capacities ∙ length-map-range_with_len _ 0 count)

  pub row_grows : (count : ℕ) (row : List (Option X)) (x : Option X) → IsRow name new capacity hart count row
      → capacity_of (option_map name x) ≡ capacity_between capacity hart count → x ≡ option_map new (option_map name x)
      → IsRow name new capacity hart (count + 1) (row ++ x ∷ [])
  row_grows count row x is right fresh =
      let names : map (option_map name) (row ++ x ∷ []) ≡ map (option_map name) row ++ option_map name x ∷ [] = map-append (option_map name) row (x ∷ []) in
      record {
        capacities =
            ap (map capacity_of) names
            ∙ (map-append capacity_of (map (option_map name) row) (option_map name x ∷ [])
            ∙ (ap₂ (λ front last. front ++ last ∷ []) is.capacities right
            ∙ sym (ap (map (capacity_between capacity hart)) (range_up_to count) ∙ map-append (capacity_between capacity hart) (range_with_len 0 count) (count ∷ []))));
        are_new =
            ap₂ (λ front last. front ++ last ∷ []) is.are_new fresh
            ∙ sym (ap (map (option_map new)) names ∙ map-append (option_map new) (map (option_map name) row) (option_map name x ∷ []));
      }

-- a number below the next one, and two numbers
pub below_next : (a b : ℕ) → a < b + 1 → (a < b) ⊎ (a ≡ b)
below_next a b within = elim (cases_lt a b) [
  | inl low ↦ inl low
  | inr high ↦ inr (omega arith)
]

pub same_or_not : (a b : ℕ) → (a ≡ b) ⊎ (a ≡ b → ⊥)
same_or_not a b = elim (cases_lt a b) [
  | inl low ↦ inr (λ same. absurd (omega arith))
  | inr high ↦ elim (cases_lt b a) [
    | inl above ↦ inr (λ same. absurd (omega arith))
    | inr not-above ↦ inl (omega arith)
  ]
]

-- the rows of a longer list
module _ {X : Type 0} where
  pub items-old : (rows : List (Vec X)) (row : Vec X) (number : ℕ) → number < length rows → items_at (rows ++ row ∷ []) number ≡ items_at rows number
  items-old [] row number within = absurd (omega arith)
  items-old (y ∷ ys) row zero within = refl
  items-old (y ∷ ys) row (suc number) within = items-old ys row number (omega arith)

  pub items-last : (rows : List (Vec X)) (row : Vec X) (number : ℕ) → number ≡ length rows → items_at (rows ++ row ∷ []) number ≡ row.items
  items-last [] row number is = ap (λ k. items_at (row ∷ []) k) is
  items-last (y ∷ ys) row zero is = absurd (omega arith)
  items-last (y ∷ ys) row (suc number) is = items-last ys row number (omega arith)

  -- an empty row more makes no row longer
  pub items-empty : (rows : List (Vec X)) (row : Vec X) → row.items ≡ [] → ((number : ℕ) → items_at rows number ≡ []) → (number : ℕ) → items_at (rows ++ row ∷ []) number ≡ []
  items-empty [] row none all zero = none
  items-empty [] row none all (suc number) = refl
  items-empty (y ∷ ys) row none all zero = all zero
  items-empty (y ∷ ys) row none all (suc number) = items-empty ys row none (λ k. all (suc k)) number

pub length-one_more : {X : Type 0} (xs : List X) (x : X) → length (xs ++ x ∷ []) ≡ length xs + 1
length-one_more xs x = length-append xs (x ∷ [])
