-- A history that is one turn longer, and with it one list.
use Rattle.std.proofs.Common.{◌≡◌, ℕ, zero, suc, ◌<◌, ◌==◌, Bool, true, false, List, [], ◌∷◌, ◌++◌, length, map, get_or, set, refl, ap, sym, ◌∙◌, arith, length-append}
use Rattle.std.specs.Prelude.{if◌then◌else◌, All}
use Rattle.std.proofs.lemmas.List.{append-nil, get_or-set_same, get_or-set_other, length-map}
use Rattle.std.proofs.lemmas.Bool.Decides.{nat_tests}
use Rattle.harts.specs.Turns.{turns_of, IsInterleaving}

abbrev pub last_of : {A : Type 0} → Bool → A → List A
last_of mine turn = if mine then turn ∷ [] else []

turns_more : {A : Type 0} (caller : ℕ) (owners : List ℕ) (history : List A) (owner : ℕ) (turn : A) → length owners ≡ length history
    → turns_of caller (owners ++ owner ∷ []) (history ++ turn ∷ []) ≡ turns_of caller owners history ++ last_of (owner == caller) turn
turns_more caller [] [] owner turn same = refl
turns_more caller [] (h ∷ history) owner turn same = absurd (omega arith)
turns_more caller (o ∷ owners) [] owner turn same = absurd (omega arith)
turns_more {A} caller (o ∷ owners) (h ∷ history) owner turn same =
    let rest = turns_more caller owners history owner turn (omega arith) in by_first (o == caller) h _ _ _ rest where
      by_first : (b : Bool) (h : A) (xs ys zs : List A) → xs ≡ ys ++ zs → (if b then h ∷ xs else xs) ≡ (if b then h ∷ ys else ys) ++ zs
      by_first true h xs ys zs e = ap (λ w. h ∷ w) e
      by_first false h xs ys zs e = e

one_list : {A : Type 0} (lists : List (List A)) (owner caller : ℕ) (turn : A) → owner < length lists → (mine : Bool) → (owner == caller) ≡ mine
    → get_or (set lists owner (get_or lists owner [] ++ turn ∷ [])) caller [] ≡ get_or lists caller [] ++ last_of mine turn
one_list lists owner caller turn less true is =
    let same : owner ≡ caller = grind (arith, nat_tests) in rw (sym same) (get_or-set_same lists owner (get_or lists owner [] ++ turn ∷ []) [] less)
one_list lists owner caller turn less false is =
    get_or-set_other lists owner caller (get_or lists owner [] ++ turn ∷ []) [] (λ e. let same : owner ≡ caller = sym e in absurd (grind (arith, nat_tests))) ∙ sym (append-nil (get_or lists caller []))

-- the turn goes to the end of the history and of one list
pub woven_more : {A : Type 0} (lists : List (List A)) (history : List A) (owner : ℕ) (turn : A) → owner < length lists → IsInterleaving lists history
    → IsInterleaving (set lists owner (get_or lists owner [] ++ turn ∷ [])) (history ++ turn ∷ [])
woven_more lists history owner turn less woven = (
  woven.0 ++ owner ∷ [],
  (let a = length-append woven.0 (owner ∷ []) in let b = length-append history (turn ∷ []) in let same = woven.1 in omega arith),
  λ caller. one_list lists owner caller turn less (owner == caller) refl ∙ ap (λ w. w ++ last_of (owner == caller) turn) (woven.2 caller) ∙ sym (turns_more caller woven.0 history owner turn woven.1),
)

-- empty lists and an empty history
pub woven_none : {A : Type 0} (lists : List (List A)) → ((caller : ℕ) → get_or lists caller [] ≡ []) → IsInterleaving lists []
woven_none lists none = ([], refl, none)

-- the same, where the lists and the history afterwards are given by equations
pub woven_after : {A : Type 0} (lists lists' : List (List A)) (history history' : List A) (owner : ℕ) (turn : A) (old : List A) → owner < length lists → get_or lists owner [] ≡ old
    → IsInterleaving lists history → lists' ≡ set lists owner (old ++ turn ∷ []) → history' ≡ history ++ turn ∷ [] → IsInterleaving lists' history'
woven_after lists lists' history history' owner turn old less is woven new longer = rw (new, longer, sym is) (woven_more lists history owner turn less woven)

-- of lists that are all empty each is empty
pub all_empty : {X A : Type 0} (f : X → List A) (xs : List X) → All (λ x. f x ≡ []) xs → (caller : ℕ) → get_or (map f xs) caller [] ≡ []
all_empty f [] all caller = refl
all_empty f (x ∷ xs) all zero = all 0 x (omega arith)
all_empty f (x ∷ xs) all (suc caller) = all_empty f xs (λ k d less. all (suc k) d (omega (arith, less))) caller

-- as many names as lists
pub within : {X A B : Type 0} (f : X → A) (g : X → B) (xs : List X) (ys : List A) (n : ℕ) → map f xs ≡ ys → n < length ys → n < length (map g xs)
within f g xs ys n is less = let a = length-map xs f in let b = length-map xs g in let c = ap length is in omega arith
