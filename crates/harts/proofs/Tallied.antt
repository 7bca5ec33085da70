-- A list that is one element longer, and one that is one shorter at its front.
use Rattle.std.proofs.Common.{◌≡◌, zero, suc, List, [], ◌∷◌, ◌++◌, map, ap, sym, subst, ◌∙◌, arith, append_assoc}
use Rattle.std.specs.Prelude.{All}
use Rattle.std.proofs.lemmas.List.{map-append}
use Rattle.std.proofs.lemmas.List.Elements.{All-append}

pub names_more : {X Y A : Type 0} (f : X → A) (g : Y → A) (xs xs' : List X) (x : X) (ys rest : List Y) (y : Y) (all : List A)
    → xs' ≡ xs ++ x ∷ [] → ys ≡ y ∷ rest → f x ≡ g y → map f xs ++ map g ys ≡ all → map f xs' ++ map g rest ≡ all
names_more f g xs xs' x ys rest y all new first same was =
    ap (λ w. map f w ++ map g rest) new ∙ ap (λ w. w ++ map g rest) (map-append f xs (x ∷ [])) ∙ append_assoc (map f xs) (f x ∷ []) (map g rest)
    ∙ ap (λ n. map f xs ++ n ∷ map g rest) same ∙ sym (ap (λ w. map f xs ++ map g w) first) ∙ was

pub all_one : {X : Type 0} (P : X → Type 0) (x : X) → P x → All P (x ∷ [])
all_one P x p zero d less = p
all_one P x p (suc k) d less = absurd (omega (arith, less))

pub all_more : {X : Type 0} (P : X → Type 0) (xs xs' : List X) (x : X) → xs' ≡ xs ++ x ∷ [] → All P xs → P x → All P xs'
all_more P xs xs' x new all p = subst (All P) (sym new) (All-append P xs (x ∷ []) all (all_one P x p))

pub all_rest : {X : Type 0} (P : X → Type 0) (xs rest : List X) (x : X) → xs ≡ x ∷ rest → All P xs → All P rest × P x
all_rest P xs rest x first all = let here : All P (x ∷ rest) = subst (All P) first all in ((λ k d less. here (suc k) d (omega (arith, less))), here 0 x (omega arith))
