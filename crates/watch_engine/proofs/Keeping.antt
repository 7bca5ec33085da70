-- What is so of each of a list, as it is taken out and put in.
use Rattle.std.proofs.Common.{◌≡◌, ℕ, suc, Bool, true, false, Option, None, Some, IfSome, List, [], ◌∷◌, ◌++◌, drop, slice_index_or, subst, sym, take}
use Rattle.std.specs.Prelude.{cond}
use Rattle.std.specs.List.{All, Contains, HoldsAt, remove}
use Rattle.std.proofs.lemmas.List.Elements.{All-append, All-contains, All-contains_itself, All-drop, All-push, All-take, All-weaker}

module _ {X : Type 0} where
  -- what stays was there
  pub all-stay : (xs : List X) (place : ℕ) → All (Contains xs) (remove xs place)
  all-stay xs place = All-append (Contains xs) (take place xs) (drop (suc place) xs)
      (All-take (Contains xs) place xs (All-contains_itself xs))
      (All-drop (Contains xs) (suc place) xs (All-contains_itself xs))

  pub all-among : (P : X → Type 0) (xs ys : List X) → All (Contains xs) ys → All P xs → All P ys
  all-among P xs ys among all = All-weaker (Contains xs) P (λ x has. All-contains P xs x all has) ys among

  pub all-pushed : (P : X → Type 0) (xs : List X) (x : X) (pushed : Bool) → All P xs → P x → All P (cond pushed (xs ++ x ∷ []) xs)
  all-pushed P xs x true all is = All-push P xs x all is
  all-pushed P xs x false all is = all

  -- what is so of the last is so of the one that is taken from the end
  pub popped : (P : X → Type 0) (xs : List X) (place : ℕ) (taken : Option X) → ((d : X) → taken ≡ Some (slice_index_or xs place d)) → HoldsAt P xs place → IfSome taken P
  popped P xs place None is holds = tt
  popped P xs place (Some x) is holds = subst (λ r. IfSome r P) (sym (is x)) (holds x)
