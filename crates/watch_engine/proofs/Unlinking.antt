-- Chains without their last key.
use Rattle.std.proofs.Common.{◌≡◌, ℕ, false, suc, ◌<◌, ◌≤◌, List, length, take, get_or, set, ap, sym, ◌∙◌, arith, inl, inr}
use Rattle.std.specs.Prelude.{◌==◌}
use Rattle.std.proofs.lemmas.Bool.{cases_Bool, eqb-true, eqb-false, false_from_ne_true}
use Rattle.std.proofs.lemmas.List.{get_or-set_other, get_or-set_same, get_or-take, length-take-le, take-take}
use Rattle.watch_engine.specs.Chains.{AreChained, bucket_of, is_in, last_where}
use Rattle.watch_engine.proofs.LastPlaces.{last_no}

-- the link of a place among the first n
older_at : (b n : ℕ) (keys links heads : List ℕ) → n ≤ length keys → AreChained b (take n keys) links heads → (place : ℕ) → place < n
    → get_or links place 0 ≡ last_where (is_in b (bucket_of b (get_or keys place 0))) (take place keys)
older_at b n keys links heads h was place low =
    was.older place (omega (arith, length-take-le n keys h))
    ∙ ((λ j. last_where (is_in b (bucket_of b (get_or-take n keys place 0 low j))) (take place (take n keys)))
    ∙ ap (λ (ks : List ℕ). last_where (is_in b (bucket_of b (get_or keys place 0))) ks) (take-take place n keys (omega arith)))

pub unlinked : (n : ℕ) (keys links heads : List ℕ) (place b : ℕ) → place < length keys → length heads ≡ n → b < n → b ≡ bucket_of n (get_or keys place 0)
    → AreChained n (take (suc place) keys) links heads
    → AreChained n (take place keys) links (set heads b (get_or links place 0))
unlinked n keys links heads place b h many within is was =
    let v : ℕ = get_or links place 0 in
    record {
      older = λ p low.
          let less : p < place = omega (arith, length-take-le place keys (omega arith)) in
          older_at n (suc place) keys links heads (omega arith) was p (omega arith)
          ∙ sym ((λ j. last_where (is_in n (bucket_of n (get_or-take place keys p 0 less j))) (take p (take place keys)))
          ∙ ap (λ (ks : List ℕ). last_where (is_in n (bucket_of n (get_or keys p 0))) ks) (take-take p place keys (omega arith)));
      newest = λ bucket low. elim (cases_Bool (bucket == b)) [
        | inl fits ↦
            (let at : bucket ≡ b = eqb-true _ _ fits in
            ap (λ (m : ℕ). get_or (set heads b v) m 0) at
            ∙ (get_or-set_same heads b v 0 (omega arith)
            ∙ (older_at n (suc place) keys links heads (omega arith) was place (omega arith)
            ∙ ap (λ (m : ℕ). last_where (is_in n m) (take place keys)) (sym is ∙ sym at))))
        | inr differs ↦
            (let apart : bucket ≡ b → ⊥ = eqb-false _ _ differs in
            let other : is_in n bucket (get_or keys place 0) ≡ false = false_from_ne_true _ (λ e. apart (sym (eqb-true _ _ e) ∙ sym is)) in
            get_or-set_other heads b bucket v 0 apart
            ∙ (was.newest bucket low ∙ last_no (is_in n bucket) keys place h other))
      ];
    }
