-- The first unused frame, looked for one by one.
use Rattle.std.proofs.Common.{◌≡◌, ℕ, suc, ◌+◌, ◌-◌, ◌<◌, true, false, cond, Option, Some, None, is_some, ap, sym, ◌∙◌, refl, arith}
use Rattle.std.specs.Prelude.{is_none}
use Rattle.spaces.specs.Holders.{Holders, first_unused}

pub unused-step : (holders : Holders) (count n first : ℕ) → n < count → is_none (holders (first + n)) ≡ false
    → first_unused holders (count - (n + 1)) (first + (n + 1)) ≡ first_unused holders (count - n) (first + n)
unused-step holders count n first less taken =
    let next : first + (n + 1) ≡ first + n + 1 = omega arith in
    let steps : suc (count - (n + 1)) ≡ count - n = omega arith in
    ap (first_unused holders (count - (n + 1))) next
    ∙ ap (λ b. cond b (Some (first + n)) (first_unused holders (count - (n + 1)) (first + n + 1))) (sym taken)
    ∙ ap (λ k. first_unused holders k (first + n)) steps

pub none-of : {A : Type 0} (o : Option A) → is_some o ≡ true → is_none o ≡ false
none-of None e = absurd (let bad : false ≡ true = e in cc)
none-of (Some x) e = refl
