-- Rows by number, one more at a time.
use Rattle.std.proofs.Common.{◌≡◌, ◌∙◌, ℕ, suc, ◌+◌, List, ◌++◌, ap, append_assoc, arith, sym}
use Rattle.lines.specs.Rows.{rows_below}

pub rows_next : (row : ℕ → List ℕ) (n : ℕ) (before old new : List ℕ) → old ≡ before ++ rows_below row n → new ≡ old ++ row n → new ≡ before ++ rows_below row (n + 1)
rows_next row n before old new is e =
    let next : n + 1 ≡ suc n = omega arith in
    e ∙ ap (λ t. t ++ row n) is ∙ append_assoc before (rows_below row n) (row n) ∙ ap (λ k. before ++ rows_below row k) (sym next)
