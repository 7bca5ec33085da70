-- Taking the oldest of the requests that wait leaves the rest of them.
use Rattle.std.proofs.Common.{◌≡◌, ◌∙◌, sym, ap, ◌+◌, ◌<◌, ◌++◌, List, [], ◌∷◌, length, arith, append_assoc}
use mathlib.Core.List.{IsPrefix}
use Rattle.shoot.specs.Request.{Request}

-- what waits begins what the receiver's end knows, and what it knew begins with what it took: so
-- this was the first that waits
pub after_take : (taken waiting all old new : List Request) (request : Request) → taken ++ waiting ≡ all → IsPrefix waiting old → 0 < length waiting
    → IsPrefix old (request ∷ new)
    → (rest : List Request) × ((taken ++ request ∷ []) ++ rest ≡ all) × IsPrefix rest new × (length rest + 1 ≡ length waiting)
after_take taken [] all old new request whole begins some oldest = absurd (omega arith)
after_take taken (x ∷ xs) all [] new request whole begins some oldest = let none = begins.1 in absurd (cc)
after_take taken (x ∷ xs) all (y ∷ ys) new request whole begins some oldest =
    let known = begins.1 in
    let taken-first = oldest.1 in
    let same : x ≡ request = cc in
    let tail : xs ++ begins.0 ≡ ys = cc in
    let tail' : ys ++ oldest.0 ≡ new = cc in (
      xs,
      append_assoc taken (request ∷ []) xs ∙ (ap (λ (z : Request). taken ++ z ∷ xs) (sym same) ∙ whole),
      (begins.0 ++ oldest.0, sym (append_assoc xs begins.0 oldest.0) ∙ (ap (λ (zs : List Request). zs ++ oldest.0) tail ∙ tail')),
      omega arith,
    )
