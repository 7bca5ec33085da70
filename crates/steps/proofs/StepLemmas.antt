-- Lists of words, as the crates above see them too.
use Rattle.std.proofs.Common.{ℕ, List, map, Bor}

-- the words that references point to
abbrev pub texts : List (Bor (List ℕ)) → List (List ℕ)
texts ws = map (λ word. word.now) ws
