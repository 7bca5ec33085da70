-- Texts of the elements of a list, one after the other.
use Rattle.std.proofs.Common.{◌≡◌, ℕ, ◌+◌, ◌<◌, List, [], ◌∷◌, ◌++◌, length, get_or, drop, map, refl, sym, ap, ◌∙◌, append_assoc, append-nil, Vec, Global, arith}
use Rattle.std.proofs.lemmas.List.{drop_more}
use Rattle.std.proofs.Math.Seq.{drop-length}
use Rattle.std.specs.Fmt.{decimal}
use Rattle.harts.specs.declared.live_reply.LiveReply.{LiveReply}
use Rattle.scenario.specs.LiveLines.{each_from, scripts_lines, steps_lines}

-- what is written so far, and then the texts of the rest, is what was there and then the texts of
-- all
abbrev pub EachWritten : {X : Type 0} → (ℕ → X → List ℕ) → ℕ → List X → ℕ → List ℕ → List ℕ → Type 0
EachWritten text n xs i old front = old ++ each_from text n xs ≡ front ++ each_from text (i + n) (drop i xs)

pub each_more : {X : Type 0} (text : ℕ → X → List ℕ) (n : ℕ) (xs : List X) (i : ℕ) (old front new : List ℕ) (d : X) → i < length xs → new ≡ front ++ text (i + n) (get_or xs i d)
    → EachWritten text n xs i old front → EachWritten text n xs (i + 1) old new
each_more text n xs i old front new d lt e so_far =
    let next : i + n + 1 ≡ i + 1 + n = omega arith in
    so_far ∙ rw (drop_more xs i d lt, e, ← next) (sym (append_assoc front (text (i + n) (get_or xs i d)) (each_from text (i + n + 1) (drop (i + 1) xs))))

pub each_end : {X : Type 0} (text : ℕ → X → List ℕ) (n : ℕ) (xs : List X) (old front : List ℕ) → EachWritten text n xs (length xs) old front → front ≡ old ++ each_from text n xs
each_end text n xs old front so_far = sym (so_far ∙ rw (drop-length xs) (append-nil front))

each_from-map : {X Y : Type 0} (text : ℕ → Y → List ℕ) (f : X → Y) (n : ℕ) (xs : List X) → each_from text n (map f xs) ≡ each_from (λ k x. text k (f x)) n xs
each_from-map text f n [] = refl
each_from-map text f n (x ∷ xs) = ap (λ rest. text n (f x) ++ rest) (each_from-map text f (n + 1) xs)

-- the scripts, each in a vector
abbrev pub ScriptsWritten : List (Vec LiveReply Global) → ℕ → List ℕ → List ℕ → Type 0
ScriptsWritten scripts i old front = EachWritten (λ hart (replies : Vec LiveReply Global). steps_lines (decimal hart) replies.items) 0 scripts i old front

pub scripts_end : (scripts : List (Vec LiveReply Global)) (old front : List ℕ) → ScriptsWritten scripts (length scripts) old front
    → front ≡ old ++ scripts_lines (map (λ replies. replies.items) scripts)
scripts_end scripts old front so_far =
    each_end (λ hart (replies : Vec LiveReply Global). steps_lines (decimal hart) replies.items) 0 scripts old front so_far
    ∙ ap (λ lines. old ++ lines) (sym (each_from-map (λ hart replies. steps_lines (decimal hart) replies) (λ (replies : Vec LiveReply Global). replies.items) 0 scripts))
