-- The part of a text with this index is the line with the number after.
use Rattle.std.proofs.Common.{◌≡◌, ℕ, ◌+◌, ◌-◌, ◌<◌, ◌^◌, ◌==◌, true, zero, suc, List, ◌∷◌, [], length, get_or, Some, ap, sym, ◌∙◌, subst, arith}
use Rattle.std.specs.Prelude.{slice_get, min}
use Rattle.std.specs.List.{enumerate_from}
use Rattle.std.proofs.lemmas.List.FromFn.{get_or-enumerate_from, length-enumerate_from}
use Rattle.std.proofs.lemmas.List.Splits.{length-slice_split}
use Rattle.std.proofs.lemmas.List.Sums.{count_by-le-length}
use Rattle.checks.specs.Places.{begins_with, lines_of, IsKeyLine}

get_some : {X : Type 0} (xs : List X) (i : ℕ) (x : X) → i < length xs → x ≡ get_or xs i x → slice_get xs i ≡ Some x
get_some [] i x below e = absurd (omega (arith, below))
get_some (y ∷ ys) zero x below e = ap Some (sym e)
get_some (y ∷ ys) (suc i) x below e = get_some ys i x (omega (arith, below)) e

pub key_line : (text key : List ℕ) (index number : ℕ) (line : List ℕ) → index < length (lines_of text) → line ≡ get_or (lines_of text) index line → number ≡ index + 1 → begins_with key line ≡ true → IsKeyLine text key number
key_line text key index number line below is after begins =
    let back : index ≡ number - 1 = omega (arith, after) in
    record {
      from_one = omega (arith, after);
      line = line;
      is = subst (λ (i : ℕ). slice_get (lines_of text) i ≡ Some line) back (get_some (lines_of text) index line below is);
      begins = begins;
    }

-- the item of a turn over the parts and their indices
pub turn : (parts : List (List ℕ)) (k index : ℕ) (line : List ℕ) → (k < length (enumerate_from 0 parts)) × ((index, line) ≡ get_or (enumerate_from 0 parts) k (index, line))
    → (index < length parts) × (line ≡ get_or parts index line)
turn parts k index line t =
    let below : k < length parts = subst (λ n. k < n) (length-enumerate_from 0 parts) t.0 in
    let pair = t.1 ∙ get_or-enumerate_from 0 parts k (index, line) below in
    let first : index ≡ 0 + k = ap (λ (p : ℕ × List ℕ). p.0) pair in
    let same : index ≡ k = omega (arith, first) in
    (subst (λ n. n < length parts) (sym same) below, subst (λ n. line ≡ get_or parts n line) (sym same) (ap (λ (p : ℕ × List ℕ). p.1) pair))

-- the number after an index does not overflow
pub after_one : (text : List ℕ) (index number : ℕ) → index < length (lines_of text) → length text < 2 ^ 63 → number ≡ min (index + 1) (2 ^ 64 - 1) → number ≡ index + 1
after_one text index number below room is =
    let count = length-slice_split (λ byte. byte == 10) text in
    let most = count_by-le-length (λ byte. byte == 10) text in
    is ∙ (omega (arith, below, room, count, most))
