-- The place of a cause among others.
use Rattle.std.proofs.Common.{◌≡◌, ℕ, suc, ◌+◌, ◌≤◌, Bool, true, false, List, [], ◌∷◌, ◌++◌, None, Some, cond, length, not, ap, sym, ◌∙◌, refl, arith, ap₂}
use Rattle.std.specs.Prelude.{nat_lt, position}
use Rattle.std.specs.List.{insert, position_or_len}
use Rattle.std.proofs.lemmas.Bool.{ltb-false}
use Rattle.std.proofs.lemmas.List.{drop_all, take_all}
use Rattle.watch_report.specs.declared.cause_line.NumberedTally.{NumberedTally}
use Rattle.watch_report.specs.CauseLines.{comes_before, placed}

abbrev pub behind : NumberedTally → NumberedTally → Bool
behind one next = not (comes_before next one)

placed_at : (b : Bool) (one next : NumberedTally) (ones : List NumberedTally) → insert ones (position_or_len (behind one) ones) one ≡ placed one ones
    → insert (next ∷ ones) (cond (not (not b)) (1 + position_or_len (behind one) ones) 0) one ≡ cond b (next ∷ placed one ones) (one ∷ next ∷ ones)
placed_at true one next ones rest =
    let more : 1 + position_or_len (behind one) ones ≡ suc (position_or_len (behind one) ones) = omega arith in
    ap (λ (k : ℕ). insert (next ∷ ones) k one) more ∙ ap (λ (xs : List NumberedTally). next ∷ xs) rest
placed_at false one next ones rest = refl

pub is_placed : (one : NumberedTally) (ones : List NumberedTally) → insert ones (position_or_len (behind one) ones) one ≡ placed one ones
is_placed one [] = refl
is_placed one (next ∷ ones) = placed_at (comes_before next one) one next ones (is_placed one ones)

some_is : (b : Bool) (n at : ℕ) → cond b (Some n) None ≡ Some at → n ≡ at
some_is true n at is = cc
some_is false n at is = absurd cc

none_is : (b : Bool) (n : ℕ) → cond b (Some n) None ≡ None → b ≡ false
none_is true n is = absurd cc
none_is false n is = refl

-- put in front of the first that does not come before it
pub placed_in_front : (one : NumberedTally) (ones : List NumberedTally) (at : ℕ) → position (behind one) ones ≡ Some at → insert ones at one ≡ placed one ones
placed_in_front one ones at found =
    let first : ℕ = position_or_len (behind one) ones in
    ap (λ (k : ℕ). insert ones k one) (sym (some_is (nat_lt first (length ones)) first at found)) ∙ is_placed one ones

-- put behind all, if all come before it
pub placed_at_end : (one : NumberedTally) (ones : List NumberedTally) → position (behind one) ones ≡ None → ones ++ one ∷ [] ≡ placed one ones
placed_at_end one ones none =
    let first : ℕ = position_or_len (behind one) ones in
    let most : length ones ≤ first = ltb-false first (length ones) (none_is (nat_lt first (length ones)) first none) in
    ap₂ (λ (front back : List NumberedTally). front ++ one ∷ back) (sym (take_all first ones most)) (sym (drop_all first ones most))
    ∙ is_placed one ones
