-- The table that a word points to, by its bits.
use Rattle.std.proofs.Common.{◌≡◌, ℕ, ◌/◌, ◌%◌, ◌^◌, ◌<◌, ◌&&◌, ◌||◌, cond, eqb, Some, None, arith}
use Rattle.std.proofs.lemmas.Bool.Decides.{nat_tests}
use Rattle.pte.specs.Entry.{kind_of}
use Rattle.walk.specs.Pointers.{pointed}

pub points : (word : ℕ) → word < 2 ^ 64 → pointed (Some word) ≡ cond (eqb (word / 2 ^ 54) 0 && (eqb (word % 256) 0x01 || eqb (word % 256) 0x21)) (Some (word / 2 ^ 10)) None
unfolding kind_of
points word h = grind (arith, nat_tests)

pub ruleset targets = (points)
