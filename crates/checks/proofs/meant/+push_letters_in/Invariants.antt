use Rattle.std.proofs.Common.{length}
use Rattle.checks.proofs.meant.+push_letters_in.Given as goal

abbrev pub decreases-push_letters_in : goal.decreases-push_letters_in
decreases-push_letters_in l = length l.letters.now
