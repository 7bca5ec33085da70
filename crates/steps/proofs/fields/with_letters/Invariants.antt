use Rattle.std.proofs.Common.{◌≡◌, drop}
use Rattle.steps.specs.Fields.{with_letters}
use Rattle.steps.proofs.fields.with_letters.Given as goal

abbrev pub invariant-loop-letter : goal.invariant-loop-letter
invariant-loop-letter l = with_letters l.flags.0 (drop l.letter-index l.letters) ≡ with_letters 0 l.letters
