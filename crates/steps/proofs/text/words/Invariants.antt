use Rattle.std.proofs.Common.{◌≡◌, ◌++◌, length}
use Rattle.steps.specs.Words.{words_of}
use Rattle.steps.proofs.StepLemmas.{texts}
use Rattle.steps.proofs.text.words.Given as goal

abbrev pub invariant-loop-word : goal.invariant-loop-word
invariant-loop-word l = texts l.words.items ++ words_of l.rest ≡ words_of l.fn.text

abbrev pub decreases-loop-word : goal.decreases-loop-word
decreases-loop-word l = length l.rest
