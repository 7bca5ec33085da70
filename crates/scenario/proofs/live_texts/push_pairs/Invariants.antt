use Rattle.std.proofs.Common.{string_bytes}
use Rattle.scenario.specs.LiveLines.{pair_line}
use Rattle.scenario.proofs.LiveLemmas.{EachWritten}
use Rattle.scenario.proofs.live_texts.push_pairs.Given as goal

abbrev pub invariant-loop-pair : goal.invariant-loop-pair
invariant-loop-pair l = EachWritten (λ n pair. pair_line pair) 0 l.pairs l.pair-index (string_bytes l.fn.text) (string_bytes l.text)
