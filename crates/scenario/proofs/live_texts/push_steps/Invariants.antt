use Rattle.std.proofs.Common.{string_bytes}
use Rattle.scenario.specs.LiveLines.{live_line}
use Rattle.scenario.proofs.LiveLemmas.{EachWritten}
use Rattle.scenario.proofs.live_texts.push_steps.Given as goal

abbrev pub invariant-loop-index : goal.invariant-loop-index
invariant-loop-index l = EachWritten (live_line l.whose) 1 l.replies l.index (string_bytes l.fn.text) (string_bytes l.text)
