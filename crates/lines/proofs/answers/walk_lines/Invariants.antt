use Rattle.std.proofs.Common.{string_bytes}
use Rattle.lines.proofs.LineLemmas.{LinesSoFar}
use Rattle.lines.proofs.answers.walk_lines.Given as goal

abbrev pub invariant-loop-index : goal.invariant-loop-index
invariant-loop-index g l = LinesSoFar l.scheme (g.W.Words.words l.words) l.root l.steps l.index (string_bytes l.text)
