use Rattle.std.proofs.Common.{string_bytes}
use Rattle.lines.proofs.ReplyLemmas.{RepliesSoFar}
use Rattle.lines.proofs.replies.reply_lines.Given as goal

abbrev pub invariant-loop-index : goal.invariant-loop-index
invariant-loop-index l = RepliesSoFar l.replies l.index (string_bytes l.text)
