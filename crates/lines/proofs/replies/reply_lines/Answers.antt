use Rattle.std.proofs.Common.{◌≡◌, length, arith}
use Rattle.lines.proofs.ReplyLemmas.{replies_end, replies_more}
use Rattle.lines.proofs.replies.reply_lines.Goals as goal

pub loop-index-preserved : goal.loop-index-preserved
loop-index-preserved c =
    replies_more c.args.replies.now c.loop-index.index _ _ _ c.loop-index-test.true (rw c.index-replies-index.is at c.in_ok-push_reply_line.ensures.ok) c.loop-index.invariant

pub returns : goal.returns
returns c =
    let end : c.loop-index.index ≡ length c.args.replies.now = omega (arith, c.loop-index-test.false, c.loop-index.auto.index-end) in
    replies_end c.args.replies.now _ (rw end at c.loop-index.invariant)
