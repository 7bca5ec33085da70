use Rattle.std.proofs.Common.{◌≡◌, length, arith}
use Rattle.lines.proofs.LineLemmas.{lines_end, lines_more}
use Rattle.lines.proofs.answers.walk_lines.Goals as goal

pub loop-index-preserved : goal.loop-index-preserved
loop-index-preserved g c =
    lines_more c.args.scheme (g.W.Words.words c.args.words.now) c.args.root c.args.steps.now c.loop-index.index _ _ _ c.translate_in-answer.result
    c.loop-index-test.true c.translate_in-answer.ensures c.in_ok-push_line.ensures.ok c.loop-index.invariant

pub returns : goal.returns
returns g c =
    let end : c.loop-index.index ≡ length c.args.steps.now = omega (arith, c.loop-index-test.false, c.loop-index.auto.index-end) in
    lines_end c.args.scheme (g.W.Words.words c.args.words.now) c.args.root c.args.steps.now _ (rw end at c.loop-index.invariant)
