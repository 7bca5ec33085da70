use Rattle.std.proofs.Common.{◌≡◌, ◌++◌, ◌∙◌, ap, length, arith}
use Rattle.scenario.specs.StaleLines.{last_line}
use Rattle.scenario.proofs.ItemLines.{lines_end, lines_more}
use Rattle.scenario.proofs.stale_items.stale_lines.Goals as goal

pub loop-at-preserved : goal.loop-at-preserved
loop-at-preserved c = lines_more c.args.items.now c.loop-at.at-index _ _ _ c.loop-at-test.true (rw c.at-item.is at c.in_ok-push_line.ensures.ok) c.loop-at.invariant

pub returns : goal.returns
returns c =
    let end : c.loop-at.at-index ≡ length c.args.items.now = omega (arith, c.loop-at-test.false, c.loop-at.auto.at-index-end) in
    c.in_ok-push_last.ensures.ok ∙ ap (λ t. t ++ last_line c.args.items.now) (lines_end c.args.items.now _ (rw end at c.loop-at.invariant))
