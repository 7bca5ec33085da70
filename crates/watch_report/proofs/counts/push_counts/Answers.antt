use Rattle.std.proofs.Common.{◌+◌, ◌++◌, Bool, drop, map, ap, ◌∙◌}
use Rattle.watch_report.specs.Warnings.{verdict_counts_text, printed_count}
use Rattle.watch_report.proofs.CountLemmas.{no_more_counts, one_more_count}
use Rattle.watch_report.proofs.counts.push_counts.Goals as goal

pub loop-count-preserved : goal.loop-count-preserved
loop-count-preserved c =
    ap (λ (t : Bool). c.push_count.new.text.items ++ verdict_counts_text t (map printed_count (drop (c.loop-count.count-index + 1) c.args.counts.now))) c.is_none_yet-is_first.ensures
    ∙ one_more_count c.args.counts.now c.loop-count.count-index _ c.loop-count.is_first c.loop-count.text.items c.push_count.new.text.items _ c.loop-count-test.true c.in_ok-push_count.ensures.ok c.loop-count.invariant

pub returns : goal.returns
returns c = record { ok = no_more_counts c.args.counts.now c.loop-count.count-index c.loop-count.is_first _ _ c.loop-count-test.false c.loop-count.invariant }
