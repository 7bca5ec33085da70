use Rattle.watch_report.proofs.NoteLineLemmas.{no_more_items, one_more_item}
use Rattle.watch_report.proofs.note_json.add_items.Goals as goal

pub loop-number-preserved : goal.loop-number-preserved
loop-number-preserved c =
    one_more_item c.args.numbers.now c.loop-number.number-index _ c.loop-number.object c.item.new.self _ c.loop-number-test.true c.in_ok-item.ensures.ok c.loop-number.invariant

pub returns : goal.returns
returns c = record { ok = no_more_items c.args.numbers.now c.loop-number.number-index _ _ c.loop-number-test.false c.loop-number.invariant }
