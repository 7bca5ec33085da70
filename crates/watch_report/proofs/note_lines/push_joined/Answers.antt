use Rattle.watch_report.proofs.NoteLineLemmas.{no_more_numbers, one_more_number}
use Rattle.watch_report.proofs.note_lines.push_joined.Goals as goal

pub loop-number-preserved : goal.loop-number-preserved
loop-number-preserved c =
    one_more_number c.args.numbers.now c.loop-number.number-index _ c.loop-number.is_first c.loop-number.text.items c.push_next.new.text.items _ c.loop-number-test.true c.in_ok-push_next.ensures.ok
    c.loop-number.invariant

pub returns : goal.returns
returns c = record { ok = no_more_numbers c.args.numbers.now c.loop-number.number-index c.loop-number.is_first _ _ c.loop-number-test.false c.loop-number.invariant }
