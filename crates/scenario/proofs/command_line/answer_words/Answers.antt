use Rattle.std.proofs.Common.{inl}
use Rattle.std.proofs.KnownBytes.{Keeps-refl}
use Rattle.scenario.proofs.AskLemmas.{none_asked, none_unasked, some_asked, some_unasked, unasked}
use Rattle.scenario.proofs.command_line.answer_words.Goals as goal

pub returns-in-Ok-Some-clause-asked : goal.returns-in-Ok-Some-clause-asked
returns-in-Ok-Some-clause-asked g c =
    let found = rw c.as_slice.ensures.value at c.in-Ok-Some.ensures in
    rw c.in-Ok.is (some_asked _ _ found _ c.in-Ok-Some.ask c.in-Ok-Some.field-0-is (inl c.on_ask.ensures))

pub returns-in-Ok-Some-clause-unasked : goal.returns-in-Ok-Some-clause-unasked
returns-in-Ok-Some-clause-unasked g c =
    let found = rw c.as_slice.ensures.value at c.in-Ok-Some.ensures in
    rw c.in-Ok.is (some_unasked _ _ found _ c.in-Ok-Some.ask c.in-Ok-Some.field-0-is)

pub returns-in-Ok-None-clause-asked : goal.returns-in-Ok-None-clause-asked
returns-in-Ok-None-clause-asked g c =
    let found = rw c.as_slice.ensures.value at c.in-Ok-None.ensures in
    rw c.in-Ok.is (none_asked _ _ found _ c.in-Ok-None.field-0-is)

pub returns-in-Ok-None-clause-unasked : goal.returns-in-Ok-None-clause-unasked
returns-in-Ok-None-clause-unasked g c =
    let found = rw c.as_slice.ensures.value at c.in-Ok-None.ensures in
    let ends = rw c.as_slice-in-Ok-None.ensures.value at c.answer_unasked.ensures in
    rw c.in-Ok.is (none_unasked _ _ found _ c.in-Ok-None.field-0-is ends)

pub returns-in-Err-clause-unasked : goal.returns-in-Err-clause-unasked
returns-in-Err-clause-unasked g c =
    rw c.in-Ok.is (unasked _ _ _ _ _ _ _ (Keeps-refl (g.W.Write.contents c.args.out.now)) c.report-in-Err.ensures)
