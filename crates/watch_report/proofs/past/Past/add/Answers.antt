use Rattle.std.proofs.lemmas.Result.{on_ok_weaker}
use Rattle.watch_report.proofs.past.Past.add.Goals as goal

pub returns : goal.returns
returns c = λ records newest are by line.
    on_ok_weaker c.add-2.result (λ lines. record {
      notes = c.in_ok-add.ensures.ok records newest are.notes by;
      lines = lines;
    }) (c.add-2.ensures.ok records newest are.lines line)
