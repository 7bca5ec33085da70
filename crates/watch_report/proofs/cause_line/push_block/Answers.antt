use Rattle.std.proofs.lemmas.Result.{on_ok_weaker}
use Rattle.watch_report.proofs.Spaced.{four_pieces}
use Rattle.watch_report.proofs.cause_line.push_block.Goals as goal

pub returns : goal.returns
returns c = record {
  ok = on_ok_weaker c.push-2.result
      (λ e. four_pieces _ _ _ _ _ _ _ _ _ c.in_ok-push_warning.ensures.ok c.in_ok-push.ensures.ok c.in_ok-push_numbered.ensures.ok e)
      c.push-2.ensures.ok;
}
