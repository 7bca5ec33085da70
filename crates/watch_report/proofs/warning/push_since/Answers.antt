use Rattle.std.proofs.lemmas.Result.{on_ok_weaker}
use Rattle.watch_report.proofs.Spaced.{five_pieces}
use Rattle.watch_report.proofs.warning.push_since.Goals as goal

pub returns : goal.returns
returns c = record {
  ok = on_ok_weaker c.push-2.result
      (λ e. five_pieces _ _ _ _ _ _ _ _ _ _ _ c.in_ok-push_scoped.ensures.ok c.in_ok-push.ensures.ok c.in_ok-push_decimal.ensures.ok c.in_ok-push_by.ensures.ok e)
      c.push-2.ensures.ok;
}
