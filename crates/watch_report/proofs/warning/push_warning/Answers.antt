use Rattle.std.proofs.lemmas.Result.{on_ok_weaker}
use Rattle.watch_report.proofs.Spaced.{four_pieces}
use Rattle.watch_report.proofs.warning.push_warning.Goals as goal

pub returns : goal.returns
returns c = record {
  ok = on_ok_weaker c.push_end.result
      (λ e. four_pieces _ _ _ _ _ _ _ _ _ c.in_ok-push_verdict.ensures.ok c.in_ok-push_holder.ensures.ok c.in_ok-push_since.ensures.ok e)
      c.push_end.ensures.ok;
}
