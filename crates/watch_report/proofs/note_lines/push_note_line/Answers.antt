use Rattle.std.proofs.lemmas.Result.{on_ok_weaker}
use Rattle.watch_report.proofs.Spaced.{six_pieces}
use Rattle.watch_report.proofs.note_lines.push_note_line.Goals as goal

pub returns : goal.returns
returns c = record {
  ok = on_ok_weaker c.push-2.result
      (λ e. six_pieces _ _ _ _ _ _ _ _ _ _ _ _ _ c.in_ok-push_stale_by.ensures.ok c.in_ok-push_found.ensures.ok c.in_ok-push_fenced.ensures.ok c.in_ok-push.ensures.ok c.in_ok-push_reaches.ensures.ok e)
      c.push-2.ensures.ok;
}
