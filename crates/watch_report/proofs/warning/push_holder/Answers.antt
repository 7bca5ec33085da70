use Rattle.std.proofs.Common.{ℕ, ◌++◌, ap, ◌∙◌}
use Rattle.std.specs.Fmt.{decimal}
use Rattle.std.proofs.lemmas.Result.{on_ok_weaker}
use Rattle.watch_report.proofs.Spaced.{four_pieces}
use Rattle.watch_report.proofs.warning.push_holder.Goals as goal

pub returns : goal.returns
returns c =
    let hart = c.in_ok-push_decimal.ensures.ok ∙ ap (λ (n : ℕ). c.args.text.now.items ++ decimal n) c.from.ensures in
    record {
      ok = on_ok_weaker c.push-2.result
          (λ e. four_pieces _ _ _ _ _ _ _ _ _ hart c.in_ok-push.ensures.ok c.in_ok-push_entry.ensures.ok e)
          c.push-2.ensures.ok;
    }
