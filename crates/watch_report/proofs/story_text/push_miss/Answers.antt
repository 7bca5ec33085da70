use Rattle.std.proofs.Common.{◌∙◌, ◌++◌, List, ℕ, ap, sym, append_assoc, codes}
use Rattle.std.proofs.lemmas.Result.{on_ok_weaker}
use Rattle.watch_causes.specs.declared.reason.Reason.{Reason}
use Rattle.watch_report.specs.StoryTexts.{miss_text}
use Rattle.watch_report.specs.Warnings.{hexadecimal}
use Rattle.watch_report.proofs.story_text.push_miss.Goals as goal

pub returns-in_ok-push-in-OtherPages : goal.returns-in_ok-push-in-OtherPages
returns-in_ok-push-in-OtherPages c = record {
  ok = on_ok_weaker c.push_page.result
      (λ e. e ∙ ap (λ (t : List ℕ). t ++ hexadecimal c.args.warning.now.entry.page.base) c.in_ok-push-in-OtherPages.ensures.ok ∙ append_assoc c.args.text.now.items (codes ", not for page ") (hexadecimal c.args.warning.now.entry.page.base)
      ∙ ap (λ (r : Reason). c.args.text.now.items ++ miss_text c.args.warning.now r) (sym c.in-OtherPages.is))
      c.push_page.ensures.ok;
}
