use Rattle.std.proofs.Common.{◌∙◌, ◌++◌, Bool, ap, sym, append_assoc, codes}
use Rattle.std.proofs.lemmas.Result.{on_ok_weaker}
use Rattle.watch_report.specs.StoryTexts.{missed_space}
use Rattle.watch_report.specs.Warnings.{hexadecimal}
use Rattle.watch_report.proofs.story_text.push_missed_space.Goals as goal

pub returns-else-global : goal.returns-else-global
returns-else-global c = record {
  ok = on_ok_weaker c.push_number.result
      (λ e. e ∙ append_assoc c.args.text.now.items (codes ", not for asid ") (hexadecimal c.args.asid) ∙ ap (λ (b : Bool). c.args.text.now.items ++ missed_space b c.args.asid) (sym c.if-global.false))
      c.push_number.ensures.ok;
}
