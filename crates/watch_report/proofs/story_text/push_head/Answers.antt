use Rattle.std.proofs.Common.{◌∙◌, ◌++◌, codes}
use Rattle.std.proofs.lemmas.Result.{on_ok_weaker}
use Rattle.watch_report.specs.StoryTexts.{header_text}
use Rattle.watch_report.specs.Warnings.{warning_line}
use Rattle.watch_report.proofs.Spaced.{three_pieces}
use Rattle.watch_report.proofs.story_text.push_head.Goals as goal

pub returns : goal.returns
returns c = record {
  ok = λ records are. on_ok_weaker c.push_warning.result
      (λ e. three_pieces c.args.text.now.items (header_text c.args.header) (codes "\n# ") _ _ _ _ c.in_ok-push_header.ensures.ok c.in_ok-push.ensures.ok
      (e ∙ (λ j. c.push.new.text.items ++ warning_line c.args.file.now (c.printed.ensures records are j) (c.note.ensures records are j) c.args.newest.now.by.now)))
      c.push_warning.ensures.ok;
}
