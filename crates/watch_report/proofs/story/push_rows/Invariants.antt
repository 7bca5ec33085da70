use Rattle.std.proofs.Common.{◌≡◌, ◌++◌, ℕ, List, drop}
use Rattle.watch_report.specs.Past.{ArePast}
use Rattle.watch_report.specs.StoryTexts.{parts_text}
use Rattle.watch_report.specs.ToldStories.{rows_text}
use Rattle.watch_report.specs.TraceText.{Noted}
use Rattle.watch_report.proofs.story.push_rows.Given as goal

abbrev pub invariant-loop-part : goal.invariant-loop-part
invariant-loop-part l =
    (file : List ℕ) (records : List Noted) → ArePast records l.past
    → rows_text file l.rows.items ++ parts_text file l.scheme records l.warning (drop l.part-index l.parts) ≡ rows_text file l.fn.rows.items ++ parts_text file l.scheme records l.warning l.parts
