use Rattle.std.proofs.Common.{◌≡◌, ◌++◌, List, drop}
use Rattle.watch_report.specs.Past.{ArePast}
use Rattle.watch_report.specs.StoryTexts.{parts_text}
use Rattle.watch_report.specs.TraceText.{Noted}
use Rattle.watch_report.proofs.story_text.push_parts.Given as goal

abbrev pub invariant-loop-part : goal.invariant-loop-part
invariant-loop-part l =
    (records : List Noted) → ArePast records l.past
    → l.text.items ++ parts_text l.file l.scheme records l.warning (drop l.part-index l.parts) ≡ l.fn.text.items ++ parts_text l.file l.scheme records l.warning l.parts
