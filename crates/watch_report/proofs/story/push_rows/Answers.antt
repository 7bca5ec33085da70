use Rattle.std.proofs.Common.{rules, ◌≡◌, ◌∙◌, ◌<◌, ◌+◌, ◌∷◌, ◌++◌, [], ℕ, List, ap, length, drop}
use Rattle.std.proofs.lemmas.List.{drop_more}
use Rattle.watch_causes.specs.declared.stories.Part.{Part}
use Rattle.watch_report.specs.declared.story.StoryRow.{StoryRow}
use Rattle.watch_report.specs.ToldStories.{rows_text}
use Rattle.watch_report.proofs.StoryLemmas.{front_part, row_is_part, rows_more}
use Rattle.watch_report.proofs.story.push_rows.Goals as goal

pub loop-part-preserved : goal.loop-part-preserved
loop-part-preserved c = λ file records are.
    let at : ℕ = c.loop-part.part-index in
    let parts : List Part = c.args.parts.now in
    let within : at < length parts = search rules in
    let row : StoryRow = c.in_ok-row.row in
    let front : List StoryRow = c.loop-part.rows.items in
    let is = row_is_part file c.args.scheme records c.args.warning.now _ row (c.in_ok-row.ensures.line records are) c.in_ok-row.ensures.words (c.in_ok-row.ensures.text records are) in
    front_part file c.args.scheme records c.args.warning.now (drop at parts) _ (drop (at + 1) parts) (rows_text file front) _ _
    (drop_more parts at _ within)
    (ap (rows_text file) c.in_ok-push.ensures.items ∙ rows_more file front row ∙ ap (λ (t : List ℕ). rows_text file front ++ t) is)
    (c.loop-part.invariant file records are)
