use Rattle.std.proofs.Common.{rules, ◌<◌, ◌+◌, ℕ, List, length, drop}
use Rattle.std.proofs.lemmas.List.{drop_more}
use Rattle.watch_causes.specs.declared.stories.Part.{Part}
use Rattle.watch_report.proofs.StoryLemmas.{front_part}
use Rattle.watch_report.proofs.story_text.push_parts.Goals as goal

pub loop-part-preserved : goal.loop-part-preserved
loop-part-preserved c = λ records are.
    let at : ℕ = c.loop-part.part-index in
    let parts : List Part = c.args.parts.now in
    let within : at < length parts = search rules in
    front_part c.args.file.now c.args.scheme records c.args.warning.now (drop at parts) _ (drop (at + 1) parts) _ _ _
    (drop_more parts at _ within) (c.in_ok-push_part.ensures.ok records are) (c.loop-part.invariant records are)
