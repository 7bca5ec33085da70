use Rattle.std.proofs.Common.{◌∙◌, ◌<◌, arith, length, sym}
use Rattle.std.proofs.lemmas.List.{at_drop_more}
use Rattle.watch.specs.WorkedTraces.{recorded}
use Rattle.watch_causes.proofs.Telling.{under_scheme}
use Rattle.watch_causes.proofs.stories.last_warnings.Goals as goal

pub loop-made-preserved : goal.loop-made-preserved
loop-made-preserved c =
    let before = c.loop-made.invariant in
    let low : c.loop-made.made-index < length c.args.records.now = omega arith in (
      _,
      c.in_ok-last.ensures.ok before.0 before.1,
      c.taken.ensures.scheme ∙ before.2,
      under_scheme c.loop-made.watch.scheme c.args.scheme before.2 (c.in_ok-last.ensures.warnings before.0 before.1),
      sym (at_drop_more (recorded before.0) c.args.records.now c.loop-made.made-index _ low) ∙ before.4,
    )
