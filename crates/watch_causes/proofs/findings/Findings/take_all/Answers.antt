use Rattle.std.proofs.Common.{◌≡◌, ◌∙◌, ◌+◌, ◌<◌, ◌∷◌, ℕ, List, ap, arith, drop, get_or, length, sym}
use Rattle.std.proofs.lemmas.List.{at_drop_more}
use Rattle.watch_engine.specs.declared.warning.Warning.{Warning}
use Rattle.watch_causes.specs.declared.begun.Begun.{Begun}
use Rattle.watch_causes.specs.Begins.{begun_after, begun_with}
use Rattle.watch_causes.specs.Findings.{Judged}
use Rattle.watch_causes.specs.Judging.{judged, judged_after}
use Rattle.watch_causes.proofs.findings.Findings.take_all.Goals as goal

pub loop-warning-preserved : goal.loop-warning-preserved
loop-warning-preserved c = λ trace verdicts follows are.
    let before = c.loop-warning.invariant trace verdicts follows are in
    let w : Warning = c.warning-item.result in
    let warnings : List Warning = c.args.warnings.now in
    let i : ℕ = c.loop-warning.warning-index in
    let low : i < length warnings = omega arith in
    let newest = c.args.newest.now in
    let scheme = c.args.scheme in
    let with : Warning → List Judged = λ w. judged_after scheme newest trace (judged scheme newest trace w ∷ before.0) (drop (i + 1) warnings) in
    let step : judged_after scheme newest trace before.0 (drop i warnings) ≡ with (get_or warnings i w) =
    at_drop_more (judged_after scheme newest trace before.0) warnings i w low in (
      (judged scheme newest trace w ∷ before.0),
      (c.in_ok-take.ensures.findings trace before.0 follows before.1),
      (ap with c.warning-item.is ∙ (sym step ∙ before.2)),
      (λ begun has.
          let reached = before.3 begun has in
          let now : Warning → List Begun = λ w. begun_with newest trace before.0 reached.0 (judged scheme newest trace w) in
          let more : Warning → List Begun = λ w. begun_after scheme newest trace (judged scheme newest trace w ∷ before.0) (now w) (drop (i + 1) warnings) in
          let begin : begun_after scheme newest trace before.0 reached.0 (drop i warnings) ≡ more (get_or warnings i w) =
          at_drop_more (begun_after scheme newest trace before.0 reached.0) warnings i w low in (
            (now w),
            (c.in_ok-take.ensures.reached trace before.0 reached.0 follows before.1 reached.1),
            (ap more c.warning-item.is ∙ (sym begin ∙ reached.2)),
          )),
    )
