use Rattle.std.proofs.Common.{◌≡◌, ◌∙◌, List, ap, subst}
use Rattle.std.proofs.lemmas.Result.{on_ok_weaker}
use Rattle.watch_causes.specs.KnownSoFar.{HasKnown}
use Rattle.watch_engine.specs.declared.warning.Warning.{Warning}
use Rattle.watch_report.specs.KnownVerdicts.{unknown_at, with_verdicts}
use Rattle.watch_report.specs.TraceText.{Noted, trace_of}
use Rattle.watch_report.specs.VerdictLines.{noted_by}
use Rattle.watch_report.proofs.known_stage.drop_some.Goals as goal

pub returns : goal.returns
returns c = λ entries scheme records before past has.
    let newest : Noted = noted_by c.args.newest.now in
    let warnings : List Warning = c.args.warnings.now.items in
    let both = c.in_ok-unknown.ensures entries scheme records before past has in
    let told : c.in_ok-unknown.unknown.items ≡ unknown_at entries scheme newest records warnings before =
    both.0 ∙ ap (λ (l : List Warning). unknown_at entries scheme newest records l before) c.as_slice.ensures.value in
    let kept = subst (λ (l : List Warning). HasKnown entries scheme (trace_of records) (with_verdicts scheme newest records l before) c.unknown_at.new.known) c.as_slice.ensures.value both.1 in
    on_ok_weaker c.add.result (λ more. (told, more)) (c.add.ensures entries scheme (trace_of records) (with_verdicts scheme newest records warnings before) kept)
