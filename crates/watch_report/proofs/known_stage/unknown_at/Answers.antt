use Rattle.std.proofs.Common.{rules, Bool, not, ◌&&◌, ◌≡◌, ◌<◌, ◌≤◌, ◌+◌, ◌∙◌, ◌++◌, ◌∷◌, [], ℕ, List, length, drop, ap, subst, sym, append-nil}
use Rattle.std.proofs.lemmas.List.{drop_all, drop_more}
use Rattle.watch.specs.declared.trace.Verdict.TheVariants.{Used}
use Rattle.watch_causes.specs.Findings.{is_same_verdict}
use Rattle.watch_causes.specs.KnownFindings.{Sourced, sourced}
use Rattle.watch_causes.specs.KnownSoFar.{HasKnown}
use Rattle.watch_engine.specs.declared.warning.Warning.{Warning}
use Rattle.watch_report.specs.KnownVerdicts.{unknown_at, with_verdicts}
use Rattle.watch_report.specs.TraceText.{Noted, trace_of}
use Rattle.watch_report.specs.VerdictLines.{noted_by}
use Rattle.watch_report.proofs.KnownLemmas.{unknown_more, verdicts_more}
use Rattle.watch_report.proofs.known_stage.unknown_at.Goals as goal

pub loop-warning-preserved : goal.loop-warning-preserved
loop-warning-preserved c = λ entries scheme records before past has.
    let at : ℕ = c.loop-warning.warning-index in
    let warnings : List Warning = c.args.warnings.now in
    let w : Warning = c.warning-item.result in
    let newest : Noted = noted_by c.args.newest.now in
    let i = c.loop-warning.invariant entries scheme records before past has in
    let within : at < length warnings = search rules in
    let next : drop at warnings ≡ w ∷ drop (at + 1) warnings = drop_more warnings at w within ∙ ap (λ (v : Warning). v ∷ drop (at + 1) warnings) (sym c.warning-item.is) in
    let note = c.note.ensures records past in
    let by : List ℕ = c.note.result.now in
    let is_known = c.in_ok-is_known.ensures.known entries scheme (trace_of records) i.0 i.1 in
    let dropped = c.is_by_design-is_dropped.ensures ∙ ap (λ (k : Bool). k && not (is_same_verdict w.verdict Used)) is_known in (
      sourced scheme newest.made (trace_of records) w by ∷ i.0,
      c.in_ok-is_known.ensures.taken entries scheme (trace_of records) i.0 i.1,
      unknown_more entries scheme newest records (drop at warnings) (drop (at + 1) warnings) w by i.0 c.loop-warning.unknown.items _ _ c.is_by_design-is_dropped.result next note dropped c.in_ok-push_unknown.ensures i.2,
      verdicts_more scheme newest records (drop at warnings) (drop (at + 1) warnings) w by i.0 _ next note i.3,
    )

pub returns : goal.returns
returns c = λ entries scheme records before past has.
    let at : ℕ = c.loop-warning.warning-index in
    let warnings : List Warning = c.args.warnings.now in
    let newest : Noted = noted_by c.args.newest.now in
    let i = c.loop-warning.invariant entries scheme records before past has in
    let most : length warnings ≤ at = search rules in
    let none : drop at warnings ≡ [] = drop_all at warnings most in
    let unknown : List Warning = c.loop-warning.unknown.items in (
      sym (append-nil unknown) ∙ ap (λ (ws : List Warning). unknown ++ unknown_at entries scheme newest records ws i.0) (sym none) ∙ i.2,
      subst (λ (v : List Sourced). HasKnown entries scheme (trace_of records) v c.loop-warning.known) (ap (λ (ws : List Warning). with_verdicts scheme newest records ws i.0) (sym none) ∙ i.3) i.1,
    )
