use Rattle.std.proofs.Common.{rules, ◌≡◌, ◌<◌, ◌+◌, ◌∙◌, ◌++◌, ◌∷◌, ℕ, List, length, drop, ap, sym, append_assoc}
use Rattle.std.proofs.lemmas.List.{drop_more}
use Rattle.watch_engine.specs.declared.warning.Warning.{Warning}
use Rattle.watch_report.specs.Forms.{verdict_as}
use Rattle.watch_report.specs.TraceText.{Noted, note_at}
use Rattle.watch_report.specs.VerdictLines.{noted_by, printed_of, warning_lines}
use Rattle.watch_report.proofs.verdicts.push_warnings.Goals as goal

pub loop-warning-preserved : goal.loop-warning-preserved
loop-warning-preserved c = λ records are.
    let at : ℕ = c.loop-warning.warning-index in
    let warnings : List Warning = c.args.warnings.now in
    let w : Warning = c.warning-item.result in
    let within : at < length warnings = search rules in
    let before : List ℕ = c.loop-warning.text.items in
    let newest : Noted = noted_by c.args.newest.now in
    let lines : List Warning → List ℕ = warning_lines c.args.form c.args.file.now c.args.trigger newest records in
    let rest : List ℕ = lines (drop (at + 1) warnings) in
    let line : List ℕ = verdict_as c.args.form c.args.file.now (printed_of c.args.trigger newest records w) (note_at records w.stale_since) newest.by in
    let one : c.push_verdict_as.new.text.items ≡ before ++ line =
    c.in_ok-push_verdict_as.ensures.ok ∙ (λ j. before ++ verdict_as c.args.form c.args.file.now (c.printed-printed.ensures records are j) (c.note-stale_by.ensures records are j) newest.by) in
    let next : drop at warnings ≡ w ∷ drop (at + 1) warnings = drop_more warnings at w within ∙ ap (λ (v : Warning). v ∷ drop (at + 1) warnings) (sym c.warning-item.is) in
    ap (λ t. t ++ rest) one ∙ (append_assoc before line rest ∙ (ap (λ (ws : List Warning). before ++ lines ws) (sym next) ∙ c.loop-warning.invariant records are))
