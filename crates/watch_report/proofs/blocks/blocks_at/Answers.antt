use Rattle.std.proofs.Common.{◌≡◌, ◌+◌, ◌∙◌, ◌∷◌, ℕ, List, IfOk, length, drop, ap, subst}
use Rattle.pte.specs.declared.scheme.Scheme.{Scheme}
use Rattle.watch_causes.specs.declared.tally.Tally.{Tally}
use Rattle.watch_report.specs.declared.options.Form.{Form}
use Rattle.watch_report.specs.Forms.{at_most}
use Rattle.watch_report.specs.Reports.{blocks_by, record_blocks, tallies_after}
use Rattle.watch_report.specs.TraceText.{trace_of}
use Rattle.watch_report.specs.VerdictLines.{noted_by}
use Rattle.watch_report.proofs.blocks.blocks_at.Goals as goal

pub returns-in-Ok-clause-text : goal.returns-in-Ok-clause-text
returns-in-Ok-clause-text c = λ records given trigger past seen.
    let file = c.args.file.now in
    let form : Form = c.args.form in
    let most = c.args.most in
    let scheme = c.args.causes.now.scheme in
    let warnings = c.args.warnings.now in
    let newest = noted_by c.args.newest.now in
    let before : c.tallies-before.result.now ≡ tallies_after scheme records given = c.tallies-before.ensures (trace_of records) given seen in
    let after : c.tallies.result.now ≡ tallies_after scheme (newest ∷ records) (warnings ∷ given) =
    c.tallies.ensures (newest.made ∷ trace_of records) (warnings ∷ given) (c.in-Ok.ensures.ok (trace_of records) given seen)
    ∙ ap (λ (s : Scheme). tallies_after s (newest ∷ records) (warnings ∷ given)) c.record.ensures.scheme in
    let told : c.at_most-told.result.now ≡ at_most most (tallies_after scheme (newest ∷ records) (warnings ∷ given)) =
    c.at_most-told.ensures ∙ ap (λ (ts : List Tally). at_most most ts) after in
    let same : blocks_by form file (length c.tallies-before.result.now + 1) c.args.trigger newest records (drop (length c.tallies-before.result.now) c.at_most-told.result.now)
    ≡ record_blocks form most file scheme newest records warnings given =
    λ j. blocks_by form file (length (before j) + 1) (trigger j) newest records (drop (length (before j)) (told j)) in
    subst (λ (l : List ℕ). IfOk c.blocks_by.result (λ text. text.items ≡ l)) same (c.blocks_by.ensures records past)
