use Rattle.std.proofs.Common.{◌∙◌, ◌++◌, List, ℕ, ap, ap₂}
use Rattle.std.proofs.lemmas.Result.{on_ok_weaker}
use Rattle.watch_causes.specs.KnownFindings.{KnownEntry}
use Rattle.watch_report.specs.KnownLists.{known_lines}
use Rattle.watch_report.proofs.ResolvedLists.{same_lines}
use Rattle.watch_report.proofs.known_end.push_all.Goals as goal

pub returns : goal.returns
returns c = λ entries scheme trace verdicts has.
    on_ok_weaker c.push_known_lines.result
    (λ is.
    let by = c.entries.ensures entries scheme trace verdicts has in
    is
    ∙ ap (λ (t : List ℕ). c.args.text.now.items ++ t) (same_lines by.0 c.args.form c.args.file.now c.entries.result.now c.counts.result.now)
    ∙ ap₂ (λ (es : List KnownEntry) (ns : List ℕ). c.args.text.now.items ++ known_lines c.args.form c.args.file.now es ns) by.1 (c.counts.ensures entries scheme trace verdicts has))
    c.push_known_lines.ensures
