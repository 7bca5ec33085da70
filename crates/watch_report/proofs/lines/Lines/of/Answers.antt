use Rattle.std.proofs.Common.{◌≡◌, ◌<◌, ◌∙◌, ap, sym, subst, arith, rules}
use Rattle.watch_report.specs.LineNumbers.{AreRuns}
use Rattle.watch_report.specs.TraceText.{line_at}
use Rattle.watch_report.proofs.RunLemmas.{line_found, no_line_at_zero, no_line_beyond}
use Rattle.watch_report.proofs.lines.Lines.of.Goals as goal

pub returns-then-number-eq0 : goal.returns-then-number-eq0
returns-then-number-eq0 c = λ records are.
    let none : c.args.number ≡ 0 = search rules in
    sym (ap (line_at records) none ∙ no_line_at_zero records)

pub returns-then-number-self : goal.returns-then-number-self
returns-then-number-self c = λ records are.
    let beyond : c.args.self.now.count < c.args.number = search rules in
    sym (no_line_beyond records c.args.number (omega (arith, beyond, are.runs.count_is)))

pub returns : goal.returns
returns c = λ records are.
    line_found records c.args.self.now.count _ c.count_up_to.result c.args.number c.line_behind.result
    (subst (AreRuns records c.args.self.now.count) (sym c.as_slice-runs.ensures.value) are.runs) c.count_up_to.ensures.place c.count_up_to.ensures.within c.line_behind.ensures (search rules) (search rules)
