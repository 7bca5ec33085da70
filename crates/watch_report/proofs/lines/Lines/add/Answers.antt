use Rattle.std.proofs.Common.{◌≡◌, ◌<◌, ◌+◌, length, sym, ◌∙◌, rules}
use Rattle.watch_report.proofs.RunLemmas.{is_next, next_row}
use Rattle.watch_report.proofs.lines.Lines.add.Goals as goal

pub returns-then-not-is_empty-clause-ok : goal.returns-then-not-is_empty-clause-ok
returns-then-not-is_empty-clause-ok c = λ records newest are is.
    let old = c.args.self.now in
    let counts : c.in-Some.number ≡ old.count + 1 = search rules in
    let some : 0 < length old.runs.items = search rules in
    let at : old.next ≡ c.args.line = search rules in
    let runs = next_row records old.count c.in-Some.number old.next old.runs.items newest are.runs are.next counts some (at ∙ sym is) in
    record { runs = runs; next = is_next records c.in-Some.number c.args.line old.runs.items newest runs is }

pub returns-clause-ok : goal.returns-clause-ok
returns-clause-ok c = λ records newest are is.
    let counts : c.in-Some.number ≡ c.args.self.now.count + 1 = search rules in
    let runs = c.in_ok-add_run.ensures.ok records c.args.self.now.count newest are.runs counts is in
    record { runs = runs; next = is_next records c.in-Some.number c.args.line _ newest runs is }
