use Rattle.std.proofs.Common.{◌≡◌, ◌≢◌, ◌<◌, ◌^◌, ◌++◌, ◌∷◌, [], List, length, ap, sym, subst, ◌∙◌, rules}
use Rattle.watch_report.specs.declared.lines.Run.{Run}
use Rattle.watch_report.specs.LineNumbers.{behind}
use Rattle.watch_report.proofs.RunLemmas.{new_row, run_at, same_row}
use Rattle.watch_report.proofs.lines.add_run.Goals as goal

pub returns-then-line_behind-line-clause-ok : goal.returns-then-line_behind-line-clause-ok
returns-then-line_behind-line-clause-ok c = λ records count newest are counts is.
    let runs = c.args.runs.now.items in
    let place = length c.as_slice-last.result.now in
    let same : c.line_behind.result ≡ c.args.line = search rules in
    same_row records count c.args.number runs newest c.line_behind.result place are counts (ap length c.as_slice-last.ensures.value)
    (λ d. c.line_behind.ensures d ∙ ap (λ (l : List Run). behind d l place c.args.number) c.as_slice-last.ensures.value) (same ∙ sym is)

pub returns-clause-ok : goal.returns-clause-ok
returns-clause-ok c = λ records count newest are counts is.
    let runs = c.args.runs.now.items in
    let fits : c.args.line < 2 ^ 64 = search rules in
    new_row records count c.args.number runs _ newest are counts
    (c.in_ok-push.ensures.items ∙ ap (λ n. runs ++ run_at c.args.number n ∷ []) (sym is)) (subst (λ n. n < 2 ^ 64) (sym is) fits)

pub returns-clause-same_run : goal.returns-clause-same_run
returns-clause-same_run c = λ d is.
    let runs = c.as_slice-last.ensures.value in
    let other : c.line_behind.result ≢ c.args.line = search rules in
    absurd (other (c.line_behind.ensures d ∙ (λ j. behind d (runs j) (length (runs j)) c.args.number) ∙ sym is))
