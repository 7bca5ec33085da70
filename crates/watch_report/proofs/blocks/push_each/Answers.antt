use Rattle.std.proofs.Common.{rules, ◌≡◌, ◌<◌, ◌+◌, ◌∙◌, ◌++◌, ◌∷◌, ℕ, List, length, drop, ap, sym, append_assoc}
use Rattle.std.proofs.lemmas.List.{drop_more}
use Rattle.watch_report.specs.declared.cause_line.NumberedTally.{NumberedTally}
use Rattle.watch_report.specs.Forms.{total_as}
use Rattle.watch_report.specs.Reports.{notes_below, total_lines}
use Rattle.watch_report.specs.TraceText.{line_at}
use Rattle.watch_report.proofs.blocks.push_each.Goals as goal

pub loop-one-preserved : goal.loop-one-preserved
loop-one-preserved c = λ records are.
    let at : ℕ = c.loop-one.one-index in
    let ones : List NumberedTally = c.args.ones.now in
    let one : NumberedTally = c.one-item.result in
    let within : at < length ones = search rules in
    let before : List ℕ = c.loop-one.text.items in
    let lines : List NumberedTally → List ℕ = total_lines c.args.form c.args.file.now records c.args.founds.now in
    let rest : List ℕ = lines (drop (at + 1) ones) in
    let line : List ℕ = total_as c.args.form c.args.file.now (line_at records one.tally.example.number) one in
    let notes : List ℕ = notes_below c.args.form c.args.file.now records c.args.founds.now one in
    let more : c.push_total_as.new.text.items ≡ before ++ line =
    c.in_ok-push_total_as.ensures.ok ∙ (λ j. before ++ total_as c.args.form c.args.file.now (c.line-line.ensures records are j) one) in
    let below : c.push_notes_below.new.text.items ≡ (before ++ line) ++ notes =
    c.in_ok-push_notes_below.ensures.ok records are ∙ ap (λ (t : List ℕ). t ++ notes) more in
    let next : drop at ones ≡ one ∷ drop (at + 1) ones = drop_more ones at one within ∙ ap (λ (o : NumberedTally). o ∷ drop (at + 1) ones) (sym c.one-item.is) in
    ap (λ t. t ++ rest) (below ∙ append_assoc before line notes)
    ∙ (append_assoc before (line ++ notes) rest ∙ (ap (λ (os : List NumberedTally). before ++ lines os) (sym next) ∙ c.loop-one.invariant records are))
