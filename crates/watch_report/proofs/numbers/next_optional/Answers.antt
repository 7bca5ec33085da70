use Rattle.std.proofs.Common.{◌≡◌, ap, sym, subst, ◌∙◌, List, ℕ, Some, None, length, take, drop, true}
use Rattle.std.proofs.Common.{eqb}
use Rattle.std.specs.Cmp.Lexicographic.{pointwise}
use Rattle.watch_report.specs.Fields.{fields_of}
use Rattle.watch_report.proofs.DashLemmas.{dash_is_next}
use Rattle.watch_report.proofs.numbers.next_optional.Goals as goal

pub returns-in-Some : goal.returns-in-Some
returns-in-Some c =
    let text = c.args.text.now in
    let cases = c.in-Some.ensures.cases in
    let dash = subst (λ (d : List ℕ). pointwise eqb (take (length d) text) d ≡ true) c.as_slice.ensures cases.0 in
    let rest : c.in-Some.rest.now ≡ drop 2 text = subst (λ (d : List ℕ). c.in-Some.rest.now ≡ drop (length d) text) c.as_slice.ensures cases.1 in
    dash_is_next text dash ∙ ap (λ (r : List ℕ). Some (None, fields_of r)) (sym rest)
