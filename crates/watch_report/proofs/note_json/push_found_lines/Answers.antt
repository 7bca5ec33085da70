use Rattle.std.proofs.Common.{rules, ◌≡◌, ◌<◌, ◌+◌, ◌∙◌, ◌++◌, ◌∷◌, ℕ, List, length, drop, ap, sym, append_assoc}
use Rattle.std.proofs.lemmas.List.{drop_more}
use Rattle.watch_report.specs.declared.found.Found.{Found}
use Rattle.watch_report.specs.NoteObjects.{found_line, found_lines}
use Rattle.watch_report.proofs.note_json.push_found_lines.Goals as goal

pub loop-found-preserved : goal.loop-found-preserved
loop-found-preserved c = λ records are.
    let at : ℕ = c.loop-found.found-index in
    let founds : List Found = c.args.founds.now in
    let f : Found = c.found-item.result in
    let within : at < length founds = search rules in
    let before : List ℕ = c.loop-found.text.items in
    let lines : List Found → List ℕ = found_lines c.args.file.now records in
    let line : List ℕ = found_line c.args.file.now records f in
    let more : c.push_found_line.new.text.items ≡ before ++ line = c.in_ok-push_found_line.ensures.ok records are in
    let next : drop at founds ≡ f ∷ drop (at + 1) founds = drop_more founds at f within ∙ ap (λ (o : Found). o ∷ drop (at + 1) founds) (sym c.found-item.is) in
    ap (λ t. t ++ lines (drop (at + 1) founds)) more
    ∙ (append_assoc before line (lines (drop (at + 1) founds)) ∙ (ap (λ (fs : List Found). before ++ lines fs) (sym next) ∙ c.loop-found.invariant records are))
