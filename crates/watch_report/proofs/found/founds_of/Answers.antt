use Rattle.std.proofs.Common.{rules, ◌≡◌, ◌≤◌, ◌∙◌, ◌++◌, [], List, ap, append-nil, drop, length, sym}
use Rattle.std.proofs.lemmas.List.{drop_all}
use Rattle.watch_report.specs.declared.found.Found.{Found}
use Rattle.watch_report.specs.NoteGroups.{founds_of}
use Rattle.watch_report.proofs.NoteGroupLemmas.{no_reaches}
use Rattle.watch_report.proofs.found.founds_of.Goals as goal

pub returns-in_default : goal.returns-in_default
returns-in_default c =
    let founds : List Found = c.loop-place.founds.items in
    let rest = drop c.loop-place.place c.args.begun.now in
    let none : length c.args.reaches.now ≤ c.loop-place.place = search rules in
    let done : founds_of c.args.tallies.now rest (drop c.loop-place.place c.args.reaches.now) ≡ [] =
    ap (founds_of c.args.tallies.now rest) (drop_all c.loop-place.place c.args.reaches.now none) ∙ no_reaches c.args.tallies.now rest in
    sym (append-nil founds) ∙ (ap (λ (fs : List Found). founds ++ fs) (sym done) ∙ c.loop-place.invariant)
