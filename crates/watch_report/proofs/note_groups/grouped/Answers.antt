use Rattle.std.proofs.Common.{rules, ◌≡◌, ◌<◌, ◌∙◌, ◌+◌, ◌∷◌, ℕ, List, ap, length, subst, sym, take}
use Rattle.std.specs.Prelude.{reverse}
use Rattle.std.proofs.lemmas.List.{take_all}
use Rattle.watch_report.specs.declared.found.Found.{Found}
use Rattle.watch_report.specs.GroupsSoFar.{AreGroups}
use Rattle.watch_report.specs.TraceText.{note_at}
use Rattle.watch_report.proofs.NoteGroupLemmas.{reverse_more}
use Rattle.watch_report.proofs.note_groups.grouped.Goals as goal

pub loop-found-init : goal.loop-found-init
loop-found-init c = λ records are. c.new-groups.ensures (note_at records)

pub loop-found-preserved : goal.loop-found-preserved
loop-found-preserved c = λ records are.
    let at : ℕ = c.loop-found.found-index in
    let founds : List Found = c.args.founds.now in
    let f : Found = c.found-item.result in
    let within : at < length founds = search rules in
    let more : f ∷ reverse (take at founds) ≡ reverse (take (at + 1) founds) =
    ap (λ (g : Found). g ∷ reverse (take at founds)) c.found-item.is ∙ reverse_more founds at f within in
    subst (λ (before : List Found). AreGroups (note_at records) before c.add.new.self) more
    (c.in_ok-add.ensures (note_at records) (reverse (take at founds)) (c.loop-found.invariant records are) (sym (c.note.ensures records are)))

pub returns : goal.returns
returns c = λ records are.
    let all : take c.loop-found.found-index c.args.founds.now ≡ c.args.founds.now = take_all c.loop-found.found-index c.args.founds.now (search rules) in
    subst (λ (founds : List Found). AreGroups (note_at records) (reverse founds) c.loop-found.groups) all (c.loop-found.invariant records are)
