use Rattle.std.proofs.lemmas.List.Sorted.{answers_always}
use Rattle.std.proofs.lemmas.Result.{on_ok_weaker}
use Rattle.watch_report.specs.declared.note_group.NoteGroup.{NoteGroup}
use Rattle.watch_report.proofs.GroupOrder.{sorted_groups}
use Rattle.watch_report.proofs.note_groups.sort.Goals as goal

pub returns : goal.returns
returns c =
    let stable = c.sort_by_key.ensures.stable (λ (g : NoteGroup). record { 0 = g.findings }) (answers_always _ _ _ (λ f a r g called. called.met)) in
    on_ok_weaker c.sort_by_key.result
    (λ sorted. sorted_groups c.args.groups.now.items c.sort_by_key.new.self.items (sorted (λ (g : NoteGroup). record { 0 = g.findings }) (answers_always _ _ _ (λ f a r g called. called.met))) stable)
    c.sort_by_key.ensures.sorted
