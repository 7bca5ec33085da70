use Rattle.std.proofs.Common.{rules, ◌<◌, ◌+◌, ℕ, List, length, drop}
use Rattle.std.proofs.lemmas.List.{drop_more}
use Rattle.watch_report.proofs.ShownLemmas.{front_byte}
use Rattle.watch_report.proofs.shown.push_each.Goals as goal

pub loop-byte-preserved : goal.loop-byte-preserved
loop-byte-preserved c =
    let at : ℕ = c.loop-byte.byte-index in
    let note : List ℕ = c.args.note.now in
    let within : at < length note = search rules in
    front_byte _ (drop at note) (drop (at + 1) note) _ _ _ (drop_more note at _ within) c.in_ok-push_byte.ensures.ok c.loop-byte.invariant
