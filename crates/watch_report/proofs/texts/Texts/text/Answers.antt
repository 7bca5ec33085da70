use Rattle.std.proofs.Common.{rules, ◌≤◌, length}
use Rattle.watch_report.specs.TextEnds.{end_at}
use Rattle.watch_report.proofs.TextLemmas.{end_within}
use Rattle.watch_report.proofs.texts.Texts.text.Goals as goal

pub slice_bounds-result-end-2 : goal.slice_bounds-result-end-2
slice_bounds-result-end-2 c =
    let texts = c.args.self.now in
    let within : c.args.place ≤ length texts.ends.items = search rules in
    let end : end_at texts.ends.items c.args.place ≤ length texts.bytes.items = end_within texts.ends.items (length texts.bytes.items) c.args.place texts.in_order within in
    search (rules, end)
