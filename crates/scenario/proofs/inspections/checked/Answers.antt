use Rattle.std.proofs.Common.{◌≡◌, length, rules}
use Rattle.std.specs.Prelude.{string_bytes, vec_len}
use Rattle.checks.specs.Told.{fault_of}
use Rattle.scenario.proofs.OutcomeLemmas.{checked_so, told_of}
use Rattle.scenario.proofs.inspections.checked.Goals as goal

pub returns : goal.returns
returns c =
    let file = c.args.file.now in
    let text = c.args.text.now in
    let checked = c.in_ok-checked.checked in
    let found = c.in_ok-checked.ensures in
    let many : vec_len checked.told ≡ length checked.told.items = search rules in
    let tells = told_of file text (fault_of text) checked.fault (string_bytes checked.text) checked.told.items checked.notes.items _ many found.fault found.told found.in_order found.noted found.notes_in_order found.text in
    rw c.finding_of.ensures (checked_so file text checked.fault (string_bytes checked.text) found.fault tells)
