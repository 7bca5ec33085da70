use Rattle.std.proofs.Common.{rules, ◌≡◌, ◌<◌, ◌+◌, ◌∙◌, ◌++◌, ◌∷◌, ℕ, List, length, drop, ap, sym}
use Rattle.std.proofs.lemmas.List.{drop_more}
use Rattle.watch_causes.specs.declared.tally.Tally.{Tally}
use Rattle.watch_report.specs.Forms.{block_as}
use Rattle.watch_report.specs.declared.options.Form.{Form}
use Rattle.watch_report.specs.TraceText.{Noted}
use Rattle.watch_report.specs.VerdictLines.{noted_by}
use Rattle.watch_report.proofs.BlockLemmas.{block_of, front_block}
use Rattle.watch_report.proofs.blocks.push_blocks.Goals as goal

pub loop-place-preserved : goal.loop-place-preserved
loop-place-preserved c = λ records are.
    let place : ℕ = c.loop-place.place in
    let file : List ℕ = c.args.file.now in
    let form : Form = c.args.form in
    let tallies : List Tally = c.args.tallies.now in
    let t : Tally = c.index-tallies-place.result in
    let newest : Noted = noted_by c.args.newest.now in
    let front : List ℕ = c.loop-place.text.items in
    let within : place < length tallies = search rules in
    let next : drop place tallies ≡ t ∷ drop (place + 1) tallies = drop_more tallies place t within ∙ ap (λ (v : Tally). v ∷ drop (place + 1) tallies) (sym c.index-tallies-place.is) in
    let one : c.push_block_as.new.text.items ≡ front ++ block_of form file (place + 1) c.args.trigger newest records t =
    c.in_ok-push_block_as.ensures.ok ∙ (λ j. front ++ block_as form file (place + 1) t.cause (c.printed.ensures records are j) (c.note.ensures records are j) newest.by) in
    front_block form file (place + 1) c.args.trigger newest records (drop place tallies) t (drop (place + 1) tallies) front _ _ next one (c.loop-place.invariant records are)
