use Rattle.std.proofs.Common.{◌≡◌, ◌∙◌, ◌++◌, ℕ, List, OnOk, ap, subst}
use Rattle.std.specs.Prelude.{map}
use Rattle.watch_causes.specs.declared.tally.Tally.{Tally}
use Rattle.watch_causes.specs.Begins.{begun_of}
use Rattle.watch_causes.specs.Reaches.{reach_of}
use Rattle.watch_report.specs.declared.options.Form.{Form}
use Rattle.watch_report.specs.Forms.{at_most}
use Rattle.watch_report.specs.NoteGroups.{founds_of}
use Rattle.watch_report.specs.Reports.{founds_after, tallies_after, totals_after, totals_of}
use Rattle.watch_report.specs.TraceText.{trace_of}
use Rattle.watch_report.proofs.blocks.push_totals.Goals as goal

pub returns : goal.returns
returns c = record {
  ok = λ records given are seen.
      let scheme = c.args.causes.now.scheme in
      let trace = trace_of records in
      let most = c.args.most in
      let told : c.at_most-tallies.result.now ≡ at_most most (tallies_after scheme records given) =
      c.at_most-tallies.ensures ∙ ap (λ (ts : List Tally). at_most most ts) (c.tallies.ensures trace given seen) in
      let begun : c.begun.result.now ≡ begun_of scheme trace given = c.begun.ensures trace given seen in
      let reaches : c.as_slice.result.now ≡ map (reach_of scheme trace given) (begun_of scheme trace given) =
      c.as_slice.ensures.value ∙ c.in_ok-reaches.ensures trace given seen in
      let founds : c.as_slice-2.result.now ≡ founds_after scheme records given (at_most most (tallies_after scheme records given)) =
      c.as_slice-2.ensures.value ∙ (c.in_ok-founds.ensures ∙ (λ j. founds_of (told j) (begun j) (reaches j))) in
      let form : Form = c.args.form in
      let file : List ℕ = c.args.file.now in
      let same : totals_of form file records c.as_slice-2.result.now c.at_most-tallies.result.now
      ≡ totals_after form file scheme records given (at_most most (tallies_after scheme records given)) =
      λ j. totals_of form file records (founds j) (told j) in
      subst (λ (l : List ℕ). OnOk c.push_totals_of.result (c.push_totals_of.new.text.items ≡ c.args.text.now.items ++ l)) same
      (c.push_totals_of.ensures.ok records are);
}
