use Rattle.std.proofs.Common.{◌≡◌, ◌∙◌, ◌<◌, ◌+◌, ℕ, List, ap, arith, length, length-take-le, rules, sym, take}
use Rattle.std.proofs.lemmas.List.{take_more}
use Rattle.watch.specs.declared.trace.Record.{Record}
use Rattle.watch.specs.WorkedTraces.{trace_of as made_from}
use Rattle.watch_report.specs.Prefix.{open_claim}
use Rattle.watch_report.proofs.PrefixLemmas.{open_more}
use Rattle.watch_report.proofs.trigger.claim_among.Goals as goal

pub loop-count-preserved : goal.loop-count-preserved
loop-count-preserved c =
    let count : ℕ = c.loop-count.count in
    let records : List Record = c.args.records.now in
    let less : count < length records = search rules in
    let long : length (take count records) ≡ count = length-take-le count records (omega (arith, less)) in
    record {
      within = omega (arith, less);
      begun = open_more c.args.token (take count records) _ (count + 1) _ _ (omega (arith, long)) c.loop-count.invariant.begun c.begun_after-begun.ensures
          ∙ ap (λ (made : List Record). open_claim c.args.token (made_from made)) (sym (take_more records count _ less));
    }
