use Rattle.std.proofs.Common.{◌∙◌, ℕ, Some, ap, sym}
use Rattle.watch_report.specs.declared.warning.Trigger.TheVariants.{ClaimedSince}
use Rattle.watch_report.proofs.PrefixLemmas.{claim_is}
use Rattle.watch_report.proofs.trigger.claim_trigger_among.Goals as goal

pub returns-in-Some : goal.returns-in-Some
returns-in-Some c = λ noted same are.
    ap (λ (n : ℕ). Some (ClaimedSince n)) (c.line.ensures noted are) ∙ claim_is noted c.args.token c.args.records.now (Some c.in-Some.number) same (sym c.in-Some.is ∙ c.claim_among.ensures)
