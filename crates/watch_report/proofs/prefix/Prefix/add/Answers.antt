use Rattle.std.proofs.Common.{◌∙◌, ◌∷◌, ◌++◌, [], List, ap, refl}
use Rattle.std.proofs.lemmas.Result.{on_ok_weaker}
use Rattle.watch.specs.declared.trace.Record.{Record}
use Rattle.watch_report.specs.VerdictLines.{noted_by}
use Rattle.watch_report.proofs.PrefixLemmas.{made_more}
use Rattle.watch_report.proofs.prefix.Prefix.add.Goals as goal

pub returns : goal.returns
returns c = λ records are.
    let newest = noted_by c.args.newest.now in
    on_ok_weaker c.add.result
    (λ past. record {
      made = c.in_ok-push.ensures.items ∙ ap (λ (made : List Record). made ++ newest.made ∷ []) are.made ∙ made_more records newest;
      past = past;
    })
    (c.add.ensures records newest are.past refl refl)
