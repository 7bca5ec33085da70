use Rattle.std.proofs.Common.{◌∙◌, ap}
use Rattle.std.proofs.lemmas.Result.{IfOk-weaker}
use Rattle.clap.specs.Words.{App, rule_of, with_rule}
use Rattle.scenario.proofs.words.with_three.Goals as goal

pub returns : goal.returns
returns c = λ first second third.
    let with_first = c.in_ok-with_first.ensures.shape first in
    let with_second = c.in_ok-with_second.ensures.shape second ∙ ap (λ (app : App). with_rule app (rule_of c.args.second)) with_first in
    IfOk-weaker c.arg-3.result _ _ (λ made added. added.shape third ∙ ap (λ (app : App). with_rule app (rule_of c.args.third)) with_second) c.arg-3.ensures
