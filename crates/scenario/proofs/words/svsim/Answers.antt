use Rattle.std.proofs.Common.{◌∙◌}
use Rattle.std.proofs.lemmas.Result.{IfOk-weaker}
use Rattle.clap.specs.Words.{with_rule}
use Rattle.scenario.proofs.words.svsim.Goals as goal

pub returns : goal.returns
returns c =
    let with_values =
    c.in_ok-with_values.ensures c.value-command.ensures.local c.value-file.ensures.local c.optional-line.ensures.local
    ∙ (λ j. with_rule (with_rule (with_rule (c.without_help-bare.ensures j) (c.value-command.ensures.rule j)) (c.value-file.ensures.rule j)) (c.optional-line.ensures.rule j)) in
    let with_forms =
    c.in_ok-with_forms.ensures c.flag-all.ensures.local c.flag-quiet.ensures.local c.flag-json.ensures.local
    ∙ (λ j. with_rule (with_rule (with_rule (with_values j) (c.flag-all.ensures.rule j)) (c.flag-quiet.ensures.rule j)) (c.flag-json.ensures.rule j)) in
    let with_tests =
    c.in_ok-with_tests.ensures c.valued-hart.ensures.local c.valued-page.ensures.local c.valued-kind.ensures.local
    ∙ (λ j. with_rule (with_rule (with_rule (with_forms j) (c.valued-hart.ensures.rule j)) (c.valued-page.ensures.rule j)) (c.valued-kind.ensures.rule j)) in
    IfOk-weaker c.with_three-4.result _ _
    (λ program made. made ∙ (λ j. with_rule (with_rule (with_rule (with_tests j) (c.valued-max.ensures.rule j)) (c.valued-known.ensures.rule j)) (c.flag-svg.ensures.rule j)))
    (c.with_three-4.ensures c.valued-max.ensures.local c.valued-known.ensures.local c.flag-svg.ensures.local)
