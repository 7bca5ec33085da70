use Rattle.std.proofs.Common.{rules, ◌∙◌}
use Rattle.std.proofs.lemmas.List.{map_more}
use Rattle.melissaledge_c.specs.Configs.{opened_space}
use Rattle.melissaledge_c.proofs.configs.spaces_of.Goals as goal

pub loop-space-preserved : goal.loop-space-preserved
loop-space-preserved c =
    c.push.ensures.items ∙ rw (map_more opened_space c.args.asked.now c.loop-space.space-index (record { asid = 0; home = 0 }) c.loop-space-test.true) (search rules)
