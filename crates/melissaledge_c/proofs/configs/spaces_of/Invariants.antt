use Rattle.std.proofs.Common.{◌≡◌, take, map}
use Rattle.melissaledge_c.specs.Configs.{opened_space}
use Rattle.melissaledge_c.proofs.configs.spaces_of.Given as goal

abbrev pub invariant-loop-space : goal.invariant-loop-space
invariant-loop-space l = l.spaces.items ≡ map opened_space (take l.space-index l.asked)
