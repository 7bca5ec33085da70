use Rattle.std.proofs.Common.{◌≡◌, take, map}
use Rattle.spaces.proofs.frames.homes_of.Given as goal

abbrev pub invariant-loop-space : goal.invariant-loop-space
invariant-loop-space l = l.homes.items ≡ map (λ s. s.home) (take l.space-index l.spaces)
