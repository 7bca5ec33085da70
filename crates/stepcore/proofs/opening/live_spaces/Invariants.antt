use Rattle.std.proofs.Common.{◌≡◌, ◌<◌, ◌^◌, take, map}
use Rattle.std.specs.Prelude.{All}
use Rattle.pte.specs.declared.TheConstants.{ASID_BITS}
use Rattle.stepcore.specs.State.{live_space}
use Rattle.stepcore.proofs.opening.live_spaces.Given as goal

abbrev pub invariant-loop-space : goal.invariant-loop-space
invariant-loop-space l = record { spaces : l.states.items ≡ map (λ s. live_space s.asid) (take l.space-index l.spaces); bits : All (λ s. s.asid < 2 ^ ASID_BITS) (take l.space-index l.spaces) }
