use Rattle.std.proofs.Common.{ap, ◌∙◌}
use Rattle.shoot.specs.HartSet.{contains}
use Rattle.shoot.proofs.HartBits.{shifted_bit_is_member}
use Rattle.shoot.proofs.hart_set.HartSet.contains.Goals as goal

pub returns-then-hart-lt-MAX_HARTS : goal.returns-then-hart-lt-MAX_HARTS
returns-then-hart-lt-MAX_HARTS c =
    shifted_bit_is_member c.self.inside.bits c.args.hart c.if-hart-lt-MAX_HARTS.true ∙ ap (λ set. contains set c.args.hart) c.self.view_is
