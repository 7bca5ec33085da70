use Rattle.std.proofs.Common.{ap, rules, ◌∙◌, set, true}
use Rattle.shoot.proofs.HartBits.{bit_put, still_back}
use Rattle.shoot.proofs.hart_set.HartSet.insert.Goals as goal

pub invariant_of-self : goal.invariant_of-self
invariant_of-self c = still_back c.self.inside.bits c.args.hart (search rules)

pub returns-then-hart-lt-MAX_HARTS : goal.returns-then-hart-lt-MAX_HARTS
returns-then-hart-lt-MAX_HARTS c =
    bit_put c.self.inside.bits c.args.hart c.if-hart-lt-MAX_HARTS.true ∙ ap (λ old. set old c.args.hart true) c.self.view_is
