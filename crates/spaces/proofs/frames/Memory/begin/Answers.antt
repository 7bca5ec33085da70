use Rattle.std.proofs.Common.{ap, ◌∙◌}
use Rattle.spaces.specs.Held.{Held}
use Rattle.spaces.specs.EditStages.{bare_layout, start_at_home}
use Rattle.spaces.proofs.Stages.{begun-away, begun-home}
use Rattle.spaces.proofs.frames.Memory.begin.Goals as goal

pub returns-then-hart-home-clause-start : goal.returns-then-hart-home-clause-start
returns-then-hart-home-clause-start c = begun-away c.args.self.now.layout c.args.hart c.args.wish.now c.place.result c.home.result c.place.ensures c.home.ensures.value c.if-hart-home.true

pub returns-clause-start : goal.returns-clause-start
returns-clause-start c =
    begun-home c.args.self.now.layout c.args.hart c.args.wish.now c.place.result c.home.result c.place.ensures c.home.ensures.value c.start.result c.if-hart-home.false
    (c.start.ensures ∙ ap (λ (m : Held). start_at_home (bare_layout m.layout.scheme m.layout.window m.layout.base) c.args.wish.now) c.self.view_is)
