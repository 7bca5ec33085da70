use Rattle.spaces.specs.Layout.{layout_of}
use Rattle.spaces.proofs.Stages.{begun-away, begun-home}
use Rattle.spaces.proofs.edit_walks.EditWalk.begin.Goals as goal

pub returns-then-hart-home : goal.returns-then-hart-home
returns-then-hart-home c = begun-away (layout_of c.args.config.now) c.args.hart c.args.wish c.place.result c.home.result c.place.ensures c.home.ensures c.if-hart-home.true

pub returns : goal.returns
returns c = begun-home (layout_of c.args.config.now) c.args.hart c.args.wish c.place.result c.home.result c.place.ensures c.home.ensures c.start.result c.if-hart-home.false c.start.ensures
