use Rattle.std.proofs.Common.{◌∙◌, ap, refl, subst, sym, arith}
use Rattle.watch_tables.specs.declared.way.Way.{Way}
use Rattle.watch_tables.specs.Words.{since, words}
use Rattle.watch_tables.specs.Ways.{IsWay, way_to}
use Rattle.watch_tables.proofs.GlobalLeaves.{root-iff, root-is-way, root-unless}
use Rattle.watch_tables.proofs.tables.PageTables.are_leaves_global.Goals as goal

pub returns-in_default : goal.returns-in_default
returns-in_default c = (
  (λ _. root-unless c.args.scheme (words c.args.self.now) (since c.args.self.now) c.args.root c.args.index 0 (let small = c.if-index-ge-TABLE_LENGTH.false in omega arith) (c.stored_at.ensures.none c.in_default.is) refl),
  (λ _. refl),
)

pub returns-then-not-lacks_g : goal.returns-then-not-lacks_g
returns-then-not-lacks_g c = (
  (λ _. root-unless c.args.scheme (words c.args.self.now) (since c.args.self.now) c.args.root c.args.index c.in-Some.stored.word (let small = c.if-index-ge-TABLE_LENGTH.false in omega arith) c.in-Some.ensures.some (sym c.lacks_g.ensures ∙ c.if-not-lacks_g.true)),
  (λ _. refl),
)

pub are_global_at-requires-clause-way : goal.are_global_at-requires-clause-way
are_global_at-requires-clause-way c =
    subst (λ (w : Way). IsWay c.args.scheme (words c.args.self.now) (since c.args.self.now) w) (sym (c.to-way.ensures ∙ ap (way_to c.args.root) c.top_level.ensures)) (root-is-way c.args.scheme (words c.args.self.now) (since c.args.self.now) c.args.root c.args.index)

pub returns : goal.returns
returns c = root-iff c.args.scheme (words c.args.self.now) (since c.args.self.now) c.args.root c.args.index c.to-way.result c.are_global_at.result (c.to-way.ensures ∙ ap (way_to c.args.root) c.top_level.ensures) c.are_global_at.ensures
