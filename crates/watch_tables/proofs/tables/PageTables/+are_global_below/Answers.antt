use Rattle.std.proofs.Common.{Some, None, ◌∙◌, ap, refl, sym, arith}
use Rattle.pte.specs.Address.{level_of}
use Rattle.watch_tables.specs.declared.way.Way.{Way}
use Rattle.watch_tables.specs.Words.{since, words}
use Rattle.watch_tables.proofs.LeavesBelow.{by-level, next-is, way-below}
use Rattle.watch_tables.proofs.GlobalLeaves.{global-below, global-end, global-leaf, global-nothing, global-step}
use Rattle.watch_tables.proofs.tables.PageTables.+are_global_below.Goals as goal

pub are_global_at-returns-in-Some : goal.are_global_at-returns-in-Some
are_global_at-returns-in-Some t c =
    let made = by-level c.args.way.at.global c.args.kind (level_of c.at_level-size.result) c.args.way.level c.from_kind.result (Some c.in-Some.leaf) c.at_level-size.ensures c.from_kind.ensures c.in-Some.is in
    global-leaf c.args.scheme (words c.args.self.now) (since c.args.self.now) c.args.way c.args.index c.args.kind c.args.records c.requires.way c.requires.index c.requires.kind c.requires.records
    c.in-Some.leaf c.is_global.result made c.is_global.ensures

pub are_global_at-are_global_below-requires : goal.are_global_at-are_global_below-requires
are_global_at-are_global_below-requires t c =
    let below = next-is c.args.way c.in-Some-below.next c.args.index c.args.kind c.args.records (sym c.below.ensures ∙ c.in-Some-below.is) in
    let level = ap (λ (w : Way). w.level) below.is in
    let above = below.above in (
      omega arith,
      way-below c.args.scheme (words c.args.self.now) (since c.args.self.now) c.args.way c.args.index c.args.kind c.args.records c.requires.way c.requires.index c.requires.kind c.requires.records c.in-Some-below.next below,
    )

pub are_global_at-returns-in-Some-below : goal.are_global_at-returns-in-Some-below
are_global_at-returns-in-Some-below t c =
    global-below c.args.scheme (words c.args.self.now) (since c.args.self.now) c.args.way c.args.index c.args.kind c.args.records c.requires.way c.requires.index c.requires.kind c.requires.records
    c.in-Some-below.next c.are_global_below.result (sym c.below.ensures ∙ c.in-Some-below.is) c.are_global_below.ensures

pub are_global_at-returns-in-None : goal.are_global_at-returns-in-None
are_global_at-returns-in-None t c =
    let no_leaf = by-level c.args.way.at.global c.args.kind (level_of c.at_level-size.result) c.args.way.level c.from_kind.result None c.at_level-size.ensures c.from_kind.ensures c.in_default.is in (
      (λ _. global-nothing c.args.scheme (words c.args.self.now) (since c.args.self.now) c.args.way c.args.index c.args.kind c.args.records c.requires.way c.requires.index c.requires.kind c.requires.records no_leaf (sym c.below.ensures ∙ c.in-None.is)),
      (λ _. refl),
    )

pub are_global_below-loop-index-preserved : goal.are_global_below-loop-index-preserved
are_global_below-loop-index-preserved t c = record {
  from = let small = c.in-Some.ensures.below in omega arith;
  before = global-step c.args.scheme (words c.args.self.now) (since c.args.self.now) c.args.way c.requires.way c.loop-index.from c.in-Some.index c.in-Some.ensures.from c.in-Some.ensures.below
      c.in-Some.ensures.skipped (λ n. (_, refl)) c.loop-index.invariant.before (c.are_global_at.ensures.0 c.if-not-are_global_at.false);
}

pub are_global_below-returns : goal.are_global_below-returns
are_global_below-returns t c = (
  (λ _. global-end c.args.scheme (words c.args.self.now) (since c.args.self.now) c.args.way c.requires.way c.loop-index.from (c.next_lacking_g.ensures.none c.in_default.is) (λ n. (_, refl)) c.loop-index.invariant.before),
  (λ _. refl),
)
