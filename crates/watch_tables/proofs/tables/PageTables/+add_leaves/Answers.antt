use Rattle.std.proofs.Common.{Some, None, ◌∙◌, ap, sym, arith}
use Rattle.pte.specs.Address.{level_of}
use Rattle.watch_tables.specs.declared.way.Way.{Way}
use Rattle.watch_tables.specs.Words.{since, words}
use Rattle.watch_tables.proofs.LeavesBelow.{by-level, on_ok, added-below, added-leaf, added-none, loop-end, loop-step, next-is, way-below}
use Rattle.watch_tables.proofs.tables.PageTables.+add_leaves.Goals as goal

pub add_leaves-loop-index-preserved : goal.add_leaves-loop-index-preserved
add_leaves-loop-index-preserved t c = record {
  from = let small = c.in-Some.ensures.below in omega arith;
  exact = loop-step c.args.scheme (words c.args.self.now) (since c.args.self.now) c.args.way c.requires.way c.loop-index.from c.in-Some.index c.args.out.now.items c.loop-index.out.items c.add_leaves_at.new.out.items
      c.in-Some.ensures.from c.in-Some.ensures.below c.in-Some.ensures.skipped c.loop-index.invariant.exact c.in_ok-add_leaves_at.ensures;
}

pub add_leaves-returns : goal.add_leaves-returns
add_leaves-returns t c =
    loop-end c.args.scheme (words c.args.self.now) (since c.args.self.now) c.args.way c.requires.way c.loop-index.from c.args.out.now.items c.loop-index.out.items (c.next_word.ensures.none c.in_default.is) c.loop-index.invariant.exact

pub add_leaves_at-returns-in-Some : goal.add_leaves_at-returns-in-Some
add_leaves_at-returns-in-Some t c =
    let made = by-level c.args.way.at.global c.args.kind (level_of c.at_level-size.result) c.args.way.level c.from_kind.result (Some c.in-Some.leaf) c.at_level-size.ensures c.from_kind.ensures c.in-Some.is in
    added-leaf c.args.scheme (words c.args.self.now) (since c.args.self.now) c.args.way c.args.index c.args.kind c.args.records c.requires.way c.requires.index c.requires.kind c.requires.records
    c.page.result c.in-Some.leaf c.entry.result c.latest.result c.args.out.now.items c.push.new.self.items c.page.ensures.page c.page.ensures.level c.page.ensures.vpn made c.entry.ensures c.latest.ensures c.in_ok-push.ensures.items

pub add_leaves_at-add_leaves-requires : goal.add_leaves_at-add_leaves-requires
add_leaves_at-add_leaves-requires t c =
    let below = next-is c.args.way c.in-Some-below.next c.args.index c.args.kind c.args.records (sym c.below.ensures ∙ c.in-Some-below.is) in
    let level = ap (λ (w : Way). w.level) below.is in
    let above = below.above in (
      omega arith,
      way-below c.args.scheme (words c.args.self.now) (since c.args.self.now) c.args.way c.args.index c.args.kind c.args.records c.requires.way c.requires.index c.requires.kind c.requires.records c.in-Some-below.next below,
    )

pub add_leaves_at-returns-in-Some-below : goal.add_leaves_at-returns-in-Some-below
add_leaves_at-returns-in-Some-below t c =
    on_ok c.add_leaves.result
    (added-below c.args.scheme (words c.args.self.now) (since c.args.self.now) c.args.way c.args.index c.args.kind c.args.records c.requires.way c.requires.index c.requires.kind c.requires.records
    c.in-Some-below.next c.args.out.now.items c.add_leaves.new.out.items (sym c.below.ensures ∙ c.in-Some-below.is))
    c.add_leaves.ensures

pub add_leaves_at-returns-in-None : goal.add_leaves_at-returns-in-None
add_leaves_at-returns-in-None t c =
    let no_leaf = by-level c.args.way.at.global c.args.kind (level_of c.at_level-size.result) c.args.way.level c.from_kind.result None c.at_level-size.ensures c.from_kind.ensures c.in_default.is in
    added-none c.args.scheme (words c.args.self.now) (since c.args.self.now) c.args.way c.args.index c.args.kind c.args.records c.requires.way c.requires.index c.requires.kind c.requires.records
    c.args.out.now.items no_leaf (sym c.below.ensures ∙ c.in-None.is)
