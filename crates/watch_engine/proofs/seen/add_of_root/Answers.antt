use Rattle.std.proofs.Common.{◌∙◌, ap, List, ℕ, ◌+◌, ◌<◌, get_or, length, arith}
use Rattle.watch_tables.specs.declared.leaf.RootLeaf.{RootLeaf}
use Rattle.watch_engine.proofs.Filling.{same_default}
use Rattle.watch_engine.proofs.LeftOrder.{leaf_added}
use Rattle.watch_engine.specs.View.{view_of}
use Rattle.watch_engine.proofs.seen.add_of_root.Goals as goal

pub returns-then-at-leaves-clause-seen : goal.returns-then-at-leaves-clause-seen
returns-then-at-leaves-clause-seen g c =
    let leaf : RootLeaf = c.index-leaves-at.result in
    leaf_added (view_of c.args.view.now) c.of_root-spaces.result.now
    c.args.leaves.now c.loop-at.at (get_or c.args.leaves.now c.args.start c.index-leaves-start.result).root leaf c.loop-at.seen.items c.add_leaf.new.seen.items
    c.loop-at.invariant.1 c.index-leaves-at.is (c.loop-at.invariant.2 leaf) c.of_root-spaces.ensures c.in_ok-add_leaf.ensures.seen
    ∙ c.loop-at.invariant.3

pub loop-at-preserved : goal.loop-at-preserved
loop-at-preserved g c =
    let leaves : List RootLeaf = c.args.leaves.now in
    let at : ℕ = c.loop-at.at in
    let leaf : RootLeaf = c.index-leaves-at.result in
    let next : RootLeaf = c.index-leaves-at-else-at-leaves.result in
    let within : at + 1 < length leaves = omega arith in (
      omega arith,
      within,
      λ d. ap (λ (l : RootLeaf). l.root) (same_default leaves (at + 1) d next within) ∙ c.if-leaves-at.false,
      leaf_added (view_of c.args.view.now) c.of_root-spaces.result.now
          leaves at (get_or leaves c.args.start c.index-leaves-start.result).root leaf c.loop-at.seen.items c.add_leaf.new.seen.items
          c.loop-at.invariant.1 c.index-leaves-at.is (c.loop-at.invariant.2 leaf) c.of_root-spaces.ensures c.in_ok-add_leaf.ensures.seen
          ∙ c.loop-at.invariant.3,
    )
