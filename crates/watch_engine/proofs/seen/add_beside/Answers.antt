use Rattle.std.proofs.Common.{◌∙◌, sym, subst, List, ℕ, ◌+◌, ◌<◌, Contains, length, arith}
use Rattle.std.proofs.lemmas.List.Elements.{Contains-get_or}
use Rattle.watch.specs.Holding.{HasLeaf}
use Rattle.watch_tables.specs.declared.leaf.RootLeaf.{RootLeaf}
use Rattle.watch_engine.specs.Shared.{IsBeside}
use Rattle.watch_engine.proofs.Filling.{same_default}
use Rattle.watch_engine.proofs.LeftOrder.{leaf_added}
use Rattle.watch_engine.specs.View.{view_of}
use Rattle.watch_engine.proofs.seen.add_beside.Goals as goal

pub add_known-requires-clause-answers : goal.add_known-requires-clause-answers
add_known-requires-clause-answers g c =
    let leaves : List RootLeaf = c.args.leaves.now in
    let first : RootLeaf = c.index-leaves-start.result in
    let leaf : RootLeaf = c.index-leaves-at.result in
    let words = g.T.Tables.words c.args.view.now.tables.now in
    let beside : IsBeside c.args.view.now.scheme first leaf = subst (IsBeside c.args.view.now.scheme first) (sym c.index-leaves-at.is) (c.loop-at.invariant.2 leaf) in
    let among : Contains leaves leaf = subst (Contains leaves) (sym c.index-leaves-at.is) (Contains-get_or leaves c.loop-at.at leaf c.loop-at.invariant.1) in
    c.answers_below-known.ensures leaf.entry beside.below (subst (λ (root : ℕ). HasLeaf c.args.view.now.scheme words root leaf.entry) (sym beside.root) (c.requires.leaves leaf among))

pub returns-then-at-leaves-clause-seen : goal.returns-then-at-leaves-clause-seen
returns-then-at-leaves-clause-seen g c =
    let leaf : RootLeaf = c.index-leaves-at.result in
    leaf_added (view_of c.args.view.now) c.of_root-spaces.result.now
    c.args.leaves.now c.loop-at.at c.index-leaves-start.result.root leaf c.loop-at.seen.items c.add_known.new.seen.items
    c.loop-at.invariant.1 c.index-leaves-at.is (sym (c.loop-at.invariant.2 leaf).root) c.of_root-spaces.ensures c.in_ok-add_known.ensures
    ∙ c.loop-at.invariant.3

pub loop-at-preserved : goal.loop-at-preserved
loop-at-preserved g c =
    let leaves : List RootLeaf = c.args.leaves.now in
    let at : ℕ = c.loop-at.at in
    let first : RootLeaf = c.index-leaves-start.result in
    let leaf : RootLeaf = c.index-leaves-at.result in
    let next : RootLeaf = c.index-leaves-at-else-begins_alike.result in
    let within : at + 1 < length leaves = omega arith in
    let beside : IsBeside c.args.view.now.scheme first next = c.are_beside.ensures.other c.if-not-are_beside.false in (
      omega arith,
      within,
      λ d. subst (IsBeside c.args.view.now.scheme first) (c.index-leaves-at-else-begins_alike.is ∙ same_default leaves (at + 1) next d within) beside,
      leaf_added (view_of c.args.view.now) c.of_root-spaces.result.now
          leaves at first.root leaf c.loop-at.seen.items c.add_known.new.seen.items
          c.loop-at.invariant.1 c.index-leaves-at.is (sym (c.loop-at.invariant.2 leaf).root) c.of_root-spaces.ensures c.in_ok-add_known.ensures
          ∙ c.loop-at.invariant.3,
    )
