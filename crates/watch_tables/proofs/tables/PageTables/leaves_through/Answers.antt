use Rattle.std.proofs.Common.{◌⊎◌, ◌∙◌, ap, sym, subst, false, get_or, arith}
use Rattle.std.specs.Prelude.{◌↔◌}
use Rattle.std.specs.List.{Contains}
use Rattle.walk.specs.Maps.{page_number}
use Rattle.watch.specs.Trace.{index_of}
use Rattle.watch_tables.specs.declared.leaf.RootLeaf.{RootLeaf}
use Rattle.watch_tables.specs.declared.way.Way.{Way}
use Rattle.watch_tables.specs.Words.{since, words}
use Rattle.watch_tables.specs.Leaves.{IsLeafAt}
use Rattle.watch_tables.specs.Paths.{is_leading, kind_in}
use Rattle.watch_tables.proofs.Gathering.{each-next, exact-all, index-small, none-through, since-all, sound-next, table-at, way-at}
use Rattle.watch_tables.proofs.Storing.{zero-invalid}
use Rattle.watch_tables.proofs.tables.PageTables.leaves_through.Goals as goal

-- what stands where there is no way
abbrev no_way : Way
no_way = record { root = 0; level = 0; vpn = 0; at = record { table = 0; global = false }; since = 0 }

pub add_leaves_at-requires-clause-way : goal.add_leaves_at-requires-clause-way
add_leaves_at-requires-clause-way c = way-at c.args.scheme (words c.args.self.now) (since c.args.self.now) (page_number c.args.address) (index_of c.args.address) c.args.ways.now c.requires c.loop-way.way-index _ c.loop-way-test.true

pub add_leaves_at-requires-clause-kind : goal.add_leaves_at-requires-clause-kind
add_leaves_at-requires-clause-kind c =
    let table = table-at c.args.scheme (words c.args.self.now) (since c.args.self.now) (page_number c.args.address) (index_of c.args.address) c.args.ways.now c.requires c.loop-way.way-index no_way c.loop-way-test.true in
    c.kind-kind.ensures.kind ∙ sym (ap kind_in (ap (λ t. words c.args.self.now t c.index_of-index.result) table ∙ c.in-Some.ensures.some))

pub add_leaves_at-requires-clause-records : goal.add_leaves_at-requires-clause-records
add_leaves_at-requires-clause-records c =
    let table = table-at c.args.scheme (words c.args.self.now) (since c.args.self.now) (page_number c.args.address) (index_of c.args.address) c.args.ways.now c.requires c.loop-way.way-index no_way c.loop-way-test.true in
    c.in-Some.ensures.since ∙ sym (ap (λ t. since c.args.self.now t c.index_of-index.result) table)

-- a word that is 0, or does not lead on
pub returns-in_default-clause-exact : goal.returns-in_default-clause-exact
returns-in_default-clause-exact c =
    let zero = ap kind_in (ap (words c.args.self.now (page_number c.args.address)) (sym c.index_of-index.ensures.index) ∙ c.stored_at.ensures.none c.in_default.is) ∙ zero-invalid in
    none-through c.args.scheme (words c.args.self.now) (since c.args.self.now) (page_number c.args.address) (index_of c.args.address) c.args.ways.now c.requires (index-small c.args.address) (ap is_leading zero) _ c.new-out.ensures.items

pub returns-then-not-leads_on-clause-exact : goal.returns-then-not-leads_on-clause-exact
returns-then-not-leads_on-clause-exact c =
    let here = ap kind_in (ap (words c.args.self.now (page_number c.args.address)) (sym c.index_of-index.ensures.index) ∙ c.in-Some.ensures.some) ∙ sym c.kind-kind.ensures.kind in
    none-through c.args.scheme (words c.args.self.now) (since c.args.self.now) (page_number c.args.address) (index_of c.args.address) c.args.ways.now c.requires (index-small c.args.address)
    (ap is_leading here ∙ sym c.leads_on.ensures ∙ c.if-not-leads_on.true) _ c.new-out.ensures.items

pub loop-way-preserved : goal.loop-way-preserved
loop-way-preserved c =
    let added =
    subst (λ n. (x : RootLeaf) → Contains c.add_leaves_at.new.out.items x ↔ (Contains c.loop-way.out.items x ⊎ IsLeafAt c.args.scheme (words c.args.self.now) (since c.args.self.now) (get_or c.args.ways.now c.loop-way.way-index no_way) n x)) c.index_of-index.ensures.index
    c.in_ok-add_leaves_at.ensures
    in
    record {
      sound = sound-next c.args.scheme (words c.args.self.now) (since c.args.self.now) (page_number c.args.address) (index_of c.args.address) c.args.ways.now c.requires c.loop-way.way-index no_way c.loop-way-test.true c.loop-way.out.items c.add_leaves_at.new.out.items added c.loop-way.invariant.sound;
      each = each-next c.args.scheme (words c.args.self.now) (since c.args.self.now) (page_number c.args.address) (index_of c.args.address) c.args.ways.now c.requires c.loop-way.way-index no_way c.loop-way-test.true c.loop-way.out.items c.add_leaves_at.new.out.items added c.loop-way.invariant.each;
    }

pub returns-clause-exact : goal.returns-clause-exact
returns-clause-exact c =
    exact-all c.args.scheme (words c.args.self.now) (since c.args.self.now) (page_number c.args.address) (index_of c.args.address) c.args.ways.now c.requires c.loop-way.out.items c.loop-way.invariant.sound
    (λ k other x less at. c.loop-way.invariant.each k other x (let done = c.loop-way-test.false in omega arith) at)

pub returns-clause-since : goal.returns-clause-since
returns-clause-since c = since-all c.args.scheme (words c.args.self.now) (since c.args.self.now) (page_number c.args.address) (index_of c.args.address) c.args.ways.now c.requires c.loop-way.out.items c.loop-way.invariant.sound
