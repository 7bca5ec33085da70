use Rattle.std.proofs.Common.{◌∙◌, sym, subst, List, ◌+◌, ℕ}
use Rattle.walk.specs.Leads.{Tables}
use Rattle.watch.specs.Trace.{index_of}
use Rattle.watch_tables.specs.Ways.{AreWays}
use Rattle.watch_engine.specs.declared.held.LastLive.{LastLive}
use Rattle.watch_tables.specs.declared.way.Way.{Way}
use Rattle.watch_engine.specs.Standing.{Stands}
use Rattle.watch_engine.proofs.Gathering.{AddedBy, seen_of}
use Rattle.watch_engine.proofs.Standings.{all_remembered, on_err, some_remembered}
use Rattle.watch_engine.proofs.WordChanges.{store_stands}
use Rattle.watch_engine.specs.View.{View}
use Rattle.watch_engine.specs.Touched.{all_settled}
use Rattle.watch_engine.specs.Watching.{view_in}
use Rattle.watch_engine.proofs.engine.Watch.store.Goals as goal

pub returns-in_err-remember_all-clause-err : goal.returns-in_err-remember_all-clause-err
returns-in_err-remember_all-clause-err g c = λ trace at.
    let watch = c.args.self.now in
    let v : View = view_in g.T.Tables.words g.T.Tables.since watch in
    let seen : List LastLive = c.as_slice-2.result.now in
    let added = subst (AddedBy v c.args.address c.new-seen.result.items) (sym c.as_slice-2.ensures.value)
    (subst (λ (w : View). AddedBy w c.args.address c.new-seen.result.items c.add_seen.new.seen.items) c.view.ensures c.in_ok-add_seen.ensures) in
    let all = seen_of v c.args.address c.new-seen.result.items seen c.new-seen.ensures.items added in
    let e = c.in_err-remember_all.ensures.err in
    on_err _ _ (some_remembered at seen all.each e.0 _ e.1)

pub returns-in_err-store-clause-err : goal.returns-in_err-store-clause-err
returns-in_err-store-clause-err g c = λ trace at.
    let watch = c.args.self.now in
    let v : View = view_in g.T.Tables.words g.T.Tables.since watch in
    let seen : List LastLive = c.as_slice-2.result.now in
    let added = subst (AddedBy v c.args.address c.new-seen.result.items) (sym c.as_slice-2.ensures.value)
    (subst (λ (w : View). AddedBy w c.args.address c.new-seen.result.items c.add_seen.new.seen.items) c.view.ensures c.in_ok-add_seen.ensures) in
    let all = seen_of v c.args.address c.new-seen.result.items seen c.new-seen.ensures.items added in
    let stands = all_remembered at seen all.each _ c.in_ok-remember_all.ensures.ok in
    on_err _ _
    (subst (λ (w : Tables). Stands trace (record v { words = w; since = g.T.Tables.since c.store.new.self }) c.remember_all.new.held watch.fences.items watch.claims.items) (sym c.in_err-store.ensures.err)
    (subst (λ (s : ℕ → ℕ → ℕ). Stands trace (record v { since = s }) c.remember_all.new.held watch.fences.items watch.claims.items) (sym c.in_err-store.ensures.err_since) stands))

pub returns-clause-ok : goal.returns-clause-ok
returns-clause-ok g c = λ hart trace at.
    let watch = c.args.self.now in
    let v : View = view_in g.T.Tables.words g.T.Tables.since watch in
    let seen : List LastLive = c.as_slice-2.result.now in
    let added = subst (AddedBy v c.args.address c.new-seen.result.items) (sym c.as_slice-2.ensures.value)
    (subst (λ (w : View). AddedBy w c.args.address c.new-seen.result.items c.add_seen.new.seen.items) c.view.ensures c.in_ok-add_seen.ensures) in
    let all = seen_of v c.args.address c.new-seen.result.items seen c.new-seen.ensures.items added in
    let ways : List Way = c.in_ok-ways.ways.items in
    let next : View = record v { words = g.T.Tables.words c.store.new.self; since = g.T.Tables.since c.store.new.self; count = watch.count + 1 } in
    let index : ℕ = index_of c.args.address in
    store_stands at hart c.args.address c.args.word next.words next.since (c.in_ok-store.ensures.ok hart) c.in_ok-store.ensures.others c.in_ok-store.ensures.count ways c.in_ok-ways.ensures.ways seen all _
    (c.settle_touched.ensures
    ∙ (λ j. all_settled (record next { satps = c.spaces.ensures.value j }) index (c.as_slice-3.ensures.value j) (c.in_ok-remember_all.ensures.ok j)))

pub invariant_of-self-2 : goal.invariant_of-self-2
invariant_of-self-2 g c =
    let watch = c.args.self.now in
    let scheme = watch.scheme in
    let words : Tables = g.T.Tables.words watch.tables in
    let old = g.T.Tables.since watch.tables in
    let new = g.T.Tables.since c.store.new.self in
    record {
      kept = c.keep.ensures scheme words (g.T.Tables.words c.store.new.self) old new c.in_ok-ways.ensures.rest c.in_ok-ways.ensures.ways (λ stays table ways are.
          subst (λ (w : Tables). AreWays scheme w new table ways) (sym (c.in_ok-store.ensures.ok 0))
          (c.keeps_ways-stay.ensures stays scheme new 0 table ways c.in_ok-store.ensures.others are));
    }
