use Rattle.std.proofs.Common.{ℕ, ◌≡◌, ◌<◌, ◌+◌, ◌⊎◌, ◌∙◌, ◌++◌, List, [], ◌∷◌, ap, refl, sym, subst, arith}
use Rattle.std.specs.List.{Contains}
use Rattle.std.proofs.lemmas.List.Elements.{Contains-append_left, Contains-push}
use Rattle.pte.specs.Address.{top_level}
use Rattle.walk.specs.Leads.{Leads, word_at}
use Rattle.walk.specs.Maps.{page_number}
use Rattle.watch_tables.specs.declared.way.Way.{Way}
use Rattle.watch_tables.specs.Words.{since, words}
use Rattle.watch_tables.specs.Ways.{HasWay, IsWay, vpn_from, way_to}
use Rattle.watch_tables.specs.Climbs.{ComesTo, HasWayBy, IsWayDown}
use Rattle.watch_tables.proofs.Climbing.{each-level, pushed-sound, sound-level, starts, way-of-root}
use Rattle.watch_tables.proofs.tables.PageTables.ways.Goals as goal

pub add_ways-requires-clause-down : goal.add_ways-requires-clause-down
add_ways-requires-clause-down c =
    let end = c.loop-level.invariant.end in
    let less = c.loop-level-test.true in
    subst (λ (w : Way). IsWayDown c.args.scheme (words c.args.self.now) (since c.args.self.now) c.loop-level.level w) (sym c.to.ensures) (starts c.args.scheme (words c.args.self.now) (since c.args.self.now) (page_number c.args.address) c.loop-level.level (omega arith))

pub loop-level-preserved : goal.loop-level-preserved
loop-level-preserved c = record {
  end = c.loop-level.invariant.end;
  to = let less = c.loop-level-test.true in omega arith;
  sound = sound-level c.args.scheme (words c.args.self.now) (since c.args.self.now) (page_number c.args.address) c.loop-level.level c.loop-level.out.items c.add_ways.new.out.items c.loop-level.invariant.sound
      (subst (λ (way : Way). (w : Way) → Contains c.add_ways.new.out.items w → Contains c.loop-level.out.items w ⊎ (IsWay c.args.scheme (words c.args.self.now) (since c.args.self.now) w × (w.at.table ≡ way.at.table))) c.to.ensures c.in_ok-add_ways.ensures.sound);
  each = each-level c.args.scheme (words c.args.self.now) (since c.args.self.now) (page_number c.args.address) c.loop-level.level c.loop-level.out.items c.add_ways.new.out.items c.loop-level.invariant.each c.in_ok-add_ways.ensures.kept
      (subst (λ (way : Way). (root va : ℕ) → ComesTo c.args.scheme (words c.args.self.now) root va c.loop-level.level way → HasWayBy c.args.scheme c.add_ways.new.out.items way root va) c.to.ensures c.in_ok-add_ways.ensures.each);
}

pub returns : goal.returns
returns c =
    let a = c.args in
    let table : ℕ = page_number a.address in
    let top : ℕ = top_level a.scheme in
    let old : List Way = c.loop-level.out.items in
    let new : List Way = c.push.new.self.items in
    let is : c.to-2.result ≡ way_to table top = c.to-2.ensures ∙ ap (way_to table) c.top_level-top.ensures in
    let pushed : new ≡ old ++ way_to table top ∷ [] = c.in_ok-push.ensures.items ∙ ap (λ (w : Way). old ++ w ∷ []) is in
    let down = starts a.scheme (words a.self.now) (since a.self.now) table top (omega arith) in
    let more : (w : Way) → Contains old w → Contains new w = λ w has. subst (λ (l : List Way). Contains l w) (sym pushed) (Contains-append_left old (way_to table top ∷ []) w has) in
    let among = subst (λ (l : List Way). Contains l (way_to table top)) (sym pushed) (Contains-push old (way_to table top)) in
    let all : (root va at : ℕ) → at < top → Leads a.scheme (words a.self.now) root va at table (word_at (words a.self.now) va at table) → HasWay old root at (vpn_from a.scheme (at + 1) va) =
    λ root va at less path. c.loop-level.invariant.each root va at (let end = c.loop-level.invariant.end in let done = c.loop-level-test.false in omega arith) path
    in
    record {
      sound = sound-level a.scheme (words a.self.now) (since a.self.now) table top old new c.loop-level.invariant.sound (pushed-sound a.scheme (words a.self.now) (since a.self.now) top (way_to table top) down refl old new pushed);
      each = λ root va level path. each-level a.scheme (words a.self.now) (since a.self.now) table top old new all more (way-of-root a.scheme (words a.self.now) (since a.self.now) top (way_to table top) down refl new among)
          root va level (let most = path.level in omega arith) path;
    }
