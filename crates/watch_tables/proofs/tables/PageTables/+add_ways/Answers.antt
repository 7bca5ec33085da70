use Rattle.std.proofs.Common.{ℕ, ◌≡◌, ◌∙◌, ◌+◌, ◌⊎◌, List, [], ◌∷◌, ap, sym, subst, inl, arith}
use Rattle.std.specs.List.{Contains}
use Rattle.std.proofs.lemmas.List.Elements.{Contains-append_left, Contains-push}
use Rattle.watch_tables.specs.declared.way.Way.{Way}
use Rattle.pte.specs.Address.{top_level, vpn_of}
use Rattle.watch_tables.specs.Pointers.{has_number}
use Rattle.watch_tables.specs.Words.{since, word_number, words}
use Rattle.watch_tables.specs.Ways.{IsWay}
use Rattle.watch_tables.specs.Climbs.{ComesTo, HasWayBy, IsWayDown}
use Rattle.watch_tables.proofs.Climbing.{each-of-all, each-on, each-past, pushed-sound, sound-on, way-down-by, way-of-root}
use Rattle.watch_tables.proofs.tables.PageTables.+add_ways.Goals as goal

pub add_ways-requires : goal.add_ways-requires
add_ways-requires t c =
    let lower = c.requires.lower in
    let top = c.top_level.ensures in
    let apart = c.if-height-top_level.false in (
      omega arith,
      (
        subst (λ (w : Way). IsWayDown c.args.scheme (words c.args.self.now) (since c.args.self.now) (c.args.height + 1) w) (sym c.above-next.ensures)
            (way-down-by c.args.scheme (words c.args.self.now) (since c.args.self.now) c.args.height c.args.way c.requires.down c.in-Some-pointer.pointer c.in-Some-pointer.ensures.some c.requires.lower),
        (omega arith, c.pointers_to.ensures),
      ),
    )

pub loop-number-init : goal.loop-number-init
loop-number-init t c = record {
  next = tt;
  finite = tt;
  kept = λ w has. has;
  sound = λ w has. inl has;
  each = λ root va u comes path point. inl (ap (λ l. has_number l (word_number u (vpn_of va (c.args.height + 1)))) c.into_iter-number-iterator.ensures.into_iter_gives ∙ c.requires.pairs u (vpn_of va (c.args.height + 1)) point);
}

pub loop-number-preserved-in_default : goal.loop-number-preserved-in_default
loop-number-preserved-in_default t c = record {
  next = tt;
  finite = tt;
  kept = c.loop-number.invariant.kept;
  sound = c.loop-number.invariant.sound;
  each = each-past c.args.scheme (words c.args.self.now) (since c.args.self.now) c.args.height c.args.way c.requires.down c.in-Some.field-0.now c.next.new.self c.loop-number.number-iterator c.in-Some.ensures.steps c.loop-number.out.items c.loop-number.invariant.each
      (λ u i number. c.pointer.ensures.none c.in_default.is u i number);
}

pub loop-number-preserved : goal.loop-number-preserved
loop-number-preserved t c = record {
  next = tt;
  finite = tt;
  kept = λ w has. c.in_ok-add_ways.ensures.kept w (c.loop-number.invariant.kept w has);
  sound = sound-on c.args.scheme (words c.args.self.now) (since c.args.self.now) c.args.height c.args.way c.requires.down c.args.out.now.items c.loop-number.out.items c.add_ways.new.out.items c.loop-number.invariant.sound
      (subst (λ (next : Way). (w : Way) → Contains c.add_ways.new.out.items w → Contains c.loop-number.out.items w ⊎ (IsWay c.args.scheme (words c.args.self.now) (since c.args.self.now) w × (w.at.table ≡ next.at.table))) c.above-next.ensures c.in_ok-add_ways.ensures.sound);
  each = each-on c.args.scheme (words c.args.self.now) (since c.args.self.now) c.args.height c.args.way c.requires.down c.in-Some.field-0.now c.next.new.self c.loop-number.number-iterator c.in-Some.ensures.steps c.loop-number.out.items c.loop-number.invariant.each
      c.in-Some-pointer.pointer c.in-Some-pointer.ensures.some c.in-Some-pointer.ensures.number c.add_ways.new.out.items c.in_ok-add_ways.ensures.kept
      (subst (λ (next : Way). (root va : ℕ) → ComesTo c.args.scheme (words c.args.self.now) root va (c.args.height + 1) next → HasWayBy c.args.scheme c.add_ways.new.out.items next root va) c.above-next.ensures c.in_ok-add_ways.ensures.each);
}

pub loop-number-preserved-then-height-top_level : goal.loop-number-preserved-then-height-top_level
loop-number-preserved-then-height-top_level t c =
    let top : c.args.height + 1 ≡ top_level c.args.scheme = c.if-height-top_level.true ∙ c.top_level.ensures in
    let down = subst (λ (w : Way). IsWayDown c.args.scheme (words c.args.self.now) (since c.args.self.now) (c.args.height + 1) w) (sym c.above-next.ensures)
    (way-down-by c.args.scheme (words c.args.self.now) (since c.args.self.now) c.args.height c.args.way c.requires.down c.in-Some-pointer.pointer c.in-Some-pointer.ensures.some c.requires.lower) in
    let pushed = c.in_ok-push.ensures.items in
    let more : (w : Way) → Contains c.loop-number.out.items w → Contains c.push.new.self.items w = λ w has. subst (λ (l : List Way). Contains l w) (sym pushed) (Contains-append_left c.loop-number.out.items (c.above-next.result ∷ []) w has) in
    let among = subst (λ (l : List Way). Contains l c.above-next.result) (sym pushed) (Contains-push c.loop-number.out.items c.above-next.result) in
    record {
      next = tt;
      finite = tt;
      kept = λ w has. more w (c.loop-number.invariant.kept w has);
      sound = sound-on c.args.scheme (words c.args.self.now) (since c.args.self.now) c.args.height c.args.way c.requires.down c.args.out.now.items c.loop-number.out.items c.push.new.self.items c.loop-number.invariant.sound
          (subst (λ (next : Way). (w : Way) → Contains c.push.new.self.items w → Contains c.loop-number.out.items w ⊎ (IsWay c.args.scheme (words c.args.self.now) (since c.args.self.now) w × (w.at.table ≡ next.at.table))) c.above-next.ensures
          (pushed-sound c.args.scheme (words c.args.self.now) (since c.args.self.now) (c.args.height + 1) c.above-next.result down top c.loop-number.out.items c.push.new.self.items pushed));
      each = each-on c.args.scheme (words c.args.self.now) (since c.args.self.now) c.args.height c.args.way c.requires.down c.in-Some.field-0.now c.next.new.self c.loop-number.number-iterator c.in-Some.ensures.steps c.loop-number.out.items c.loop-number.invariant.each
          c.in-Some-pointer.pointer c.in-Some-pointer.ensures.some c.in-Some-pointer.ensures.number c.push.new.self.items more
          (subst (λ (next : Way). (root va : ℕ) → ComesTo c.args.scheme (words c.args.self.now) root va (c.args.height + 1) next → HasWayBy c.args.scheme c.push.new.self.items next root va) c.above-next.ensures
          (way-of-root c.args.scheme (words c.args.self.now) (since c.args.self.now) (c.args.height + 1) c.above-next.result down top c.push.new.self.items among));
    }

pub returns-clause-each : goal.returns-clause-each
returns-clause-each t c =
    each-of-all c.args.scheme (words c.args.self.now) (since c.args.self.now) c.args.height c.args.way c.requires.down c.requires.lower c.loop-number.out.items c.loop-number.number-iterator c.in-None.ensures.steps.0 c.loop-number.invariant.each
