use Rattle.std.proofs.Common.{◌≡◌, ◌∙◌, ◌<◌, ◌+◌, ap, sym, subst, rules, arith, length, map, [], ◌∷◌, ◌++◌, List, All}
use Rattle.std.specs.Vec.Iter.{into_iter_items}
use Rattle.std.proofs.lemmas.List.Elements.{All-cons, All-head, All-nil, All-pop, All-push, All-tail, All-weaker}
use Rattle.std.proofs.Common.{Some}
use Rattle.atomic_table.specs.Seated.{TableId}
use Rattle.views.specs.declared.view.View.{View}
use Rattle.views.specs.Gathered.{StandsIn}
use Rattle.board.specs.Ports.{PortState}
use Rattle.board.specs.Together.{KnowsItself}
use Rattle.board.proofs.Deals.{nothing_in}
use Rattle.board.proofs.RowsGrow.{length-one_more}
use Rattle.board.proofs.Together.{begun, ended, none_shared, one_more, shared}
use Rattle.board.proofs.closing.gather.Goals as goal

pub returns-in_default-clause-together : goal.returns-in_default-clause-together
returns-in_default-clause-together c = none_shared c.args.ports.items search rules

pub loop-port-init : goal.loop-port-init
loop-port-init c =
    let ports = c.args.ports.items in
    let rest = c.pop.new.self.items in
    let last = c.in-Some.last in
    let items : ports ≡ rest ++ last ∷ [] = c.in-Some.ensures.items in
    let left' = into_iter_items c.into_iter-port-iterator.result in
    let all : left' ≡ rest = c.into_iter-port-iterator.ensures.into_iter_gives.0 in
    let part = c.into_parts-seat.ensures in
    let table = c.requires.one_table in
    let tables = All-pop (λ (p : PortState). p.table ≡ table.0) ports rest (Some last) items table.1 in
    let words = c.deref.result.now.shared in
    let same : words.table_id ≡ last.table = ap (λ m. m.shared.table_id) c.deref.ensures ∙ part.words.0 in
    let no-out : length c.args.outboxes.items ≡ 0 = ap length c.requires.empty.0 in
    let no-in : length c.args.inboxes.items ≡ 0 = ap length c.requires.empty.1 in
    let others : length left' ≡ length rest = ap length all in
    let count : length ports ≡ length rest + 1 = ap length items ∙ length-one_more rest last in
    record {
      outs = begun (λ row. row.items) (λ (p : PortState). p.outboxes) c.args.outboxes.items ports left' rest last c.into_parts-seat.result.2 c.requires.empty.0 all items part.ends.0;
      ins = begun (λ row. row.items) (λ (p : PortState). p.inboxes) c.args.inboxes.items ports left' rest last c.into_parts-seat.result.3 c.requires.empty.1 all items part.ends.1;
      out_room = omega (arith, c.requires.room.0, no-out, others, count);
      in_room = omega (arith, c.requires.room.1, no-in, others, count);
      left = search rules;
      some_word = subst (λ (z : TableId). 0 < z.words) (sym same) part.words.1;
      gathered = c.of-seats.ensures.table ∙ (part.seat.0 ∙ sym same);
      tables = All-weaker (λ (p : PortState). p.table ≡ table.0) (λ (p : PortState). p.table ≡ words.table_id) (λ p is. is ∙ sym (same ∙ tables.1)) left'
          (subst (λ (l : List PortState). All (λ p. p.table ≡ table.0) l) (sym all) tables.0);
      own = λ own. subst (λ (l : List PortState). All KnowsItself l) (sym items) (All-push KnowsItself rest last (subst (λ (l : List PortState). All KnowsItself l) all own) part.own);
      stand = λ state views each.
          let view = All-head (StandsIn state) c.into_parts-seat.result.0.view [] (subst (λ (l : List View). All (StandsIn state) l) c.of-seats.ensures.views views) in
          subst (λ (l : List PortState). All (λ p. StandsIn state p.view) l) (sym items)
          (All-push (λ (p : PortState). StandsIn state p.view) rest last (subst (λ (l : List PortState). All (λ p. StandsIn state p.view) l) all each) (subst (StandsIn state) part.seat.1 view));
    }

pub loop-port-preserved : goal.loop-port-preserved
loop-port-preserved c =
    let i = c.loop-port.invariant in
    let port = c.in-Some-port.port in
    let left' = into_iter_items c.loop-port.port-iterator in
    let rest = into_iter_items c.next.new.self in
    let steps = c.in-Some-port.ensures.steps in
    let is : left' ≡ port ∷ rest = steps.0 in
    let ends = c.take_apart-outs in
    let words = c.deref.result.now.shared in
    let more-out : length c.push_reserved.new.self.items ≡ length c.loop-port.outboxes.items + 1 = ap length c.push_reserved.ensures.items ∙ length-one_more c.loop-port.outboxes.items ends.result.0 in
    let more-in : length c.push_reserved-in-loop-port.new.self.items ≡ length c.loop-port.inboxes.items + 1 =
    ap length c.push_reserved-in-loop-port.ensures.items ∙ length-one_more c.loop-port.inboxes.items ends.result.1
    in
    let fewer : length left' ≡ length rest + 1 = ap length is ∙ (omega arith) in
    record {
      outs = one_more (λ row. row.items) (λ (p : PortState). p.outboxes) c.loop-port.outboxes.items c.push_reserved.new.self.items ends.result.0 left' rest port (c.into_parts-seat.result.2.items ∷ []) (map (λ (p : PortState). p.outboxes) c.args.ports.items) c.push_reserved.ensures.items ends.ensures.ends.0 is i.outs;
      ins = one_more (λ row. row.items) (λ (p : PortState). p.inboxes) c.loop-port.inboxes.items c.push_reserved-in-loop-port.new.self.items ends.result.1 left' rest port (c.into_parts-seat.result.3.items ∷ []) (map (λ (p : PortState). p.inboxes) c.args.ports.items) c.push_reserved-in-loop-port.ensures.items ends.ensures.ends.1 is i.ins;
      out_room = rw c.push_reserved.ensures.capacity (omega (arith, i.out_room, more-out, fewer));
      in_room = rw c.push_reserved-in-loop-port.ensures.capacity (omega (arith, i.in_room, more-in, fewer));
      left = omega (arith, steps.1, i.left, fewer);
      some_word = i.some_word;
      gathered = ends.ensures.table ∙ i.gathered;
      tables = All-tail (λ (p : PortState). p.table ≡ words.table_id) port rest (subst (λ (l : List PortState). All (λ p. p.table ≡ words.table_id) l) is i.tables);
      own = λ own. i.own (subst (λ (l : List PortState). All KnowsItself l) (sym is) (All-cons KnowsItself port rest ends.ensures.own own));
      stand = λ state views each.
          let all = subst (λ (l : List View). All (StandsIn state) l) ends.ensures.views views in
          i.stand state (All-tail (StandsIn state) port.view c.loop-port.seats.views all)
          (subst (λ (l : List PortState). All (λ p. StandsIn state p.view) l) (sym is)
          (All-cons (λ (p : PortState). StandsIn state p.view) port rest (All-head (StandsIn state) port.view c.loop-port.seats.views all) each));
    }

pub take_apart-outs-requires : goal.take_apart-outs-requires
take_apart-outs-requires c = record {
  same = (
    c.loop-port.invariant.gathered,
    All-head (λ (p : PortState). p.table ≡ c.deref.result.now.shared.table_id) c.in-Some-port.port (into_iter_items c.next.new.self)
        (subst (λ (l : List PortState). All (λ p. p.table ≡ c.deref.result.now.shared.table_id) l) c.in-Some-port.ensures.steps.0 c.loop-port.invariant.tables),
  );
}

pub stand-requires-clause-same : goal.stand-requires-clause-same
stand-requires-clause-same c = c.loop-port.invariant.gathered

pub push_reserved-requires-2 : goal.push_reserved-requires-2
push_reserved-requires-2 c = let r = c.loop-port.invariant.out_room in search rules

pub push_reserved-requires-3 : goal.push_reserved-requires-3
push_reserved-requires-3 c = let r = c.loop-port.invariant.in_room in search rules

pub returns-clause-outboxes : goal.returns-clause-outboxes
returns-clause-outboxes c =
    let i = c.loop-port.invariant in
    let none = nothing_in (into_iter_items c.loop-port.port-iterator) (sym i.left ∙ c.in-None.ensures.steps.0) in
    ended (λ row. row.items) (λ (p : PortState). p.outboxes) c.loop-port.outboxes.items c.push_reserved-2.new.self.items c.into_parts-seat.result.2 (into_iter_items c.loop-port.port-iterator) (map (λ (p : PortState). p.outboxes) c.args.ports.items) c.push_reserved-2.ensures.items none i.outs

pub returns-clause-inboxes : goal.returns-clause-inboxes
returns-clause-inboxes c =
    let i = c.loop-port.invariant in
    let none = nothing_in (into_iter_items c.loop-port.port-iterator) (sym i.left ∙ c.in-None.ensures.steps.0) in
    ended (λ row. row.items) (λ (p : PortState). p.inboxes) c.loop-port.inboxes.items c.push_reserved-3.new.self.items c.into_parts-seat.result.3 (into_iter_items c.loop-port.port-iterator) (map (λ (p : PortState). p.inboxes) c.args.ports.items) c.push_reserved-3.ensures.items none i.ins

pub returns-clause-together : goal.returns-clause-together
returns-clause-together c =
    let i = c.loop-port.invariant in
    let none = nothing_in (into_iter_items c.loop-port.port-iterator) (sym i.left ∙ c.in-None.ensures.steps.0) in
    let together = c.stand.ensures.together in
    let views = subst (λ g. All (StandsIn together.state) g.views) c.stand.ensures.same together.each in
    shared c.args.ports.items together.state
    (i.stand together.state views (subst (λ (l : List PortState). All (λ p. StandsIn together.state p.view) l) (sym none) (All-nil (λ (p : PortState). StandsIn together.state p.view))))
    (i.own (subst (λ (l : List PortState). All KnowsItself l) (sym none) (All-nil KnowsItself)))
