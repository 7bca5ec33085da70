use Rattle.std.proofs.Common.{◌≡◌, ◌∙◌, sym, ap, ap₂, ℕ, ◌+◌, ◌++◌, List, [], ◌∷◌, length, map, Option, arith, append_assoc, rules, subst}
use Rattle.std.proofs.lemmas.List.{map-append}
use Rattle.std.specs.Global.{Vec}
use Rattle.std.specs.List.{range_with_len}
use Rattle.std.specs.Arc.{arc_value}
use Rattle.spaces.specs.declared.configuration.Config.{Config}
use Rattle.history.specs.Setup.{setup_of}
use Rattle.board.specs.Ends.{OutboxState, InboxState}
use Rattle.board.specs.Ports.{PortState, IsNew, IsPort, name_of}
use Rattle.board.specs.Rows.{IsInRow, IsOutRow, items_at}
use Rattle.board.proofs.RowsGrow.{items-old, length-one_more}
use Rattle.board.proofs.Deals.{all_and_first, dealt, nothing_in}
use Rattle.board.specs.Seats.{AreSeats, IsNewSeat}
use Rattle.board.proofs.SeatRows.{seats-front, seats-last}
use Rattle.board.proofs.board.deal.Goals as goal

pub new-port-requires-clause-seat : goal.new-port-requires-clause-seat
new-port-requires-clause-seat c =
    let i = c.loop-outs.invariant in
    let config = arc_value c.args.config.now in
    let words = (arc_value c.args.memory.now).shared in
    let outs = c.pop.new.self.items in
    let out = c.in-Some.outs in
    let seats = c.pop-in-Some-2.new.self.items in
    let seat = c.in-Some-pop-2.seat in
    let ps : c.loop-outs.seats.items ≡ seats ++ seat ∷ [] = c.in-Some-pop-2.ensures.items in
    let po : c.loop-outs.outboxes.items ≡ outs ++ out ∷ [] = c.in-Some.ensures.items in
    let ls : length c.loop-outs.seats.items ≡ length seats + 1 = ap length ps ∙ length-one_more seats seat in
    let lo : length c.loop-outs.outboxes.items ≡ length outs + 1 = ap length po ∙ length-one_more outs out in
    let number : 0 + length seats ≡ length outs = omega (arith, ls, lo, i.seated) in
    let last : IsNewSeat words.table_id words.key config (length outs) seat =
    subst (λ h. IsNewSeat words.table_id words.key config h seat) number (seats-last words.table_id words.key config 0 seats seat (subst (AreSeats words.table_id words.key config 0) ps i.seats_are))
    in
    rw (c.in_ok-words.ensures, c.in_ok-shared.ensures, c.hart_after.ensures) last

pub loop-outs-preserved : goal.loop-outs-preserved
loop-outs-preserved c =
    let i = c.loop-outs.invariant in
    let config = arc_value c.args.config.now in
    let old = c.loop-outs.ports.items in
    let outs = c.pop.new.self.items in
    let ins = c.pop-in-Some.new.self.items in
    let out = c.in-Some.outs in
    let in' = c.in-Some-pop.ins in
    let po : c.loop-outs.outboxes.items ≡ outs ++ out ∷ [] = c.in-Some.ensures.items in
    let pi : c.loop-outs.inboxes.items ≡ ins ++ in' ∷ [] = c.in-Some-pop.ensures.items in
    let lo : length c.loop-outs.outboxes.items ≡ length outs + 1 = ap length po ∙ length-one_more outs out in
    let li : length c.loop-outs.inboxes.items ≡ length ins + 1 = ap length pi ∙ length-one_more ins in' in
    let port = c.new-port.result in
    let put : c.insert.new.self.items ≡ port ∷ old = c.in_ok-insert.ensures.items in
    let hart : port.hart ≡ length outs = c.new-port.ensures.hart ∙ c.hart_after.ensures in
    let seats = c.pop-in-Some-2.new.self.items in
    let seat = c.in-Some-pop-2.seat in
    let ps : c.loop-outs.seats.items ≡ seats ++ seat ∷ [] = c.in-Some-pop-2.ensures.items in
    let ls : length c.loop-outs.seats.items ≡ length seats + 1 = ap length ps ∙ length-one_more seats seat in
    let words = (arc_value c.args.memory.now).shared in
    record {
      seated = omega (arith, ls, lo, i.seated);
      seats_are = seats-front words.table_id words.key config 0 seats seat (subst (AreSeats words.table_id words.key config 0) ps i.seats_are);
      same = omega (arith, lo, li, i.same);
      count = rw put (omega (arith, lo, i.count));
      outs_are = λ h below. subst (λ (r : List (Option OutboxState)). IsOutRow config.capacity h config.harts r)
          (ap (λ (rows : List (Vec (Option OutboxState))). items_at rows h) po ∙ items-old outs out h below) (i.outs_are h (omega (arith, lo)));
      ins_are = λ h below. subst (λ (r : List (Option InboxState)). IsInRow config.capacity h config.harts r)
          (ap (λ (rows : List (Vec (Option InboxState))). items_at rows h) pi ∙ items-old ins in' h (omega (arith, lo, li, i.same))) (i.ins_are h (omega (arith, lo)));
      outs = rw put (
          ap (λ (r : List (Option OutboxState)). map (λ row. row.items) outs ++ r ∷ map (λ p. p.outboxes) old) c.new-port.ensures.ends.0
          ∙ (sym (append_assoc (map (λ row. row.items) outs) (out.items ∷ []) (map (λ p. p.outboxes) old))
          ∙ (ap (λ (rows : List (List (Option OutboxState))). rows ++ map (λ p. p.outboxes) old) (sym (map-append (λ row. row.items) outs (out ∷ [])))
          ∙ (ap (λ (rows : List (Vec (Option OutboxState))). map (λ row. row.items) rows ++ map (λ p. p.outboxes) old) (sym po) ∙ i.outs))));
      ins = rw put (
          ap (λ (r : List (Option InboxState)). map (λ row. row.items) ins ++ r ∷ map (λ p. p.inboxes) old) c.new-port.ensures.ends.1
          ∙ (sym (append_assoc (map (λ row. row.items) ins) (in'.items ∷ []) (map (λ p. p.inboxes) old))
          ∙ (ap (λ (rows : List (List (Option InboxState))). rows ++ map (λ p. p.inboxes) old) (sym (map-append (λ row. row.items) ins (in' ∷ [])))
          ∙ (ap (λ (rows : List (Vec (Option InboxState))). map (λ row. row.items) rows ++ map (λ p. p.inboxes) old) (sym pi) ∙ i.ins))));
      numbered = rw put (ap₂ (λ (h : ℕ) (rest : List ℕ). h ∷ rest) hart (i.numbered ∙ ap (λ n. range_with_len n (length old)) lo));
      of_setup = rw put (all_and_first (λ (p : PortState). p.setup ≡ setup_of config) port old (c.new-port.ensures.setup ∙ ap (λ (a : Config). setup_of a) c.in_ok-shared.ensures) i.of_setup);
      of_table = rw put (all_and_first (λ (p : PortState). p.table ≡ words.table_id) port old (rw (← c.in_ok-words.ensures) c.new-port.ensures.table) i.of_table);
      each = rw put (all_and_first (λ (p : PortState). IsPort (name_of p)) port old c.new-port.ensures.port i.each);
      are_new = rw put (all_and_first IsNew port old c.new-port.ensures.new i.are_new);
    }

pub returns-clause-ports : goal.returns-clause-ports
returns-clause-ports c =
    let i = c.loop-outs.invariant in
    let config = arc_value c.args.config.now in
    let none : c.loop-outs.outboxes.items ≡ [] = search rules in
    let none' : c.loop-outs.inboxes.items ≡ [] = nothing_in c.loop-outs.inboxes.items (i.same ∙ ap length none) in
    let ports = c.loop-outs.ports.items in
    let zero-left : length c.loop-outs.outboxes.items ≡ 0 = ap length none in
    let all-there : length ports ≡ config.harts = omega (arith, i.count, zero-left) in
    dealt (setup_of config) config.capacity c.args.outboxes.items c.args.inboxes.items c.requires.net ports
    (ap (λ (rows : List (Vec (Option OutboxState))). map (λ row. row.items) rows ++ map (λ p. p.outboxes) ports) (sym none) ∙ i.outs)
    (ap (λ (rows : List (Vec (Option InboxState))). map (λ row. row.items) rows ++ map (λ p. p.inboxes) ports) (sym none') ∙ i.ins)
    (i.numbered ∙ ap₂ range_with_len zero-left all-there)
    i.of_setup
    (arc_value c.args.memory.now).shared.table_id
    i.of_table
    i.each
