-- Ports of one board that come back: their ends are those of the board, and what their ends carried
-- is what the ports did.
use Rattle.std.proofs.Common.{◌≡◌, ◌≢◌, ◌∙◌, sym, ap, refl, ℕ, zero, suc, ◌+◌, ◌<◌, ◌==◌, List, [], ◌∷◌, length, map, Option, Some, None, is_some, IsTrue, Bool, All, if◌then◌else◌, get_or, drop, ap₂, ◌++◌, arith}
use Rattle.std.proofs.lemmas.Bool.{ne_eqb}
use Rattle.std.proofs.lemmas.List.{length-map}
use Rattle.std.proofs.lemmas.List.FromFn.{length-range_with_len}
use Rattle.std.specs.Global.{Vec}
use Rattle.std.specs.Option.{option_map}
use Rattle.std.specs.List.{range_with_len}
use Rattle.history.specs.Setup.{Setup}
use Rattle.shoot.specs.Request.{Request}
use Rattle.board.specs.Ends.{OutboxState, InboxState, count_of}
use Rattle.board.specs.Ports.{End, PortState, ArePorts, IsPort, capacities, capacities_of, element, end_of_inbox, end_of_outbox, name_of, row}
use Rattle.board.specs.Reports.{IsReport, IsReportOf, accepted_between, accepted_by, pairs_of, taken_between, taken_by}
use Rattle.board.specs.Rows.{AreEnds, IsPairOf, items_at}
use Rattle.board.specs.declared.report.PairReport.{PairReport}
use Rattle.board.proofs.Counts.{inboxes_count, outboxes_count}
use Rattle.board.proofs.Deals.{element-map, in-cell, out-cell, row-items}

-- the capacities of each port's ends
module _ (setup : Setup) where
  pub out_capacities : (ports : List PortState) (from : ℕ) → map (λ name. name.hart) (map name_of ports) ≡ range_with_len from (length ports)
      → All (λ name. name.setup ≡ setup) (map name_of ports) → All IsPort (map name_of ports)
      → (k : ℕ) → k < length ports → capacities_of (map (option_map end_of_outbox) (row (map (λ port. port.outboxes) ports) k)) ≡ capacities setup (from + k)
  out_capacities [] from numbered setups each k low = absurd (omega arith)
  out_capacities (p ∷ ps) from numbered setups each zero low =
      let is = each 0 (name_of p) (omega arith) in
      is.outs ∙ ap₂ capacities (setups 0 (name_of p) (omega arith)) (ap (λ (l : List ℕ). get_or l 0 0) numbered ∙ (omega arith))
  out_capacities (p ∷ ps) from numbered setups each (suc k) low =
      out_capacities ps (from + 1) (ap (drop 1) numbered) (λ j d below. setups (suc j) d (omega (arith, below))) (λ j d below. each (suc j) d (omega (arith, below))) k (omega (arith, low))
      ∙ ap (capacities setup) (omega arith)

  pub in_capacities : (ports : List PortState) (from : ℕ) → map (λ name. name.hart) (map name_of ports) ≡ range_with_len from (length ports)
      → All (λ name. name.setup ≡ setup) (map name_of ports) → All IsPort (map name_of ports)
      → (k : ℕ) → k < length ports → capacities_of (map (option_map end_of_inbox) (row (map (λ port. port.inboxes) ports) k)) ≡ capacities setup (from + k)
  in_capacities [] from numbered setups each k low = absurd (omega arith)
  in_capacities (p ∷ ps) from numbered setups each zero low =
      let is = each 0 (name_of p) (omega arith) in
      is.ins ∙ ap₂ capacities (setups 0 (name_of p) (omega arith)) (ap (λ (l : List ℕ). get_or l 0 0) numbered ∙ (omega arith))
  in_capacities (p ∷ ps) from numbered setups each (suc k) low =
      in_capacities ps (from + 1) (ap (drop 1) numbered) (λ j d below. setups (suc j) d (omega (arith, below))) (λ j d below. each (suc j) d (omega (arith, below))) k (omega (arith, low))
      ∙ ap (capacities setup) (omega arith)

element-range : {X : Type 0} (f : ℕ → Option X) (from n k : ℕ) → k < n → element (map f (range_with_len from n)) k ≡ f (from + k)
element-range f from zero k low = absurd (omega arith)
element-range f from (suc n) zero low = ap f (omega arith)
element-range f from (suc n) (suc k) low = element-range f (from + 1) n k (omega (arith, low)) ∙ ap f (omega arith)

-- an end that has a capacity exists
is-there : (e : Option OutboxState) (capacity : ℕ) → option_map (λ (n : End). n.capacity) (option_map end_of_outbox e) ≡ Some capacity → IsTrue (is_some e)
is-there None capacity same = cc
is-there (Some end) capacity same = refl

module _ (setup : Setup) (ports : List PortState) (are : ArePorts setup (map name_of ports)) where
  pub all_ports : length ports ≡ setup.harts
  all_ports = sym (length-map (map name_of ports) (λ name. name.hart) ∙ length-map ports name_of) ∙ (ap length are.numbered ∙ length-range_with_len 0 setup.harts)

  numbered : map (λ name. name.hart) (map name_of ports) ≡ range_with_len 0 (length ports)
  numbered = are.numbered ∙ ap (range_with_len 0) (sym all_ports)

module _ (setup : Setup) (ports : List PortState) (are : ArePorts setup (map name_of ports))
    (outs : List (Vec (Option OutboxState))) (ins : List (Vec (Option InboxState)))
    (same-outs : map (λ r. r.items) outs ≡ map (λ port. port.outboxes) ports) (same-ins : map (λ r. r.items) ins ≡ map (λ port. port.inboxes) ports) where
  out-row : (k : ℕ) → row (map (λ port. port.outboxes) ports) k ≡ items_at outs k
  out-row k = ap (λ (rows : List (List (Option OutboxState))). row rows k) (sym same-outs) ∙ row-items outs k

  in-row : (k : ℕ) → row (map (λ port. port.inboxes) ports) k ≡ items_at ins k
  in-row k = ap (λ (rows : List (List (Option InboxState))). row rows k) (sym same-ins) ∙ row-items ins k

  out-capacities : (k : ℕ) → k < setup.harts → capacities_of (map (option_map end_of_outbox) (items_at outs k)) ≡ capacities setup k
  out-capacities k low =
      let count = all_ports setup ports are in
      ap (λ (r : List (Option OutboxState)). capacities_of (map (option_map end_of_outbox) r)) (sym (out-row k))
      ∙ out_capacities setup ports 0 (numbered setup ports are) are.of_setup are.each k (omega (arith, low, count)) ∙ ap (capacities setup) (omega arith)

  in-capacities : (k : ℕ) → k < setup.harts → capacities_of (map (option_map end_of_inbox) (items_at ins k)) ≡ capacities setup k
  in-capacities k low =
      let count = all_ports setup ports are in
      ap (λ (r : List (Option InboxState)). capacities_of (map (option_map end_of_inbox) r)) (sym (in-row k))
      ∙ in_capacities setup ports 0 (numbered setup ports are) are.of_setup are.each k (omega (arith, low, count)) ∙ ap (capacities setup) (omega arith)

  there : (s h : ℕ) → s < setup.harts → h < setup.harts → h ≢ s → IsTrue (is_some (element (items_at outs s) h))
  there s h s-low h-low apart = let zero-more : 0 + h ≡ h = omega arith in is-there (element (items_at outs s) h) setup.capacity (
      sym (element-map (λ (e : End). e.capacity) (map (option_map end_of_outbox) (items_at outs s)) h ∙ ap (option_map (λ (e : End). e.capacity)) (element-map end_of_outbox (items_at outs s) h))
      ∙ (ap (λ (r : List (Option ℕ)). element r h) (out-capacities s s-low)
      ∙ (element-range (λ other. if other == s then None else Some setup.capacity) 0 setup.harts h h-low
      ∙ ap (λ (k : ℕ). if k == s then None else Some setup.capacity) zero-more
      ∙ ap (λ (b : Bool). if b then None else Some setup.capacity) (ne_eqb h s apart))))

  pub ends_back : AreEnds setup.harts outs ins
  ends_back = record {
    out_rows = sym (length-map outs (λ r. r.items)) ∙ (ap length same-outs ∙ (length-map ports (λ port. port.outboxes) ∙ all_ports setup ports are));
    in_rows = sym (length-map ins (λ r. r.items)) ∙ (ap length same-ins ∙ (length-map ports (λ port. port.inboxes) ∙ all_ports setup ports are));
    outs_long = λ k low. outboxes_count setup k (items_at outs k) (out-capacities k low);
    ins_long = λ k low. inboxes_count setup k (items_at ins k) (in-capacities k low);
    are_there = there;
    linked = λ s h. sym (out-cell ports outs (sym same-outs) s h) ∙ (are.linked s h ∙ in-cell ports ins (sym same-ins) s h);
  }

  same-accepted : (s h : ℕ) → accepted_between ports s h ≡ accepted_by (element (items_at outs s) h)
  same-accepted s h = ap (λ (r : List (Option OutboxState)). accepted_by (element r h)) (out-row s)

  same-taken : (s h : ℕ) → taken_between ports s h ≡ taken_by (element (items_at ins h) s)
  same-taken s h = ap (λ (r : List (Option InboxState)). taken_by (element r s)) (in-row h)

  of_ports : (pair : PairReport) → IsPairOf outs ins pair → IsReportOf ports pair
  of_ports pair told = record {
    order = same-accepted pair.sender pair.receiver ∙ (told.order ∙ ap (λ (l : List Request). l ++ pair.waiting.items) (sym (same-taken pair.sender pair.receiver)));
    accepted_count = told.accepted_count ∙ ap count_of (sym (same-accepted pair.sender pair.receiver));
    taken_count = told.taken_count ∙ ap count_of (sym (same-taken pair.sender pair.receiver));
  }

  pub reported : (pairs : List PairReport) → map (λ pair. (pair.sender, pair.receiver)) pairs ≡ pairs_of setup.harts setup.harts → All (IsPairOf outs ins) pairs
      → IsReport setup.harts ports pairs
  reported pairs are each = record { pairs_are = are; each = λ k d below. of_ports (get_or pairs k d) (each k d below) }
