-- Ports that were made of the rows of a net are the ports of one board.
use Rattle.std.proofs.Common.{◌≡◌, ◌∙◌, sym, ap, refl, ℕ, zero, suc, ◌<◌, ◌≤◌, List, [], ◌∷◌, length, map, Option, None, All, inl, inr, arith}
use Rattle.std.proofs.lemmas.Bool.{cases_lt}
use Rattle.std.specs.Global.{Vec}
use Rattle.std.specs.Option.{option_map}
use Rattle.std.specs.List.{range_with_len}
use Rattle.atomic_table.specs.Seated.{TableId}
use Rattle.history.specs.Setup.{Setup}
use Rattle.board.specs.Ends.{OutboxState, InboxState}
use Rattle.board.specs.Ports.{End, PortName, PortState, ArePorts, IsPort, cell, element, end_of_inbox, end_of_outbox, name_of, row}
use Rattle.board.specs.Rows.{IsNet, items_at, new_inbox_of, new_outbox_of}
use Rattle.board.proofs.RowsGrow.{row_count}

pub all_and_first : {X : Type 0} (P : X → Type 0) (x : X) (xs : List X) → P x → All P xs → All P (x ∷ xs)
all_and_first P x xs here rest zero d within = here
all_and_first P x xs here rest (suc k) d within = rest k d (omega arith)

pub nothing_in : {X : Type 0} (xs : List X) → length xs ≡ 0 → xs ≡ []
nothing_in [] none = refl
nothing_in (x ∷ xs) none = absurd (omega arith)

module _ {X Y : Type 0} (f : X → Y) where
  pub element-map : (xs : List (Option X)) (k : ℕ) → element (map (option_map f) xs) k ≡ option_map f (element xs k)
  element-map [] k = refl
  element-map (x ∷ xs) zero = refl
  element-map (x ∷ xs) (suc k) = element-map xs k

  row-map : (rows : List (List (Option X))) (k : ℕ) → row (map (map (option_map f)) rows) k ≡ map (option_map f) (row rows k)
  row-map [] k = refl
  row-map (x ∷ xs) zero = refl
  row-map (x ∷ xs) (suc k) = row-map xs k

  pub cell-map : (rows : List (List (Option X))) (s h : ℕ) → cell (map (map (option_map f)) rows) s h ≡ option_map f (cell rows s h)
  cell-map rows s h = ap (λ (r : List (Option Y)). element r h) (row-map rows s) ∙ element-map (row rows s) h

module _ {X : Type 0} where
  pub row-items : (rows : List (Vec (Option X))) (k : ℕ) → row (map (λ r. r.items) rows) k ≡ items_at rows k
  row-items [] k = refl
  row-items (x ∷ xs) zero = refl
  row-items (x ∷ xs) (suc k) = row-items xs k

  element-past : (xs : List (Option X)) (k : ℕ) → length xs ≤ k → element xs k ≡ None
  element-past [] k past = refl
  element-past (x ∷ xs) zero past = absurd (omega arith)
  element-past (x ∷ xs) (suc k) past = element-past xs k (omega arith)

  items-past : (rows : List (Vec (Option X))) (k : ℕ) → length rows ≤ k → items_at rows k ≡ []
  items-past [] k past = refl
  items-past (x ∷ xs) zero past = absurd (omega arith)
  items-past (x ∷ xs) (suc k) past = items-past xs k (omega arith)

  nothing-past : (rows : List (Vec (Option X))) (n s h : ℕ) → length rows ≡ n → ((k : ℕ) → k < n → length (items_at rows k) ≡ n) → n ≤ h → element (items_at rows s) h ≡ None
  nothing-past rows n s h count long past = elim (cases_lt s n) [
    | inl low ↦ let l = long s low in element-past (items_at rows s) h (omega (arith, l))
    | inr high ↦ ap (λ (r : List (Option X)). element r h) (items-past rows s (omega (arith, count)))
  ]

pub named_outs : (ports : List PortState) → map (λ name. name.outs) (map name_of ports) ≡ map (map (option_map end_of_outbox)) (map (λ port. port.outboxes) ports)
named_outs [] = refl
named_outs (p ∷ ps) = ap (λ rest. map (option_map end_of_outbox) p.outboxes ∷ rest) (named_outs ps)

pub named_ins : (ports : List PortState) → map (λ name. name.ins) (map name_of ports) ≡ map (map (option_map end_of_inbox)) (map (λ port. port.inboxes) ports)
named_ins [] = refl
named_ins (p ∷ ps) = ap (λ rest. map (option_map end_of_inbox) p.inboxes ∷ rest) (named_ins ps)

named_harts : (ports : List PortState) → map (λ name. name.hart) (map name_of ports) ≡ map (λ port. port.hart) ports
named_harts [] = refl
named_harts (p ∷ ps) = ap (λ rest. p.hart ∷ rest) (named_harts ps)

all-named : (P : PortName → Type 0) (ports : List PortState) → All (λ port. P (name_of port)) ports → All P (map name_of ports)
all-named P [] all k d within = absurd (omega arith)
all-named P (p ∷ ps) all zero d within = all zero p (omega arith)
all-named P (p ∷ ps) all (suc k) d within = all-named P ps (λ j e below. all (suc j) e (omega arith)) k d (omega arith)

-- the ends of ports from rows, which are those that their names give
pub out-cell : (ports : List PortState) (outs : List (Vec (Option OutboxState))) → map (λ port. port.outboxes) ports ≡ map (λ r. r.items) outs
    → (s h : ℕ) → cell (map (λ name. name.outs) (map name_of ports)) s h ≡ option_map end_of_outbox (element (items_at outs s) h)
out-cell ports outs same s h =
    ap (λ (rows : List (List (Option End))). cell rows s h) (named_outs ports)
    ∙ (cell-map end_of_outbox (map (λ port. port.outboxes) ports) s h
    ∙ (ap (λ (rows : List (List (Option OutboxState))). option_map end_of_outbox (cell rows s h)) same
    ∙ ap (λ (r : List (Option OutboxState)). option_map end_of_outbox (element r h)) (row-items outs s)))

pub in-cell : (ports : List PortState) (ins : List (Vec (Option InboxState))) → map (λ port. port.inboxes) ports ≡ map (λ r. r.items) ins
    → (s h : ℕ) → cell (map (λ name. name.ins) (map name_of ports)) h s ≡ option_map end_of_inbox (element (items_at ins h) s)
in-cell ports ins same s h =
    ap (λ (rows : List (List (Option End))). cell rows h s) (named_ins ports)
    ∙ (cell-map end_of_inbox (map (λ port. port.inboxes) ports) h s
    ∙ (ap (λ (rows : List (List (Option InboxState))). option_map end_of_inbox (cell rows h s)) same
    ∙ ap (λ (r : List (Option InboxState)). option_map end_of_inbox (element r s)) (row-items ins h)))

module _ (setup : Setup) (capacity : ℕ) (outs : List (Vec (Option OutboxState))) (ins : List (Vec (Option InboxState))) (net : IsNet capacity setup.harts outs ins) where
  linked_rows : (s h : ℕ) → option_map end_of_outbox (element (items_at outs s) h) ≡ option_map end_of_inbox (element (items_at ins h) s)
  linked_rows s h =
      let n = setup.harts in
      let out_long : (k : ℕ) → k < n → length (items_at outs k) ≡ n = λ k low. row_count end_of_outbox new_outbox_of capacity k n (items_at outs k) (net.outs_are k low) in
      let in_long : (k : ℕ) → k < n → length (items_at ins k) ≡ n = λ k low. row_count end_of_inbox new_inbox_of capacity k n (items_at ins k) (net.ins_are k low) in
      let no-outs : n ≤ s → option_map end_of_outbox (element (items_at outs s) h) ≡ None = λ high. ap (λ (r : List (Option OutboxState)). option_map end_of_outbox (element r h)) (items-past outs s (omega (arith, net.out_rows))) in
      let no-ins : n ≤ h → option_map end_of_inbox (element (items_at ins h) s) ≡ None = λ high. ap (λ (r : List (Option InboxState)). option_map end_of_inbox (element r s)) (items-past ins h (omega (arith, net.in_rows))) in
      elim (cases_lt s n) [
        | inl s-low ↦ elim (cases_lt h n) [
          | inl h-low ↦ net.linked s h s-low h-low
          | inr h-high ↦ ap (option_map end_of_outbox) (nothing-past outs n s h net.out_rows out_long (omega arith)) ∙ sym (no-ins (omega arith))
        ]
        | inr s-high ↦ no-outs (omega arith) ∙ sym (ap (option_map end_of_inbox) (nothing-past ins n h s net.in_rows in_long (omega arith)))
      ]

  pub dealt : (ports : List PortState) → map (λ port. port.outboxes) ports ≡ map (λ r. r.items) outs → map (λ port. port.inboxes) ports ≡ map (λ r. r.items) ins
      → map (λ port. port.hart) ports ≡ range_with_len 0 setup.harts → All (λ port. port.setup ≡ setup) ports
      → (table : TableId) → All (λ port. port.table ≡ table) ports → All (λ port. IsPort (name_of port)) ports
      → ArePorts setup (map name_of ports)
  dealt ports same-outs same-ins numbered of_setup table of_table each = record {
    numbered = named_harts ports ∙ numbered;
    of_setup = all-named (λ name. name.setup ≡ setup) ports of_setup;
    table = table;
    of_table = all-named (λ name. name.table ≡ table) ports of_table;
    each = all-named IsPort ports each;
    linked = λ s h. out-cell ports outs same-outs s h ∙ (linked_rows s h ∙ sym (in-cell ports ins same-ins s h));
  }
