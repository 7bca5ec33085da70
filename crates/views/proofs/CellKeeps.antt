-- Arming a cell, acknowledging, and looking at a cell keep the rule.
use Rattle.std.proofs.Common.{◌≡◌, ◌≢◌, ◌⊎◌, ℕ, zero, suc, ◌*◌, ◌==◌, ◌<◌, ◌≤◌, ◌^◌, not, Bool, true, false, cond, List, [], ◌∷◌, length, Option, Some, None, sym, refl, ap, ◌∙◌, subst, inl, inr, arith, length-set, get_or-set_other, get_or-set_same, ⊎_elim, mul-le-mul_left, mul-le-mul_right, suc-mul}
use Rattle.std.specs.Prelude.{All, Contains, slice_index, slice_set}
use Rattle.std.proofs.lemmas.List.{set-get_or}
use Rattle.std.proofs.lemmas.List.Elements.{All-contains, All-filter}
use Rattle.std.proofs.lemmas.Bool.{eqb-true, not-true, or_cases, true≢false}
use mathlib.Core.Logic.{dite}
use mathlib.Core.Option.{some, some-injective, some-ne-none}
use native.Mathlib.Decide.{ℕ_discrete}
use lib.ListN.{get_elem?}
use Rattle.atomic_table.specs.Table.{State}
use Rattle.atomic_table.proofs.Lists.{at_set}
use Rattle.pte.specs.declared.address.What.{What}
use Rattle.pte.specs.Address.{Span}
use Rattle.walk.specs.Leads.{Tables}
use Rattle.walk.specs.Pointers.{pointed}
use Rattle.spaces.specs.declared.configuration.Config.{Config}
use Rattle.spaces.specs.declared.places.Place.{Place}
use Rattle.spaces.specs.Layout.{Layout, layout_of}
use Rattle.spaces.specs.Limits.{MeetsLimits}
use Rattle.spaces.specs.declared.configuration.TheConstants.{MAX_LIVE_FRAMES}
use Rattle.tlb.specs.declared.store.Entry.{Entry}
use Rattle.tlb.specs.Service.{is_dropped, after_service}
use Rattle.tlb.proofs.Keeping.{Contains-filter, served_are_gone}
use Rattle.views.specs.declared.view.Cause.TheVariants.{Unmapped, Other}
use Rattle.views.specs.declared.view.Order.{Order}
use Rattle.views.specs.declared.view.View.{View}
use Rattle.views.specs.Rule.{board_size, cell, size, Seated, Tabled}
use Rattle.shoot.specs.declared.TheConstants.{MAX_TICKETS}
use Rattle.shoot.specs.Acknowledgement.{IsAskable, acknowledgement}
use Rattle.shoot.proofs.AcknowledgementWords.{not_zero}
use Rattle.views.specs.Orders.{Answered, asked, HoldsSince, is_in, IsLive, Kept, IsGlobalInWindow, Ordered}
use Rattle.views.specs.Board.{Board, Steps}
use Rattle.views.specs.OrderTurns.{IsAsking, IsAwaiting, acknowledged, armed, cell_by, collected, for_ticket, fresh, looked, order_of_ticket, ordered, self_acked, with_armed, with_collected, with_look}
use Rattle.views.proofs.Keeps.{keeps-load}
use Rattle.views.proofs.OnBoard.{one-seat}
use Rattle.views.proofs.OrderKeeps.{answered-same, Change, stays, clears, acks, fresh-answered, Gains, gains-none, kept-same, receiver, stands, keeps-orders}
use Rattle.spaces.proofs.WordLists.{list-behind}

-- the words of cells are of no table
beyond-tables : (c : Config) (ws : List ℕ) (homes : List _) (views : List View) (i x : ℕ) → size (layout_of c) ≤ i → Tabled c record { words = ws; homes = homes; views = views }
    → Tabled c record { words = slice_set ws i x; homes = homes; views = views }
beyond-tables c ws homes views i x past b = record {
  limits = b.limits;
  wide = omega (arith, b.wide, length-set ws i x);
  inside = λ f k g e. b.inside f k g (ap pointed (sym (list-behind (layout_of c) ws [] i x past f k)) ∙ e);
  numbered = b.numbered;
  dealt_all = b.dealt_all;
  every = b.every;
  deals = b.deals;
  undealt = λ j v at next h f k from home. list-behind (layout_of c) ws [] i x past f k ∙ b.undealt j v at next h f k from home;
  each = λ j v at. subst (λ (t : Tables). Seated c t v) (λ k f m. sym (list-behind (layout_of c) ws [] i x past f m) k) (b.each j v at);
}

-- a cell is a word of the table
pub cell-inside : (l : Layout) (s t h : ℕ) → s < length l.spares → t < MAX_TICKETS → h < length l.spares → cell l s t h < board_size l
cell-inside l s t h a b d =
    let one : suc s * length l.spares ≤ length l.spares * length l.spares = mul-le-mul_right (length l.spares) a in
    omega (arith, one, b, d, suc-mul s (length l.spares))

-- an order after a change of the open one of a ticket
for-ticket : (ticket : ℕ) (f : Order → Order) (ks : List Order) (n : ℕ) (k : Order) → get_elem? (for_ticket ticket f ks) n ≡ some k
    → (k0 : Order) × (get_elem? ks n ≡ some k0) × ((k0 ≡ k) ⊎ ((k0.ticket ≡ ticket) × (f k0 ≡ k) × (order_of_ticket ticket ks ≡ Some k0)))
for-ticket ticket f [] n k e = absurd (some-ne-none k (sym e))
for-ticket ticket f (x ∷ xs) n k e = by (x.ticket == ticket) refl n e (λ m at. for-ticket ticket f xs m k at)
  where
    by : (t : Bool) → (x.ticket == ticket) ≡ t → (n : ℕ) → get_elem? (cond t (f x ∷ xs) (x ∷ for_ticket ticket f xs)) n ≡ some k
        → ((m : ℕ) → get_elem? (for_ticket ticket f xs) m ≡ some k
        → (k0 : Order) × (get_elem? xs m ≡ some k0) × ((k0 ≡ k) ⊎ ((k0.ticket ≡ ticket) × (f k0 ≡ k) × (order_of_ticket ticket xs ≡ Some k0))))
        → (k0 : Order) × (get_elem? (x ∷ xs) n ≡ some k0) × ((k0 ≡ k) ⊎ ((k0.ticket ≡ ticket) × (f k0 ≡ k) × (cond t (Some x) (order_of_ticket ticket xs) ≡ Some k0)))
    by true is zero at more = (x, refl, inr (eqb-true x.ticket ticket is, some-injective (f x) k at, refl))
    by true is (suc n) at more = (k, at, inl refl)
    by false is zero at more = (x, refl, inl (some-injective x k at))
    by false is (suc n) at more = more n at

some-one : (a d : Order) (o : Option Order) → o ≡ Some a → o ≡ Some d → a ≡ d
some-one a d o e e' = let same : Some a ≡ Some d = sym e ∙ e' in cc

-- the orders of a seat after a change of the open one of a ticket that keeps what it follows, when it
-- began and its mark
module _ (c : Config) (words : List ℕ) (views : List View) (v w : View) (hart : w.hart ≡ v.hart) (versions : w.versions ≡ v.versions) (stores : w.stores ≡ v.stores) (ticket : ℕ) (f : Order → Order)
    (cause : (k : Order) → (f k).cause ≡ k.cause) (since : (k : Order) → (f k).since ≡ k.since) (mark : (k : Order) → (f k).anew ≡ k.anew) (n : ℕ) (k : Order)
    (at-k : get_elem? (for_ticket ticket f v.orders) n ≡ some k) where
  answered-for : ((m : ℕ) (k0 : Order) → get_elem? v.orders m ≡ some k0 → Answered c words views v k0)
      → ((k0 : Order) → k0.ticket ≡ ticket → order_of_ticket ticket v.orders ≡ Some k0 → Answered c words views w k0 → Answered c words views w (f k0))
      → Answered c words views w k
  answered-for stood change =
      let r = for-ticket ticket f v.orders n k at-k in
      let was = answered-same c v w hart versions stores r.0 r.0 refl refl words views refl refl refl (stood n r.0 r.1) in
      elim r.2 [
        | inl same ↦ subst (λ (z : Order). Answered c words views w z) same was
        | inr new ↦ subst (λ (z : Order). Answered c words views w z) new.1 (change r.0 new.0 new.2 was)
      ]

  kept-for : ((m : ℕ) (k0 : Order) → get_elem? v.orders m ≡ some k0 → (place : Place) (page : Span) → IsLive k0 place page → Kept c v k0 place page)
      → (place : Place) (page : Span) → IsLive k place page → Kept c w k place page
  kept-for stood place page live =
      let r = for-ticket ticket f v.orders n k at-k in
      elim r.2 [
        | inl same ↦
            subst (λ (z : Order). IsLive z place page → Kept c w z place page) same
            (λ l. kept-same c v w hart versions stores r.0 r.0 refl refl place page (stood n r.0 r.1 place page l)) live
        | inr new ↦
            subst (λ (z : Order). IsLive z place page → Kept c w z place page) new.1
            (λ l. kept-same c v w hart versions stores r.0 (f r.0) (cause r.0) (since r.0) place page (stood n r.0 r.1 place page (sym (cause r.0) ∙ l.0, sym (mark r.0) ∙ l.1))) live
      ]

module _ (c : Config) (id : ℕ) (v : View) where
  -- arming: the sender stores 0
  module _ (ticket to : ℕ) (small-ticket : ticket < MAX_TICKETS) (small : to < length (layout_of c).spares) (s : State ℕ View) (b : Tabled c s) (o : Ordered c s) (at : get_elem? s.views id ≡ some v) where
    abbrev armed-cell : ℕ
    armed-cell = cell (layout_of c) v.hart ticket to

    abbrev armed-words : List ℕ
    armed-words = slice_set s.words armed-cell 0

    abbrev armed-view : View
    armed-view = with_armed ticket to v

    abbrev armed-views : List View
    armed-views = slice_set s.views id armed-view

    armed-there : armed-cell < length s.words
    armed-there = let t = b.each id v at in let i = cell-inside (layout_of c) v.hart ticket to t.local.hart small-ticket small in omega (arith, b.wide, i)

    armed-cells : (a t h : ℕ) → t < MAX_TICKETS → h < length (layout_of c).spares → Change c v.hart h (slice_index s.words (cell (layout_of c) a t h)) (slice_index armed-words (cell (layout_of c) a t h)) v.entries
    armed-cells a t h few less = dite (ℕ_discrete (cell (layout_of c) a t h) armed-cell)
        (λ (e : cell (layout_of c) a t h ≡ armed-cell). clears (ap (λ n. slice_index armed-words n) e ∙ get_or-set_same s.words armed-cell 0 0 armed-there))
        (λ (n : cell (layout_of c) a t h ≢ armed-cell). stays (get_or-set_other s.words armed-cell (cell (layout_of c) a t h) 0 0 n))

    armed-order : (k : Order) → k.ticket ≡ ticket → Answered c armed-words armed-views armed-view k → Answered c armed-words armed-views armed-view (armed to k)
    armed-order k same t = record {
      begun = t.begun;
      askable = t.askable;
      numbered = λ h is. subst (λ (n : ℕ). n < MAX_TICKETS) (sym same) small-ticket;
      acked = λ h less is now. elim (or_cases (to == h) (is_in h k.armed) is) [
        | inl me ↦
            let zero-there : slice_index armed-words (cell (layout_of c) v.hart k.ticket h) ≡ 0 =
            ap (λ n. slice_index armed-words (cell (layout_of c) v.hart n h)) same ∙ ap (λ n. slice_index armed-words (cell (layout_of c) v.hart ticket n)) (sym (eqb-true to h me))
            ∙ get_or-set_same s.words armed-cell 0 0 armed-there in
            absurd (not_zero (asked c k.cause) (sym now ∙ zero-there))
        | inr before ↦ t.acked h less before now
      ];
      gone = t.gone;
    }

    arm-orders : Ordered c record { words = armed-words; homes = s.homes; views = armed-views }
    arm-orders =
        let gains : Gains c s v armed-view = gains-none c s v armed-view (λ e is. is) in
        keeps-orders c s b o id v armed-view at refl armed-words gains armed-cells (o.window id v at) (o.latest id v at)
        (λ n k at-k. answered-for c armed-words armed-views v armed-view refl refl refl ticket (armed to) (λ k. refl) (λ k. refl) (λ k. refl) n k at-k
        (λ m k0 at-0. stands c s b o id v armed-view at refl armed-words gains armed-cells id v at m k0 at-0) (λ k0 same first was. armed-order k0 same was))
        (λ n k at-k. kept-for c armed-words armed-views v armed-view refl refl refl ticket (armed to) (λ k. refl) (λ k. refl) (λ k. refl) n k at-k (o.kept id v at)) s.homes

  pub arms : (ticket to : ℕ) → ticket < MAX_TICKETS → to < length (layout_of c).spares
      → Steps c id v (cell (layout_of c) v.hart ticket to) (λ _. 0) (λ _. with_armed ticket to v) (λ _. Unit {0})
  arms ticket to small-ticket small s b at fits =
      let t = b.tables.each id v at in (
        record {
          tables = beyond-tables c s.words s.homes (slice_set s.views id (with_armed ticket to v)) (cell (layout_of c) v.hart ticket to) 0 (omega arith)
              (keeps-load c s b.tables id v (with_armed ticket to v) at refl refl record { local = record { hart = t.local.hart; memory = t.local.memory; alone = t.local.alone; lowest = t.local.lowest }; config = t.config; own = t.own; walk = t.walk });
          orders = arm-orders ticket to small-ticket small s b.tables b.orders at;
        },
        tt,
      )

  -- what is left after a service is nothing that was asked for
  dropped-none : (entries : List Entry) (what : What) (e : Entry) → Contains (after_service entries what) e → is_dropped what e ≡ true → ⊥
  dropped-none entries what e is dropped = true≢false (sym dropped ∙ not-true (is_dropped what e) (All-contains (λ x. not (is_dropped what x) ≡ true) (after_service entries what) e (served_are_gone entries what) is))

  -- acknowledging: the receiver stores the word of what it served
  module _ (from ticket : ℕ) (what : What) (small-from : from < length (layout_of c).spares) (small-ticket : ticket < MAX_TICKETS) (asks : IsAskable what)
      (w : View) (hart : w.hart ≡ v.hart) (versions : w.versions ≡ v.versions) (words : w.words ≡ v.words) (stores : w.stores ≡ v.stores) (entries : w.entries ≡ after_service v.entries what)
      (s : State ℕ View) (b : Tabled c s) (o : Ordered c s) (at : get_elem? s.views id ≡ some v) where
    abbrev acked-cell : ℕ
    acked-cell = cell (layout_of c) from ticket v.hart

    abbrev acked-words : List ℕ
    acked-words = slice_set s.words acked-cell (acknowledgement what)

    abbrev acked-views : List View
    acked-views = slice_set s.views id w

    acked-there : acked-cell < length s.words
    acked-there = let t = b.each id v at in let i = cell-inside (layout_of c) from ticket v.hart small-from small-ticket t.local.hart in omega (arith, b.wide, i)

    none-now : (e : Entry) → Contains w.entries e → is_dropped what e ≡ true → ⊥
    none-now e is dropped = dropped-none v.entries what e (subst (λ es. Contains es e) entries is) dropped

    acked-cells : (a t h : ℕ) → t < MAX_TICKETS → h < length (layout_of c).spares → Change c v.hart h (slice_index s.words (cell (layout_of c) a t h)) (slice_index acked-words (cell (layout_of c) a t h)) w.entries
    acked-cells a t h few less = dite (ℕ_discrete (cell (layout_of c) a t h) acked-cell)
        (λ (e : cell (layout_of c) a t h ≡ acked-cell).
        acks (receiver (layout_of c) a t h from ticket v.hart few small-ticket less (b.each id v at).local.hart e) what asks (ap (λ n. slice_index acked-words n) e ∙ get_or-set_same s.words acked-cell (acknowledgement what) 0 acked-there) none-now)
        (λ (n : cell (layout_of c) a t h ≢ acked-cell). stays (get_or-set_other s.words acked-cell (cell (layout_of c) a t h) (acknowledgement what) 0 n))

    gains : Gains c s v w
    gains = gains-none c s v w (λ e is. Contains-filter (λ x. not (is_dropped what x)) v.entries e (subst (λ es. Contains es e) entries is))

    window-now : All (IsGlobalInWindow (layout_of c)) w.entries
    window-now = subst (All (IsGlobalInWindow (layout_of c))) (sym entries) (All-filter (λ e. not (is_dropped what e)) (IsGlobalInWindow (layout_of c)) v.entries (o.window id v at))

    acked-stands : (n : ℕ) (k : Order) → get_elem? v.orders n ≡ some k → Answered c acked-words acked-views v k
    acked-stands n k at-k = stands c s b o id v w at hart acked-words gains acked-cells id v at n k at-k

    ack-orders : ((n : ℕ) (k : Order) → get_elem? w.orders n ≡ some k → Answered c acked-words acked-views w k)
        → ((n : ℕ) (k : Order) → get_elem? w.orders n ≡ some k → (place : Place) (page : Span) → IsLive k place page → Kept c w k place page)
        → Ordered c record { words = acked-words; homes = s.homes; views = acked-views }
    ack-orders answers mine =
        keeps-orders c s b o id v w at hart acked-words gains acked-cells window-now
        (subst (λ vs. get_elem? vs 0 ≡ some w.words) (sym versions) (subst (λ ws. get_elem? v.versions 0 ≡ some ws) (sym words) (o.latest id v at))) answers mine s.homes

    -- the receiver holds nothing of an order that asks for this
    mine-none : (u : View) (k : Order) → asked c k.cause ≡ what → HoldsSince c acked-views v.hart u k
    mine-none u k same i x here is e in-x dropped from =
        ⊎_elim (λ (t : (i ≡ id) × (w ≡ x)). absurd (none-now e (subst (λ (z : View). Contains z.entries e) (sym t.1) in-x) (subst (λ q. is_dropped q e ≡ true) same dropped)))
        (λ (t : (i ≢ id) × (get_elem? s.views i ≡ some x)). absurd (t.0 (one-seat c s b i id x v t.1 at is)))
        (at_set s.views id i w x here)

  acknowledges : (from ticket : ℕ) (what : What) → from < length (layout_of c).spares → ticket < MAX_TICKETS → IsAskable what
      → Steps c id v (cell (layout_of c) from ticket v.hart) (λ _. acknowledgement what) (λ _. acknowledged from ticket what v) (λ _. Unit {0})
  acknowledges from ticket what small-from small-ticket asks s b at fits =
      let t = b.tables.each id v at in
      let w : View = acknowledged from ticket what v in (
        record {
          tables = beyond-tables c s.words s.homes (slice_set s.views id w) (cell (layout_of c) from ticket v.hart) (acknowledgement what) (omega arith)
              (keeps-load c s b.tables id v w at refl refl record { local = record { hart = t.local.hart; memory = t.local.memory; alone = t.local.alone; lowest = t.local.lowest }; config = t.config; own = t.own; walk = t.walk });
          orders = ack-orders from ticket what small-from small-ticket asks w refl refl refl refl refl s b.tables b.orders at
              (λ n k at-k. answered-same c v w refl refl refl k k refl refl _ _ refl refl refl (acked-stands from ticket what small-from small-ticket asks w refl refl refl refl refl s b.tables b.orders at n k at-k))
              (λ n k at-k place page live. kept-same c v w refl refl refl k k refl refl place page (b.orders.kept id v at n k at-k place page live));
        },
        tt,
      )

  pub acknowledges-by : (from ticket word : ℕ) (what : What) → from < length (layout_of c).spares → ticket < MAX_TICKETS → IsAskable what → word ≡ acknowledgement what
      → Steps c id v (cell (layout_of c) from ticket v.hart) (λ _. word) (λ _. acknowledged from ticket what v) (λ _. Unit {0})
  acknowledges-by from ticket word what small-from small-ticket asks is =
      subst (λ (x : ℕ). Steps c id v (cell (layout_of c) from ticket v.hart) (λ _. x) (λ _. acknowledged from ticket what v) (λ _. Unit {0})) (sym is) (acknowledges from ticket what small-from small-ticket asks)

  -- an order that follows no store opens with a load that changes nothing else
  pub opens-order : (i ticket : ℕ) (what : What) → IsAskable what → Steps c id v i (λ n. n) (λ _. ordered ticket what v) (λ _. Unit {0})
  opens-order i ticket what asks s b at fits = (
    subst (λ (ws : List ℕ). Board c record { words = ws; homes = s.homes; views = slice_set s.views id (ordered ticket what v) }) (sym (set-get_or s.words i 0)) (
        let t = b.tables.each id v at in
        let w : View = ordered ticket what v in
        record {
          tables = keeps-load c s b.tables id v w at refl refl record { config = t.config; local = record { hart = t.local.hart; memory = t.local.memory; alone = t.local.alone; lowest = t.local.lowest }; own = t.own; walk = t.walk };
          orders =
              keeps-orders c s b.tables b.orders id v w at refl s.words (gains-none c s v w (λ e is. is)) (λ a t h few less. stays refl) (b.orders.window id v at) (b.orders.latest id v at)
              (answers s b at) (mine s b at) s.homes;
        }),
    tt,
  )
    where
      answers : (s : State ℕ View) (b : Board c s) (at : get_elem? s.views id ≡ some v) (n : ℕ) (k : Order) → get_elem? (fresh ticket (Other what) v.stores ∷ v.orders) n ≡ some k
          → Answered c s.words (slice_set s.views id (ordered ticket what v)) (ordered ticket what v) k
      answers s b at zero k at-k =
          subst (λ (z : Order). Answered c s.words (slice_set s.views id (ordered ticket what v)) (ordered ticket what v) z) (some-injective (fresh ticket (Other what) v.stores) k at-k)
          (fresh-answered c s.words (slice_set s.views id (ordered ticket what v)) (ordered ticket what v) ticket (Other what) asks)
      answers s b at (suc n) k at-k =
          answered-same c v (ordered ticket what v) refl refl refl k k refl refl s.words (slice_set s.views id (ordered ticket what v)) refl refl refl
          (stands c s b.tables b.orders id v (ordered ticket what v) at refl s.words (gains-none c s v (ordered ticket what v) (λ e is. is)) (λ a t h few less. stays refl) id v at n k at-k)

      mine : (s : State ℕ View) (b : Board c s) (at : get_elem? s.views id ≡ some v) (n : ℕ) (k : Order) → get_elem? (fresh ticket (Other what) v.stores ∷ v.orders) n ≡ some k
          → (place : Place) (page : Span) → IsLive k place page → Kept c (ordered ticket what v) k place page
      mine s b at zero k at-k place page live =
          absurd (let one = some-injective (fresh ticket (Other what) v.stores) k at-k in let bad : Other what ≡ Unmapped place page = ap (λ (z : Order). z.cause) one ∙ live.0 in cc)
      mine s b at (suc n) k at-k place page live = kept-same c v (ordered ticket what v) refl refl refl k k refl refl place page (b.orders.kept id v at n k at-k place page live)

  -- looking at a cell
  module _ (ticket from : ℕ) (what : What) (small : from < length (layout_of c).spares) (awaits : IsAwaiting c v ticket from what) (s : State ℕ View) (b : Tabled c s) (o : Ordered c s)
      (at : get_elem? s.views id ≡ some v) (found : slice_index s.words (cell (layout_of c) v.hart ticket from) ≡ acknowledgement what) where
    -- what the sender then knows
    abbrev looked-view : View
    looked-view = with_look (cell_by v v.hart ticket from) (slice_index s.words (cell (layout_of c) v.hart ticket from)) (with_collected ticket from v)

    abbrev looked-views : List View
    looked-views = slice_set s.views id looked-view

    collected-order : (k : Order) → k.ticket ≡ ticket → order_of_ticket ticket v.orders ≡ Some k → Answered c s.words looked-views looked-view k → Answered c s.words looked-views looked-view (collected from k)
    collected-order k same first t =
        let mine : awaits.asking.order ≡ k = some-one awaits.asking.order k (order_of_ticket ticket v.orders) awaits.asking.is first in
        let armed-for : is_in from k.armed ≡ true = ap (λ (z : Order). is_in from z.armed) (sym mine) ∙ awaits.armed in
        let asks : what ≡ asked c k.cause = sym awaits.asking.asks ∙ ap (λ (z : Order). asked c z.cause) mine in
        let now : slice_index s.words (cell (layout_of c) v.hart k.ticket from) ≡ acknowledgement (asked c k.cause) =
        ap (λ n. slice_index s.words (cell (layout_of c) v.hart n from)) same ∙ found ∙ ap acknowledgement asks in
        record {
          begun = t.begun;
          askable = t.askable;
          numbered = t.numbered;
          acked = t.acked;
          gone = λ h less got. elim (or_cases (from == h) (is_in h k.collected) got) [
            | inl me ↦ subst (λ x. HoldsSince c looked-views x looked-view k) (eqb-true from h me) (t.acked from small armed-for now)
            | inr before ↦ t.gone h less before
          ];
        }

    look-orders : Ordered c record { words = s.words; homes = s.homes; views = looked-views }
    look-orders =
        let gains : Gains c s v looked-view = gains-none c s v looked-view (λ e is. is) in
        keeps-orders c s b o id v looked-view at refl s.words gains (λ a t h few less. stays refl) (o.window id v at) (o.latest id v at)
        (λ n k at-k. answered-for c s.words looked-views v looked-view refl refl refl ticket (collected from) (λ k. refl) (λ k. refl) (λ k. refl) n k at-k
        (λ m k0 at-0. stands c s b o id v looked-view at refl s.words gains (λ a t h few less. stays refl) id v at m k0 at-0) (λ k0 same first was. collected-order k0 same first was))
        (λ n k at-k. kept-for c s.words looked-views v looked-view refl refl refl ticket (collected from) (λ k. refl) (λ k. refl) (λ k. refl) n k at-k (o.kept id v at)) s.homes

  pub looks : (ticket from : ℕ) (what : What) → from < length (layout_of c).spares → IsAwaiting c v ticket from what
      → Steps c id v (cell (layout_of c) v.hart ticket from) (λ n. n) (λ n. looked ticket from (n == acknowledgement what) n v) (λ _. Unit {0})
  looks ticket from what small awaits s b at fits = (
    subst (λ (ws : List ℕ). Board c record { words = ws; homes = s.homes; views = slice_set s.views id (looked ticket from (slice_index s.words (cell (layout_of c) v.hart ticket from) == acknowledgement what) (slice_index s.words (cell (layout_of c) v.hart ticket from)) v) })
        (sym (set-get_or s.words (cell (layout_of c) v.hart ticket from) 0)) (by (slice_index s.words (cell (layout_of c) v.hart ticket from) == acknowledgement what) refl),
    tt,
  )
    where
      by : (q : Bool) → (slice_index s.words (cell (layout_of c) v.hart ticket from) == acknowledgement what) ≡ q
          → Board c record { words = s.words; homes = s.homes; views = slice_set s.views id (with_look (cell_by v v.hart ticket from) (slice_index s.words (cell (layout_of c) v.hart ticket from)) (cond q (with_collected ticket from v) v)) }
      by true e =
          let t = b.tables.each id v at in
          let w : View = with_look (cell_by v v.hart ticket from) (slice_index s.words (cell (layout_of c) v.hart ticket from)) (with_collected ticket from v) in
          record {
            tables = keeps-load c s b.tables id v w at refl refl record { config = t.config; local = record { hart = t.local.hart; memory = t.local.memory; alone = t.local.alone; lowest = t.local.lowest }; own = t.own; walk = t.walk };
            orders = look-orders ticket from what small awaits s b.tables b.orders at (eqb-true (slice_index s.words (cell (layout_of c) v.hart ticket from)) (acknowledgement what) e);
          }
      by false e =
          let t = b.tables.each id v at in
          let w : View = with_look (cell_by v v.hart ticket from) (slice_index s.words (cell (layout_of c) v.hart ticket from)) v in
          record {
            tables = keeps-load c s b.tables id v w at refl refl record { config = t.config; local = record { hart = t.local.hart; memory = t.local.memory; alone = t.local.alone; lowest = t.local.lowest }; own = t.own; walk = t.walk };
            orders = keeps-orders c s b.tables b.orders id v w at refl s.words (gains-none c s v w (λ x is. is)) (λ a t h few less. stays refl) (b.orders.window id v at) (b.orders.latest id v at)
                (λ n k at-k. answered-same c v w refl refl refl k k refl refl s.words (slice_set s.views id w) refl refl refl
                (stands c s b.tables b.orders id v w at refl s.words (gains-none c s v w (λ x is. is)) (λ a t h few less. stays refl) id v at n k at-k))
                (λ n k at-k place page live. kept-same c v w refl refl refl k k refl refl place page (b.orders.kept id v at n k at-k place page live)) s.homes;
          }

  -- the sender's own acknowledgement
  acknowledges-self : (ticket : ℕ) (what : What) → ticket < MAX_TICKETS → IsAskable what → IsAsking c v ticket what
      → Steps c id v (cell (layout_of c) v.hart ticket v.hart) (λ _. acknowledgement what) (λ _. self_acked ticket what v) (λ _. Unit {0})
  acknowledges-self ticket what small-ticket asks asking s b at fits =
      let t = b.tables.each id v at in
      let w : View = self_acked ticket what v in
      let words : List ℕ = slice_set s.words (cell (layout_of c) v.hart ticket v.hart) (acknowledgement what) in
      let views : List View = slice_set s.views id w in (
        record {
          tables = beyond-tables c s.words s.homes views (cell (layout_of c) v.hart ticket v.hart) (acknowledgement what) (omega arith)
              (keeps-load c s b.tables id v w at refl refl record { config = t.config; local = record { hart = t.local.hart; memory = t.local.memory; alone = t.local.alone; lowest = t.local.lowest }; own = t.own; walk = t.walk });
          orders = ack-orders v.hart ticket what t.local.hart small-ticket asks w refl refl refl refl refl s b.tables b.orders at
              (λ n k at-k. answered-for c words views v w refl refl refl ticket (collected v.hart) (λ k. refl) (λ k. refl) (λ k. refl) n k at-k
              (λ m k0 at-0. acked-stands v.hart ticket what t.local.hart small-ticket asks w refl refl refl refl refl s b.tables b.orders at m k0 at-0)
              (λ k0 same first was. self-order words views k0 first was (mine-none v.hart ticket what t.local.hart small-ticket asks w refl refl refl refl refl s b.tables b.orders at w k0)))
              (λ n k at-k. kept-for c words views v w refl refl refl ticket (collected v.hart) (λ k. refl) (λ k. refl) (λ k. refl) n k at-k (b.orders.kept id v at));
        },
        tt,
      )
    where
      self-order : (words : List ℕ) (views : List View) (k : Order) → order_of_ticket ticket v.orders ≡ Some k → Answered c words views (self_acked ticket what v) k
          → (asked c k.cause ≡ what → HoldsSince c views v.hart (self_acked ticket what v) k) → Answered c words views (self_acked ticket what v) (collected v.hart k)
      self-order words views k first t none =
          let mine : asking.order ≡ k = some-one asking.order k (order_of_ticket ticket v.orders) asking.is first in
          let asked-for : asked c k.cause ≡ what = ap (λ (z : Order). asked c z.cause) (sym mine) ∙ asking.asks in
          record {
            begun = t.begun;
            askable = t.askable;
            numbered = t.numbered;
            acked = t.acked;
            gone = λ h less got. elim (or_cases (v.hart == h) (is_in h k.collected) got) [
              | inl me ↦ subst (λ x. HoldsSince c views x (self_acked ticket what v) k) (eqb-true v.hart h me) (none asked-for)
              | inr before ↦ t.gone h less before
            ];
          }

  pub acknowledges-self-by : (ticket word : ℕ) (what : What) → ticket < MAX_TICKETS → IsAskable what → IsAsking c v ticket what → word ≡ acknowledgement what
      → Steps c id v (cell (layout_of c) v.hart ticket v.hart) (λ _. word) (λ _. self_acked ticket what v) (λ _. Unit {0})
  acknowledges-self-by ticket word what small-ticket asks asking is =
      subst (λ (x : ℕ). Steps c id v (cell (layout_of c) v.hart ticket v.hart) (λ _. x) (λ _. self_acked ticket what v) (λ _. Unit {0})) (sym is) (acknowledges-self ticket what small-ticket asks asking)

-- how many words there are at most
pub small-board : (c : Config) → MeetsLimits MAX_LIVE_FRAMES c → board_size (layout_of c) < 2 ^ 32
small-board c limits =
    let harts : length (layout_of c).spares ≤ 8 = omega (arith, limits.spares, limits.harts) in
    let one : length (layout_of c).spares * length (layout_of c).spares ≤ length (layout_of c).spares * 8 = mul-le-mul_left (length (layout_of c).spares) harts in
    omega (arith, one, harts, limits.frames_fit)
