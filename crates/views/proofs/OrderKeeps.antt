-- A step of one seat keeps what the board says of orders.
use Rattle.std.proofs.Common.{◌≡◌, ◌≢◌, ◌⊎◌, ℕ, ◌+◌, ◌*◌, ◌%◌, ◌<◌, ◌≤◌, true, List, length, sym, refl, ap, ◌∙◌, subst, ⊎_elim, inl, arith}
use Rattle.std.specs.Prelude.{All, Contains, slice_index, slice_set}
use Rattle.std.proofs.lemmas.Bool.{false≢true}
use Rattle.std.proofs.lemmas.Nat.{mod-mul-add}
use mathlib.Core.Option.{some}
use lib.ListN.{get_elem?}
use Rattle.atomic_table.specs.Table.{State}
use Rattle.atomic_table.proofs.Lists.{at_set}
use Rattle.pte.specs.declared.address.What.{What}
use Rattle.pte.specs.Address.{Span}
use Rattle.tlb.specs.Service.{is_dropped}
use Rattle.spaces.specs.declared.configuration.Config.{Config}
use Rattle.spaces.specs.declared.places.Place.{Place}
use Rattle.spaces.specs.Layout.{Layout, layout_of}
use Rattle.tlb.specs.declared.store.Entry.{Entry}
use Rattle.shoot.specs.Acknowledgement.{IsAskable, acknowledgement}
use Rattle.shoot.proofs.AcknowledgementWords.{not_zero, same_what}
use Rattle.views.specs.declared.view.Cause.{Cause}
use Rattle.views.specs.declared.view.Order.{Order}
use Rattle.views.specs.declared.view.View.{View}
use Rattle.views.specs.Rule.{cell, tables_in, Tabled}
use Rattle.views.proofs.OnBoard.{one-seat}
use Rattle.shoot.specs.declared.TheConstants.{MAX_TICKETS}
use Rattle.views.specs.OrderTurns.{fresh}
use Rattle.views.specs.Orders.{Answered, asked, HoldsSince, IsFrom, is_in, IsLive, IsMapped, IsSince, Kept, IsGlobalInWindow, Ordered}

-- the receiver of a cell is read from its number
pub receiver : (l : Layout) (s t h s' t' h' : ℕ) → t < MAX_TICKETS → t' < MAX_TICKETS → h < length l.spares → h' < length l.spares → cell l s t h ≡ cell l s' t' h' → h ≡ h'
receiver l s t h s' t' h' few few' lt lt' e =
    let e' : s * length l.spares + h ≡ s' * length l.spares + h' = omega (arith, e, few, few') in
    sym (mod-mul-add s (length l.spares) h lt) ∙ (ap (λ (n : ℕ). n % length l.spares) e' ∙ mod-mul-add s' (length l.spares) h' lt')

-- what a step of the seat of this hart, which then has these entries, makes of a cell of the
-- receiver h
pub data Change (c : Config) (hart h old new : ℕ) (entries : List Entry) : Type 0 where
  stays : new ≡ old → Change c hart h old new entries
  clears : new ≡ 0 → Change c hart h old new entries
  -- the receiver holds nothing of what it acknowledges
  acks : h ≡ hart → (what : What) → IsAskable what → new ≡ acknowledgement what
      → ((e : Entry) → Contains entries e → is_dropped what e ≡ true → ⊥) → Change c hart h old new entries

-- some words since the order began map the entry
abbrev pub MappedSince : Config → View → Order → Entry → Type 0
MappedSince c v k e = (words : List ℕ) × IsSince v k words × IsMapped c (tables_in (layout_of c) words) e

-- an entry that the seat holds after the step it held before, or of what an order asks to drop of
-- its home's the words since then map it
abbrev pub Gains : Config → State ℕ View → View → View → Type 0
Gains c s v w =
    (j : ℕ) (u : View) → get_elem? s.views j ≡ some u → (n : ℕ) (k : Order) → get_elem? u.orders n ≡ some k → (e : Entry) → Contains w.entries e → is_dropped (asked c k.cause) e ≡ true → IsFrom c u.hart e
    → Contains v.entries e ⊎ MappedSince c u k e

pub gains-none : (c : Config) (s : State ℕ View) (v w : View) → ((e : Entry) → Contains w.entries e → Contains v.entries e) → Gains c s v w
gains-none c s v w held j u at-u n k at-k e is dropped from = inl (held e is)

module _ (c : Config) (s : State ℕ View) (b : Tabled c s) (o : Ordered c s) (id : ℕ) (v w : View) (at : get_elem? s.views id ≡ some v) (hart : w.hart ≡ v.hart) (words' : List ℕ)
    (gains : Gains c s v w)
    (cells : (a t h : ℕ) → t < MAX_TICKETS → h < length (layout_of c).spares
    → Change c v.hart h (slice_index s.words (cell (layout_of c) a t h)) (slice_index words' (cell (layout_of c) a t h)) w.entries) where
  abbrev pub views' : List View
  views' = slice_set s.views id w

  module _ (j : ℕ) (u : View) (at-u : get_elem? s.views j ≡ some u) (n : ℕ) (k : Order) (at-k : get_elem? u.orders n ≡ some k) where
    old : Answered c s.words s.views u k
    old = o.answered j u at-u n k at-k

    -- what a hart holds of an order is still mapped since
    pub since-on : (h : ℕ) → HoldsSince c s.views h u k → HoldsSince c views' h u k
    since-on h holds i x here is e in-x dropped from =
        ⊎_elim (λ (t : (i ≡ id) × (w ≡ x)).
        ⊎_elim (λ (was : Contains v.entries e). holds id v at (sym hart ∙ (ap (λ (z : View). z.hart) t.1 ∙ is)) e was dropped from) (λ (new : MappedSince c u k e). new)
        (gains j u at-u n k at-k e (subst (λ (z : View). Contains z.entries e) (sym t.1) in-x) dropped from))
        (λ (t : (i ≢ id) × (get_elem? s.views i ≡ some x)). holds i x t.1 is e in-x dropped from)
        (at_set s.views id i w x here)

    -- the seat that steps alone has its hart
    pub none-held : ((e : Entry) → Contains w.entries e → is_dropped (asked c k.cause) e ≡ true → ⊥) → HoldsSince c views' v.hart u k
    none-held none i x here is e in-x dropped from =
        ⊎_elim (λ (t : (i ≡ id) × (w ≡ x)). absurd (none e (subst (λ (z : View). Contains z.entries e) (sym t.1) in-x) dropped))
        (λ (t : (i ≢ id) × (get_elem? s.views i ≡ some x)). absurd (t.0 (one-seat c s b i id x v t.1 at is)))
        (at_set s.views id i w x here)

    -- a cell that had the order's word, or has it now: its receiver dropped what is asked
    pub cell-holds : (h : ℕ) → h < length (layout_of c).spares → k.ticket < MAX_TICKETS
        → (slice_index s.words (cell (layout_of c) u.hart k.ticket h) ≡ acknowledgement (asked c k.cause) → HoldsSince c s.views h u k)
        → slice_index words' (cell (layout_of c) u.hart k.ticket h) ≡ acknowledgement (asked c k.cause) → HoldsSince c views' h u k
    cell-holds h small few before now = by (cells u.hart k.ticket h few small) where
      by : Change c v.hart h (slice_index s.words (cell (layout_of c) u.hart k.ticket h)) (slice_index words' (cell (layout_of c) u.hart k.ticket h)) w.entries → HoldsSince c views' h u k
      by (stays e) = since-on h (before (sym e ∙ now))
      by (clears e) = absurd (not_zero (asked c k.cause) (sym now ∙ e))
      by (acks me what asks e none) =
          let same : asked c k.cause ≡ what = same_what (asked c k.cause) what old.askable asks (sym now ∙ e) in
          subst (λ x. HoldsSince c views' x u k) (sym me) (none-held (subst (λ x. (d : Entry) → Contains w.entries d → is_dropped x d ≡ true → ⊥) (sym same) none))

    -- an order stands on
    pub stands : Answered c words' views' u k
    stands = record {
      begun = old.begun;
      askable = old.askable;
      numbered = old.numbered;
      acked = λ h small armed now. cell-holds h small (old.numbered h armed) (old.acked h small armed) now;
      gone = λ h small got. since-on h (old.gone h small got);
    }

  -- the rule after the step, by what stands of the orders of the seat that steps
  pub keeps-orders : All (IsGlobalInWindow (layout_of c)) w.entries → get_elem? w.versions 0 ≡ some w.words
      → ((n : ℕ) (k : Order) → get_elem? w.orders n ≡ some k → Answered c words' views' w k)
      → ((n : ℕ) (k : Order) → get_elem? w.orders n ≡ some k → (place : Place) (page : Span) → IsLive k place page → Kept c w k place page)
      → (homes : _) → Ordered c record { words = words'; homes = homes; views = views' }
  keeps-orders window latest answers mine homes = record {
    window = λ j u here.
        ⊎_elim (λ (t : (j ≡ id) × (w ≡ u)). subst (λ (z : View). All (IsGlobalInWindow (layout_of c)) z.entries) t.1 window)
        (λ (t : (j ≢ id) × (get_elem? s.views j ≡ some u)). o.window j u t.1)
        (at_set s.views id j w u here);
    latest = λ j u here.
        ⊎_elim (λ (t : (j ≡ id) × (w ≡ u)). subst (λ (z : View). get_elem? z.versions 0 ≡ some z.words) t.1 latest)
        (λ (t : (j ≢ id) × (get_elem? s.views j ≡ some u)). o.latest j u t.1)
        (at_set s.views id j w u here);
    answered = λ j u here.
        ⊎_elim (λ (t : (j ≡ id) × (w ≡ u)). subst (λ (z : View). (n : ℕ) (k : Order) → get_elem? z.orders n ≡ some k → Answered c words' views' z k) t.1 answers)
        (λ (t : (j ≢ id) × (get_elem? s.views j ≡ some u)). stands j u t.1)
        (at_set s.views id j w u here);
    kept = λ j u here.
        ⊎_elim (λ (t : (j ≡ id) × (w ≡ u)).
        subst (λ (z : View). (n : ℕ) (k : Order) → get_elem? z.orders n ≡ some k → (place : Place) (page : Span) → IsLive k place page → Kept c z k place page) t.1 mine)
        (λ (t : (j ≢ id) × (get_elem? s.views j ≡ some u)). o.kept j u t.1)
        (at_set s.views id j w u here);
  }

-- what a view says of an order a later view of the hart says of the order as it is then, where words
-- since the one are words since the other
module _ (c : Config) (v w : View) (hart : w.hart ≡ v.hart) (k k' : Order) (cause : k'.cause ≡ k.cause) (longer : (words : List ℕ) → IsSince v k words → IsSince w k' words) where
  holds-later : (views : List View) (h : ℕ) → HoldsSince c views h v k → HoldsSince c views h w k'
  holds-later views h holds j x at is e in-x dropped from =
      let r = holds j x at is e in-x (subst (λ z. is_dropped (asked c z) e ≡ true) cause dropped) (subst (λ z. IsFrom c z e) hart from) in
      (r.0, longer r.0 r.1, r.2)

  pub answered-later : (words : List ℕ) (views : List View) → k'.since ≤ w.stores → k'.ticket ≡ k.ticket → k'.armed ≡ k.armed → k'.collected ≡ k.collected → Answered c words views v k
      → Answered c words views w k'
  answered-later words views begun ticket armed collected a = record {
    begun = begun;
    askable = subst (λ z. IsAskable (asked c z)) (sym cause) a.askable;
    numbered = λ h is. subst (λ n. n < MAX_TICKETS) (sym ticket) (a.numbered h (subst (λ hs. is_in h hs ≡ true) armed is));
    acked = λ h small is now. holds-later views h (a.acked h small (subst (λ hs. is_in h hs ≡ true) armed is)
        (subst (λ z. slice_index words (cell (layout_of c) v.hart k.ticket h) ≡ acknowledgement (asked c z)) cause
        (subst (λ n. slice_index words (cell (layout_of c) v.hart n h) ≡ acknowledgement (asked c k'.cause)) ticket
        (subst (λ n. slice_index words (cell (layout_of c) n k'.ticket h) ≡ acknowledgement (asked c k'.cause)) hart now))));
    gone = λ h small is. holds-later views h (a.gone h small (subst (λ hs. is_in h hs ≡ true) collected is));
  }

-- the view of a seat that stored no table word says the same of an order
module _ (c : Config) (v w : View) (hart : w.hart ≡ v.hart) (versions : w.versions ≡ v.versions) (stores : w.stores ≡ v.stores) (k k' : Order) (cause : k'.cause ≡ k.cause) (since : k'.since ≡ k.since) where
  pub kept-same : (place : Place) (page : Span) → Kept c v k place page → Kept c w k' place page
  kept-same place page t = record {
    has = t.has;
    at_home = t.at_home ∙ sym hart;
    right_half = t.right_half;
    unmapped = λ words is. t.unmapped words (is.0, sym (ap (λ vs. get_elem? vs is.0) versions) ∙ is.1, omega (arith, is.2, stores, since));
  }

  pub answered-same : (words : List ℕ) (views : List View) → k'.ticket ≡ k.ticket → k'.armed ≡ k.armed → k'.collected ≡ k.collected → Answered c words views v k → Answered c words views w k'
  answered-same words views ticket armed collected a =
      answered-later c v w hart k k' cause (λ ws t. (t.0, ap (λ vs. get_elem? vs t.0) versions ∙ t.1, omega (arith, t.2, stores, since))) words views (omega (arith, a.begun, stores, since)) ticket armed collected a

-- an order that begins now: no cell is armed for it, and no hart is collected
pub fresh-answered : (c : Config) (words : List ℕ) (views : List View) (v : View) (ticket : ℕ) (cause : Cause) → IsAskable (asked c cause) → Answered c words views v (fresh ticket cause v.stores)
fresh-answered c words views v ticket cause asks = record {
  begun = omega arith;
  askable = asks;
  numbered = λ h is. absurd (false≢true is);
  acked = λ h small is now. absurd (false≢true is);
  gone = λ h small is. absurd (false≢true is);
}

-- a step that changes nothing
pub idle-orders : (c : Config) (s : State ℕ View) (b : Tabled c s) (o : Ordered c s) (id : ℕ) (v : View) (at : get_elem? s.views id ≡ some v) → Ordered c record { words = s.words; homes = s.homes; views = slice_set s.views id v }
idle-orders c s b o id v at =
    keeps-orders c s b o id v v at refl s.words (gains-none c s v v (λ e is. is)) (λ a t h few small. stays refl) (o.window id v at) (o.latest id v at)
    (λ n k at-k. stands c s b o id v v at refl s.words (gains-none c s v v (λ e is. is)) (λ a t h few small. stays refl) id v at n k at-k)
    (o.kept id v at) s.homes
