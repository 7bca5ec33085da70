-- What each step leaves of the orders, and where the cells stand.
use Rattle.std.proofs.Common.{◌≡◌, ℕ, zero, suc, ◌+◌, ◌*◌, ◌<◌, ◌≤◌, ◌||◌, ◌==◌, ◌/◌, Bool, true, false, cond, List, [], ◌∷◌, length, map, is_some, Some, subst, sym, refl, ap, ◌∙◌, inl, inr, arith}
use Rattle.std.proofs.lemmas.Bool.{and_parts, eq-eqb, eqb-true, or_cases, false≢true}
use Rattle.std.proofs.lemmas.Nat.{div-mul-add}
use Rattle.std.specs.Prelude.{Contains, ◌⊎◌, ◌%◌, None, if◌then◌else◌}
use mathlib.Core.Option.{some, some-injective, some-ne-none}
use lib.ListN.{get_elem?}
use Rattle.spaces.specs.declared.configuration.Config.{Config}
use Rattle.pte.specs.declared.flags.PteFlags.{PteFlags}
use Rattle.pte.specs.Address.{Holds, IsPage, Overlap, Span, pages_of}
use Rattle.walk.specs.Pointers.{pointed}
use Rattle.spaces.specs.declared.places.Place.{Place}
use Rattle.spaces.specs.declared.places.Place.TheVariants.{Space, Kernel}
use Rattle.spaces.specs.declared.wishes.Wish.TheVariants.{Map}
use Rattle.spaces.specs.Edits.{Store}
use Rattle.spaces.specs.Holders.{is_same_place}
use Rattle.tlb.specs.Service.{overlaps}
use Rattle.tlb.proofs.Overlapping.{overlaps-Overlap}
use Rattle.tlb.proofs.Translating.{lies_in}
use Rattle.tlb.specs.Mappings.{IsMappedBy, Translates}
use Rattle.tlb.specs.declared.store.Entry.{Entry}
use Rattle.walk.specs.Maps.{page_number}
use Rattle.walk.proofs.Unique.{level_count_loads}
use Rattle.views.specs.declared.view.Cause.{Cause}
use Rattle.views.specs.declared.view.Cause.TheVariants.{Unmapped, Other}
use Rattle.views.specs.declared.view.Order.{Order}
use Rattle.views.specs.declared.view.View.{View}
use Rattle.views.specs.Orders.{IsAsidFor, asid_of_space, dropping, is_in, lies_over}
use Rattle.spaces.specs.Layout.{layout_of}
use Rattle.views.specs.Rule.{cell}
use Rattle.shoot.proofs.AcknowledgementWords.{not_zero}
use Rattle.views.specs.OrderTurns.{armed, last_word, looked, collected, for_ticket, fresh, marked, order_of_ticket, noted}
use Rattle.views.specs.Lasting.{AreKept, CellsAreApart, CellsMeet, EachSpaceAtHomeIsReadBack, EditsKeepOrders, EditsMarkNothing, Follows, HasStoresOf, IsFor, KernelIsInEverySpace, MarkedByALeafOver, NothingStoredSince, OnlyEditsStore, OrdersBegin, StepsKeepOrders, StepsMarkNothing, TranslatesNoneHoldsNone, UnmappingBeginsLive, WalkAnswersAsComputed, WrongAddressChangesNothing, last_cell, unmarked}
use Rattle.views.proofs.Goings.{loads-read}
use Rattle.views.proofs.CellKeeps.{cell-inside}
use Rattle.views.proofs.OrderKeeps.{receiver}

abbrev lasting : Order → ℕ × Cause × Bool
lasting k = (k.ticket, k.cause, k.anew)

-- a change of the open order of a ticket that keeps what lasts of it
same-causes : (ticket : ℕ) (f : Order → Order) → ((k : Order) → lasting (f k) ≡ lasting k) → (ks : List Order) → map lasting (for_ticket ticket f ks) ≡ map lasting ks
same-causes ticket f keeps [] = refl
same-causes ticket f keeps (k ∷ ks) = by (k.ticket == ticket) (same-causes ticket f keeps ks)
  where
    by : (t : Bool) → map lasting (for_ticket ticket f ks) ≡ map lasting ks → map lasting (cond t (f k ∷ ks) (k ∷ for_ticket ticket f ks)) ≡ lasting k ∷ map lasting ks
    by true more = ap (λ x. x ∷ map lasting ks) (keeps k)
    by false more = ap (λ xs. lasting k ∷ xs) more

-- an order that begins is the open one of its ticket
pub first : (ticket : ℕ) (cause : Cause) (stores : ℕ) (ks : List Order) → order_of_ticket ticket (fresh ticket cause stores ∷ ks) ≡ Some (fresh ticket cause stores)
first ticket cause stores ks = ap (λ t. cond t (Some (fresh ticket cause stores)) (order_of_ticket ticket ks)) (eq-eqb ticket ticket refl)

pub begins_live : UnmappingBeginsLive
begins_live c place page ticket v store = (fresh ticket (Unmapped place page) (v.stores + 1), first ticket (Unmapped place page) (v.stores + 1) v.orders, (refl, refl), refl, refl, refl)

pub orders_begin : OrdersBegin
orders_begin c place page flags ticket what v store = (
  (fresh ticket (Unmapped place page) (v.stores + 1), first ticket (Unmapped place page) (v.stores + 1) v.orders, refl, refl, refl, refl),
  (fresh ticket (Other (dropping c place page)) (v.stores + 1), first ticket (Other (dropping c place page)) (v.stores + 1) v.orders, refl, refl, refl, refl),
  (fresh ticket (Other what) v.stores, first ticket (Other what) v.stores v.orders, refl, refl, refl, refl),
)

pub nothing_stored_since : NothingStoredSince
nothing_stored_since c s b i v at order same words = (
  (λ since. by since.0 since.1 since.2),
  (λ is. (0, b.orders.latest i v at ∙ ap some (sym is), omega (arith, same))),
)
  where
    by : (age : ℕ) → get_elem? v.versions age ≡ some words → age + order.since ≤ v.stores → words ≡ v.words
    by zero is few = some-injective words v.words (sym is ∙ b.orders.latest i v at)
    by (suc age) is few = absurd (omega (arith, few, same))

pub only_edits_store : OnlyEditsStore
only_edits_store v ticket hart word what is_found root st reads = ((refl, refl, refl), (refl, refl, refl), look is_found, (refl, refl, refl), (refl, refl, refl), (refl, refl, refl))
  where
    look : (t : Bool) → HasStoresOf (looked ticket hart t word v) v
    look true = (refl, refl, refl)
    look false = (refl, refl, refl)

pub steps_mark_nothing : StepsMarkNothing
steps_mark_nothing v ticket hart word what is_found root st reads = (
  same-causes ticket (armed hart) (λ k. refl) v.orders,
  refl,
  look is_found,
  same-causes ticket (collected v.hart) (λ k. refl) v.orders,
  refl,
)
  where
    look : (t : Bool) → map lasting (cond t (record v { orders = for_ticket ticket (collected hart) v.orders }) v).orders ≡ map lasting v.orders
    look true = same-causes ticket (collected hart) (λ k. refl) v.orders
    look false = refl

pub edits_mark_nothing : EditsMarkNothing
edits_mark_nothing c v ticket store place page ppn flags what = (refl, refl, refl, λ pointer. by (is_some (pointed (Some store.word))) _ pointer)
  where
    by : (t : Bool) (by_a_leaf : List Order) → t ≡ true → map lasting (cond t v.orders by_a_leaf) ≡ map lasting v.orders
    by true by_a_leaf is = refl
    by false by_a_leaf is = absurd (false≢true is)

same-place : (p q : Place) → is_same_place p q ≡ true → q ≡ p
same-place (Space s) (Space t) is = ap Space (sym (eqb-true s t is))
same-place (Space s) Kernel is = absurd (false≢true is)
same-place Kernel (Space t) is = absurd (false≢true is)
same-place Kernel Kernel is = refl

over-what : (cause : Cause) (place : Place) (page : Span) → lies_over cause place page ≡ true → (over : Span) × (cause ≡ Unmapped place over) × Overlap over page
over-what (Unmapped p q) place page is =
    let both = and_parts (is_same_place p place) (overlaps q page) is in
    (q, ap (λ (x : Place). Unmapped x q) (sym (same-place p place both.0)), (overlaps-Overlap q page).0 both.1)
over-what (Other what) place page is = absurd (false≢true is)

at-map : (f : Order → Order) (ks : List Order) (n : ℕ) (k k' : Order) → get_elem? ks n ≡ some k → get_elem? (map f ks) n ≡ some k' → f k ≡ k'
at-map f [] n k k' at at' = absurd (some-ne-none k (sym at))
at-map f (x ∷ xs) zero k k' at at' = ap f (sym (some-injective x k at)) ∙ some-injective (f x) k' at'
at-map f (x ∷ xs) (suc n) k k' at at' = at-map f xs n k k' at at'

-- a mark changes nothing else of an order
but-for-marks : (place : Place) (page : Span) (ks : List Order) → map unmarked (map (marked place page) ks) ≡ map unmarked ks
but-for-marks place page [] = refl
but-for-marks place page (k ∷ ks) = ap (λ xs. unmarked k ∷ xs) (but-for-marks place page ks)

kept-by-a-map : (place : Place) (page : Span) (ks : List Order) (is_pointer : Bool) → map unmarked (cond is_pointer ks (map (marked place page) ks)) ≡ map unmarked ks
kept-by-a-map place page ks true = refl
kept-by-a-map place page ks false = but-for-marks place page ks

marked-over : (c : Config) (v : View) (ticket : ℕ) (store : Store) (place : Place) (page : Span) (ppn : ℕ) (flags : PteFlags) (n : ℕ) (k k' : Order) → get_elem? v.orders n ≡ some k
    → get_elem? (noted c (Map place page ppn flags) ticket v store).orders n ≡ some k' → k.anew ≡ false → k'.anew ≡ true → (over : Span) × (k.cause ≡ Unmapped place over) × Overlap over page
marked-over c v ticket store place page ppn flags n k k' at at' was now = by (is_some (pointed (Some store.word))) at'
  where
    by : (t : Bool) → get_elem? (cond t v.orders (map (marked place page) v.orders)) n ≡ some k' → (over : Span) × (k.cause ≡ Unmapped place over) × Overlap over page
    by true e =
        let same : k ≡ k' = some-injective k k' (sym at ∙ e) in
        absurd (false≢true (sym was ∙ (ap (λ (x : Order). x.anew) same ∙ now)))
    by false e =
        let is : (lies_over k.cause place page || k.anew) ≡ true = ap (λ (x : Order). x.anew) (at-map (marked place page) v.orders n k k' at e) ∙ now in
        elim (or_cases (lies_over k.cause place page) k.anew is) [
          | inl over ↦ over-what k.cause place page over
          | inr before ↦ absurd (false≢true (sym was ∙ before))
        ]

pub marked_by_a_leaf_over : MarkedByALeafOver
marked_by_a_leaf_over c v ticket store place page ppn flags =
    (kept-by-a-map place page v.orders (is_some (pointed (Some store.word))), λ n k k' at at' was now. marked-over c v ticket store place page ppn flags n k k' at at' was now)

follows-itself : (k : Order) → Follows k k
follows-itself k = (refl, refl, refl, (λ h is. is), λ h is. is)

-- a hart that is among some is among one more
still-in : (h to : ℕ) (hs : List ℕ) → is_in h hs ≡ true → is_in h (to ∷ hs) ≡ true
still-in h to hs is = by (to == h)
  where
    by : (t : Bool) → (t || is_in h hs) ≡ true
    by true = refl
    by false = is

armed-follows : (to : ℕ) (k : Order) → Follows k (armed to k)
armed-follows to k = (refl, refl, refl, (λ h is. still-in h to k.armed is), λ h is. is)

collected-follows : (from : ℕ) (k : Order) → Follows k (collected from k)
collected-follows from k = (refl, refl, refl, (λ h is. is), λ h is. still-in h from k.collected is)

-- an order that follows stands there
abbrev FollowsAt : List Order → ℕ → Order → Type 0
FollowsAt later m k = (k' : Order) × (get_elem? later m ≡ some k') × Follows k k'

-- each order stands where it stood, or one place further down
in-place : (ks later : List Order) → ((n : ℕ) (k : Order) → get_elem? ks n ≡ some k → FollowsAt later n k) → AreKept 0 ks later
in-place ks later each n k at =
    let same : n ≡ 0 + n = omega arith in
    subst (λ (m : ℕ). FollowsAt later m k) same (each n k at)

further-down : (x : Order) (ks : List Order) → AreKept 1 ks (x ∷ ks)
further-down x ks n k at =
    let next : suc n ≡ 1 + n = omega arith in
    subst (λ (m : ℕ). FollowsAt (x ∷ ks) m k) next (k, at, follows-itself k)

all-kept : (ks : List Order) → AreKept 0 ks ks
all-kept ks = in-place ks ks (λ n k at. (k, at, follows-itself k))

-- a change of the open order of a ticket, where the order changed follows it, keeps all orders
ticket-kept : (ticket : ℕ) (f : Order → Order) → ((k : Order) → Follows k (f k)) → (ks : List Order) (n : ℕ) (k : Order) → get_elem? ks n ≡ some k → FollowsAt (for_ticket ticket f ks) n k
ticket-kept ticket f follows [] n k at = absurd (some-ne-none k (sym at))
ticket-kept ticket f follows (x ∷ xs) n k at = by (x.ticket == ticket) n at (ticket-kept ticket f follows xs)
  where
    by : (t : Bool) (m : ℕ) → get_elem? (x ∷ xs) m ≡ some k → ((m : ℕ) (k : Order) → get_elem? xs m ≡ some k → FollowsAt (for_ticket ticket f xs) m k)
        → FollowsAt (cond t (f x ∷ xs) (x ∷ for_ticket ticket f xs)) m k
    by true zero here more = (f x, refl, subst (λ (y : Order). Follows y (f x)) (some-injective x k here) (follows x))
    by true (suc m) there more = (k, there, follows-itself k)
    by false zero here more = (k, here, follows-itself k)
    by false (suc m) there more = more m k there

-- and so does a mark
marks-kept : (place : Place) (page : Span) (ks : List Order) (n : ℕ) (k : Order) → get_elem? ks n ≡ some k → FollowsAt (map (marked place page) ks) n k
marks-kept place page [] n k at = absurd (some-ne-none k (sym at))
marks-kept place page (x ∷ xs) zero k at = (marked place page x, refl, subst (λ (y : Order). Follows y (marked place page x)) (some-injective x k at) (refl, refl, refl, (λ h is. is), λ h is. is))
marks-kept place page (x ∷ xs) (suc n) k at = marks-kept place page xs n k at

pub steps_keep_orders : StepsKeepOrders
steps_keep_orders v ticket hart word what is_found root st reads = (
  with-change (armed hart) (armed-follows hart),
  all-kept v.orders,
  look is_found,
  with-change (collected v.hart) (collected-follows v.hart),
  all-kept v.orders,
  further-down _ v.orders,
)
  where
    with-change : (f : Order → Order) → ((k : Order) → Follows k (f k)) → AreKept 0 v.orders (for_ticket ticket f v.orders)
    with-change f follows = in-place v.orders (for_ticket ticket f v.orders) (ticket-kept ticket f follows v.orders)

    look : (t : Bool) → AreKept 0 v.orders (cond t (record v { orders = for_ticket ticket (collected hart) v.orders }) v).orders
    look true = with-change (collected hart) (collected-follows hart)
    look false = all-kept v.orders

pub edits_keep_orders : EditsKeepOrders
edits_keep_orders c v ticket store place page ppn flags = (by (is_some (pointed (Some store.word))), further-down _ v.orders, further-down _ v.orders)
  where
    by : (t : Bool) → AreKept 0 v.orders (cond t v.orders (map (marked place page) v.orders))
    by true = all-kept v.orders
    by false = in-place v.orders (map (marked place page) v.orders) (marks-kept place page v.orders)

pub kernel_is_in_every_space : KernelIsInEverySpace
kernel_is_in_every_space c asid = (tt, λ s. (λ is. is, λ is. is))

-- a row is read from what stands in it
by-rows : (width s h s' h' : ℕ) → h < width → h' < width → s * width + h ≡ s' * width + h' → s ≡ s'
by-rows width s h s' h' a b e = sym (div-mul-add s width h a) ∙ (ap (λ (n : ℕ). n / width) e ∙ div-mul-add s' width h' b)

pub cells_are_apart : CellsAreApart
cells_are_apart l s t h small-s few small-h = (
  omega arith,
  cell-inside l s t h small-s few small-h,
  λ s' t' h' small-s' few' small-h' e.
      let pairs : s * length l.spares + h ≡ s' * length l.spares + h' = omega (arith, e, few, few') in
      let same-h : h ≡ h' = receiver l s t h s' t' h' few few' small-h small-h' e in
      (by-rows (length l.spares) s h s' h' small-h small-h' pairs, omega (arith, e, few, few', pairs), same-h),
)

-- an ASID of the place that an entry for the place answers
its-asid : (c : Config) (place : Place) (e : Entry) → IsFor c place e
    → (asid : ℕ) × IsAsidFor c place asid × (((if e.global then None else Some e.asid) ≡ None) ⊎ ((if e.global then None else Some e.asid) ≡ Some asid))
its-asid c (Space s) e (inl global) = (asid_of_space c s, refl, inl (ap (λ b. if b then None else Some e.asid) global))
its-asid c (Space s) e (inr own) = (asid_of_space c s, refl, by e.global)
  where
    by : (b : Bool) → ((if b then None else Some e.asid) ≡ None) ⊎ ((if b then None else Some e.asid) ≡ Some (asid_of_space c s))
    by true = inl refl
    by false = inr (ap Some own)
its-asid c Kernel e is = (e.asid, tt, by e.global)
  where
    by : (b : Bool) → ((if b then None else Some e.asid) ≡ None) ⊎ ((if b then None else Some e.asid) ≡ Some e.asid)
    by true = inl refl
    by false = inr refl

-- entries that translate no address of a page have none that overlaps it
pub none_held : (c : Config) (entries : List Entry) (place : Place) (page : Span) → ((asid va : ℕ) → IsAsidFor c place asid → Holds page va → ¬ Translates (IsMappedBy entries) asid va)
    → (e : Entry) → Contains entries e → IsPage e.page → IsFor c place e → ¬ Overlap page e.page
none_held c entries place page none e held is-page for over =
    let r = its-asid c place e for in
    none r.0 over.0 r.1 over.1 (record {
      mapping = record { asid = if e.global then None else Some e.asid; page = page_number over.0; ppn = e.ppn + page_number over.0 % pages_of e.page.size; flags = e.flags };
      member = (e, held, record { asid = refl; page = lies_in e.page over.0 is-page over.2; ppn = refl; flags = refl });
      space = r.2;
      page = refl;
    })

pub translates_none_holds_none : TranslatesNoneHoldsNone
translates_none_holds_none c views h place page none j w at is e held is-page for over = none_held c w.entries place page (none j w at is) e held is-page for over

pub cells_meet : CellsMeet
cells_meet sender receiver ticket word what is_found same =
    (by is_found, ap (λ (c : Config). Some (cell (layout_of c) sender.hart ticket receiver.hart)) same ∙ by is_found, refl, refl, not_zero what, look is_found)
  where
    by : (t : Bool) → Some (cell (layout_of sender.config) sender.hart ticket receiver.hart) ≡ last_cell (looked ticket receiver.hart t word sender).cell_steps
    by true = refl
    by false = refl

    look : (t : Bool) → last_word (looked ticket receiver.hart t word sender).cell_steps ≡ word
    look true = refl
    look false = refl

pub walk_answers_as_computed : WalkAnswersAsComputed
walk_answers_as_computed l v w root va access ctx answer canonical a =
    (loads-read v root w a.own_loads, (λ words has. (level_count_loads l.scheme words root va access ctx answer canonical).0 (a.each_memory words has)), omega (arith, a.count, a.few), a.home.orders, a.home.words, a.home.holders, a.home.stores, a.home.versions, a.home.next, a.home.cell_steps)

pub wrong_address_changes_nothing : WrongAddressChangesNothing
wrong_address_changes_nothing l v w root va access ctx answer wrong (inl as-it-was) = (as-it-was.1, as-it-was.2)
wrong_address_changes_nothing l v w root va access ctx answer wrong (inr by-loads) = absurd (wrong by-loads.0)

pub each_space_at_home_is_read_back : EachSpaceAtHomeIsReadBack
each_space_at_home_is_read_back l v w s va access ctx answer has home outside by-loads = by-loads.read_back s (record { has = has; home = home; root_is = refl; outside = outside })
