-- What each call of a port keeps of the ties of its tickets.
use Rattle.std.proofs.Common.{◌≡◌, ◌≢◌, ◌∙◌, length-set, sym, ap, refl, subst, ℕ, zero, suc, ◌+◌, ◌<◌, ◌==◌, ◌&&◌, ◌||◌, Bool, true, false, not, cond, List, [], ◌∷◌, map, length, Option, Some, None, Ok, Err, arith, inl, inr, is_none, is_some, get_or}
use Rattle.std.specs.Prelude.{slice_get, slice_set, IsTrue, unwrap_or, replicate}
use Rattle.std.proofs.lemmas.Option.{slice_get_past, slice_get-get_or}
use Rattle.std.proofs.lemmas.List.Quantifiers.{position-Some}
use Rattle.shoot.specs.declared.tickets.TicketFault.TheVariants.{HomeNotNamed}
use Rattle.spaces.proofs.Lists.{slice_get-set_same, slice_get-set_other}
use Rattle.shoot.proofs.HartSets.{by_test, contains_where}
use Rattle.pte.specs.declared.TheConstants.{MAX_HARTS}
use Rattle.shoot.specs.declared.TheConstants.{MAX_TICKETS}
use Rattle.pte.specs.Address.{Span}
use Rattle.spaces.specs.declared.places.Place.{Place}
use Rattle.std.specs.Option.{option_map}
use Rattle.std.proofs.lemmas.Bool.{cases_eq, cases_lt, eq-eqb, eqb-true, ne_eqb, or_left, or_right}
use Rattle.pte.specs.declared.address.What.{What}
use Rattle.shoot.specs.HartSet.{contains, harts_in, no_harts}
use Rattle.shoot.specs.declared.tickets.Ticket.{Ticket}
use Rattle.shoot.specs.Tickets.{TicketTable, ticket_at, if_open, with_ticket, with_change, acked_by, changed, after_acked, after_finish, after_open, after_posted, asked as asked_of, done_with, is_done_at, is_open, ticket_posted, names, new_ticket, lowest_free, no_tickets, open_answer, opened, tells, what_at, with_acked, with_collected, with_posted}
use Rattle.board.specs.Ends.{OutboxState, after_close, after_release}
use Rattle.spaces.specs.declared.configuration.Config.{Config}
use Rattle.views.specs.declared.view.Cause.{Cause}
use Rattle.views.specs.declared.view.Order.{Order}
use Rattle.views.specs.Orders.{asked, dropping, is_in}
use Rattle.views.specs.OrderTurns.{IsAsking, IsAwaiting, armed, collected, for_ticket, fresh, marked, order_of_ticket, orders_after}
use Rattle.views.specs.declared.view.View.{View}
use Rattle.board.specs.Answers.{collected_by, outbox_with}
use Rattle.shoot.specs.Request.{Request}
use Rattle.shoot.proofs.HartBytes.{done}
use Rattle.board.specs.Ports.{End, element, end_of_outbox}
use Rattle.board.specs.Rows.{IsOutRow, new_outbox_of}
use Rattle.board.proofs.Deals.{element-map}
use Rattle.walk.specs.Pointers.{pointed}
use Rattle.pte.specs.declared.address.What.TheVariants.{PageOf}
use Rattle.spaces.specs.declared.places.Place.TheVariants.{Space, Kernel}
use Rattle.spaces.specs.declared.wishes.Wish.{Wish}
use Rattle.spaces.specs.declared.wishes.Wish.TheVariants.{Map, Unmap, Protect}
use Rattle.spaces.specs.Edits.{Store, page_of, place_of}
use Rattle.history.specs.Setup.{setup_of}
use Rattle.history.specs.Spaces.{asid_in as space_asid}
use Rattle.views.specs.declared.view.Cause.TheVariants.{Unmapped, Other}
use Rattle.board.specs.Tables.{is_map}
use Rattle.board.specs.Ties.{AreCounted, AreTied, HasOutstanding, IsOrderOf, IsTied, IsWhole, awaits, count_awaiting, one_if}

-- ---- lists

-- what holds at each number after one element is set
pub each-set : {X : Type 0} (P : ℕ → Option X → Type 0) (xs : List (Option X)) (n : ℕ) (x : Option X)
    → ((m : ℕ) → P m None) → P n x → ((m : ℕ) → m ≢ n → P m (element xs m)) → (m : ℕ) → P m (element (slice_set xs n x) m)
each-set P [] n x none here others m = none m
each-set P (y ∷ ys) zero x none here others zero = here
each-set P (y ∷ ys) zero x none here others (suc m) = others (suc m) (λ e. cc)
each-set P (y ∷ ys) (suc n) x none here others zero = others zero (λ e. cc)
each-set P (y ∷ ys) (suc n) x none here others (suc m) =
    each-set (λ k. P (suc k)) ys n x (λ k. none (suc k)) here (λ k apart. others (suc k) (λ e. apart (omega (arith, e)))) m

-- ---- orders

-- the open order of another ticket stays
pub other-order : (n : ℕ) (g : Order → Order) → ((k : Order) → (g k).ticket ≡ k.ticket) → (m : ℕ) → m ≢ n → (ks : List Order)
    → order_of_ticket m (for_ticket n g ks) ≡ order_of_ticket m ks
other-order n g keeps m apart [] = refl
other-order n g keeps m apart (x ∷ xs) = by (x.ticket == n) refl (other-order n g keeps m apart xs)
  where
    by : (q : Bool) → (x.ticket == n) ≡ q → order_of_ticket m (for_ticket n g xs) ≡ order_of_ticket m xs → order_of_ticket m (cond q (g x ∷ xs) (x ∷ for_ticket n g xs)) ≡ cond (x.ticket == m) (Some x) (order_of_ticket m xs)
    by true is rest =
        let was : (x.ticket == m) ≡ false = ne_eqb x.ticket m (λ e. apart (sym e ∙ eqb-true x.ticket n is)) in
        let now : ((g x).ticket == m) ≡ false = ap (λ t. t == m) (keeps x) ∙ was in
        ap (λ b. cond b (Some (g x)) (order_of_ticket m xs)) now ∙ sym (ap (λ b. cond b (Some x) (order_of_ticket m xs)) was)
    by false is rest = ap (λ o. cond (x.ticket == m) (Some x) o) rest

-- and that of the ticket changes
pub own-order : (n : ℕ) (g : Order → Order) → ((k : Order) → (g k).ticket ≡ k.ticket) → (ks : List Order)
    → order_of_ticket n (for_ticket n g ks) ≡ option_map g (order_of_ticket n ks)
own-order n g keeps [] = refl
own-order n g keeps (x ∷ xs) = by (x.ticket == n) refl (own-order n g keeps xs)
  where
    by : (q : Bool) → (x.ticket == n) ≡ q → order_of_ticket n (for_ticket n g xs) ≡ option_map g (order_of_ticket n xs) → order_of_ticket n (cond q (g x ∷ xs) (x ∷ for_ticket n g xs)) ≡ option_map g (cond q (Some x) (order_of_ticket n xs))
    by true is rest = ap (λ b. cond b (Some (g x)) (order_of_ticket n xs)) (ap (λ t. t == n) (keeps x) ∙ is)
    by false is rest = ap (λ b. cond b (Some x) (order_of_ticket n (for_ticket n g xs))) is ∙ rest

-- a mark on each order
pub mapped-order : (g : Order → Order) → ((k : Order) → (g k).ticket ≡ k.ticket) → (m : ℕ) (ks : List Order) → order_of_ticket m (map g ks) ≡ option_map g (order_of_ticket m ks)
mapped-order g keeps m [] = refl
mapped-order g keeps m (x ∷ xs) = ap (λ t. cond (t == m) (Some (g x)) (order_of_ticket m (map g xs))) (keeps x) ∙ by (x.ticket == m) (mapped-order g keeps m xs)
  where
    by : (q : Bool) → order_of_ticket m (map g xs) ≡ option_map g (order_of_ticket m xs) → cond q (Some (g x)) (order_of_ticket m (map g xs)) ≡ option_map g (cond q (Some x) (order_of_ticket m xs))
    by true rest = refl
    by false rest = rest

-- ---- sets of harts

pub contains_within : (set : List Bool) (h : ℕ) → contains set h ≡ true → h < length set
contains_within [] h e = absurd cc
contains_within (x ∷ xs) zero e = omega arith
contains_within (x ∷ xs) (suc h) e = let less = contains_within xs h e in omega (arith, less)

contains_put : (set : List Bool) (k : ℕ) → k < length set → contains (slice_set set k true) k ≡ true
contains_put set k less = ap (λ o. unwrap_or o false) (slice_get-set_same set k true less)

contains_other : (set : List Bool) (k h : ℕ) → h ≢ k → contains (slice_set set k true) h ≡ contains set h
contains_other set k h apart = ap (λ o. unwrap_or o false) (slice_get-set_other set k h true (λ e. apart (sym e)))

is-in : (k h : ℕ) (hs : List ℕ) → h ≡ k → is_in h (k ∷ hs) ≡ true
is-in k h hs same = or_left (k == h) (is_in h hs) (eq-eqb k h (sym same))

is-in-other : (k h : ℕ) (hs : List ℕ) → h ≢ k → is_in h (k ∷ hs) ≡ is_in h hs
is-in-other k h hs apart = ap (λ b. b || is_in h hs) (ne_eqb k h (λ e. apart (sym e)))

no-hart : (h : ℕ) → contains no_harts h ≡ false
no-hart h = elim (cases_lt h MAX_HARTS) [
  | inl low ↦ contains_where (λ n. false) h low
  | inr high ↦ ap (λ o. unwrap_or o false) (slice_get_past no_harts h high)
]

-- ---- ties

module _ (c : Config) (home : ℕ) where
  -- a change of a ticket and of its order
  tied-change : (f : Ticket → Ticket) (g : Order → Order) (x : Option Ticket) (o : Option Order)
      → ((t : Ticket) (k : Order) → x ≡ Some t → IsWhole home t × IsOrderOf c t k → IsWhole home (f t) × IsOrderOf c (f t) (g k))
      → IsTied c home x o → IsTied c home (changed f x) (option_map g o)
  tied-change f g None o keeps was = tt
  tied-change f g (Some t) None keeps was = absurd was
  tied-change f g (Some t) (Some k) keeps was = keeps t k refl was

  order-change : (g : Order → Order) (x : Option Ticket) (o : Option Order) → ((t : Ticket) (k : Order) → x ≡ Some t → IsWhole home t × IsOrderOf c t k → IsOrderOf c t (g k))
      → IsTied c home x o → IsTied c home x (option_map g o)
  order-change g None o keeps was = tt
  order-change g (Some t) None keeps was = absurd was
  order-change g (Some t) (Some k) keeps was = (was.0, keeps t k refl was)

module _ (c : Config) (ks : List Order) (T : TicketTable) where
  -- the ticket of one number and its order become others
  tied-set : (ks' : List Order) (n : ℕ) (x : Option Ticket) → ((m : ℕ) → m ≢ n → order_of_ticket m ks' ≡ order_of_ticket m ks)
      → IsTied c T.hart x (order_of_ticket n ks') → AreTied c ks T → AreTied c ks' (with_ticket T n x)
  tied-set ks' n x others here was = record {
    each = each-set (λ m y. IsTied c T.hart y (order_of_ticket m ks')) T.tickets n x (λ m. tt) here
        (λ m apart. subst (λ o. IsTied c T.hart (ticket_at T m) o) (sym (others m apart)) (was.each m));
  }

  tied-both : (n : ℕ) (f : Ticket → Ticket) (g : Order → Order) → ((k : Order) → (g k).ticket ≡ k.ticket)
      → ((t : Ticket) (k : Order) → ticket_at T n ≡ Some t → IsWhole T.hart t × IsOrderOf c t k → IsWhole T.hart (f t) × IsOrderOf c (f t) (g k))
      → AreTied c ks T → AreTied c (for_ticket n g ks) (with_change T n f)
  tied-both n f g keeps step was =
      tied-set (for_ticket n g ks) n (changed f (ticket_at T n)) (λ m apart. other-order n g keeps m apart ks)
      (subst (λ o. IsTied c T.hart (changed f (ticket_at T n)) o) (sym (own-order n g keeps ks)) (tied-change c T.hart f g (ticket_at T n) (order_of_ticket n ks) step (was.each n))) was

  -- a change of each order, which leaves its ticket as it is
  tied-map : (g : Order → Order) → ((k : Order) → (g k).ticket ≡ k.ticket)
      → ((t : Ticket) (k : Order) → IsOrderOf c t k → IsOrderOf c t (g k)) → AreTied c ks T → AreTied c (map g ks) T
  tied-map g keeps step was = record {
    each = λ n. subst (λ o. IsTied c T.hart (ticket_at T n) o) (sym (mapped-order g keeps n ks))
        (order-change c T.hart g (ticket_at T n) (order_of_ticket n ks) (λ t k e is. step t k is.1) (was.each n));
  }

  -- and of the order of one ticket
  tied-order : (n : ℕ) (g : Order → Order) → ((k : Order) → (g k).ticket ≡ k.ticket)
      → ((t : Ticket) (k : Order) → ticket_at T n ≡ Some t → IsWhole T.hart t × IsOrderOf c t k → IsOrderOf c t (g k)) → AreTied c ks T → AreTied c (for_ticket n g ks) T
  tied-order n g keeps step was = record {
    each = λ m. elim (cases_eq m n) [
      | inl same ↦ subst (λ j. IsTied c T.hart (ticket_at T j) (order_of_ticket j (for_ticket n g ks))) (sym same)
          (subst (λ o. IsTied c T.hart (ticket_at T n) o) (sym (own-order n g keeps ks)) (order-change c T.hart g (ticket_at T n) (order_of_ticket n ks) step (was.each n)))
      | inr apart ↦ subst (λ o. IsTied c T.hart (ticket_at T m) o) (sym (other-order n g keeps m apart ks)) (was.each m)
    ];
  }

  -- and of one ticket alone
  tied-ticket : (n : ℕ) (f : Ticket → Ticket)
      → ((t : Ticket) (k : Order) → ticket_at T n ≡ Some t → IsWhole T.hart t × IsOrderOf c t k → IsWhole T.hart (f t) × IsOrderOf c (f t) k)
      → AreTied c ks T → AreTied c ks (with_change T n f)
  tied-ticket n f step was =
      tied-set ks n (changed f (ticket_at T n)) (λ m apart. refl) (by (ticket_at T n) (order_of_ticket n ks) step (was.each n)) was
    where
      by : (x : Option Ticket) (o : Option Order) → ((t : Ticket) (k : Order) → x ≡ Some t → IsWhole T.hart t × IsOrderOf c t k → IsWhole T.hart (f t) × IsOrderOf c (f t) k)
          → IsTied c T.hart x o → IsTied c T.hart (changed f x) o
      by None o keeps is = tt
      by (Some t) None keeps is = absurd is
      by (Some t) (Some k) keeps is = keeps t k refl is

  fresh-order : (n : ℕ) (cause : Cause) (stores : ℕ) → order_of_ticket n (fresh n cause stores ∷ ks) ≡ Some (fresh n cause stores)
  fresh-order n cause stores = ap (λ b. cond b (Some (fresh n cause stores)) (order_of_ticket n ks)) (eq-eqb n n refl)

  pub later-order : (n : ℕ) (cause : Cause) (stores m : ℕ) → m ≢ n → order_of_ticket m (fresh n cause stores ∷ ks) ≡ order_of_ticket m ks
  later-order n cause stores m apart = ap (λ b. cond b (Some (fresh n cause stores)) (order_of_ticket m ks)) (ne_eqb n m (λ e. apart (sym e)))

  new-tied : (n : ℕ) (cause : Cause) (stores : ℕ) (what : What) (named : ℕ) → asked c cause ≡ what → IsWhole T.hart (new_ticket what named) × IsOrderOf c (new_ticket what named) (fresh n cause stores)
  new-tied n cause stores what named asks = (
    record {
      named_harts = refl;
      posted_harts = refl;
      acked_harts = refl;
      collected_harts = refl;
      posted = λ h e. absurd (let f = no-hart h in cc);
      collected = λ h apart e. absurd (let f = no-hart h in cc);
    },
    record { asks = asks; armed = λ h e. absurd (let f = no-hart h in cc); collected = λ h e. sym (no-hart h) },
  )

  -- a ticket is opened, and its order
  pub tied_opened : (what : What) (named n : ℕ) (cause : Cause) (stores : ℕ) → open_answer T named ≡ Ok n → asked c cause ≡ what
      → AreTied c ks T → AreTied c (fresh n cause stores ∷ ks) (after_open T what named)
  tied_opened what named n cause stores is asks was =
      rw is (tied-set (fresh n cause stores ∷ ks) n (Some (new_ticket what named)) (later-order n cause stores)
      (subst (λ o. IsTied c T.hart (Some (new_ticket what named)) o) (sym (fresh-order n cause stores)) (new-tied n cause stores what named asks)) was)

  -- a leaf that is mapped marks orders anew
  pub tied_marked : (place : Place) (page : Span) → AreTied c ks T → AreTied c (map (marked place page) ks) T
  tied_marked place page was = tied-map (marked place page) (λ k. refl) (λ t k is. record { asks = is.asks; armed = is.armed; collected = is.collected }) was

  -- a cell is armed
  armed-of : (to : ℕ) (t : Ticket) (k : Order) → IsOrderOf c t k → IsOrderOf c t (armed to k)
  armed-of to t k is = record {
    asks = is.asks;
    armed = λ h e. or_right (to == h) (is_in h k.armed) (is.armed h e);
    collected = is.collected;
  }

  pub tied_armed : (n to : ℕ) → AreTied c ks T → AreTied c (for_ticket n (armed to) ks) T
  tied_armed n to was = tied-order n (armed to) (λ k. refl) (λ t k e is. armed-of to t k is.1) was

  -- the ticket names the hart
  named-by : (n to : ℕ) (t : Ticket) → IsTrue (names T n to) → ticket_at T n ≡ Some t → contains t.named to ≡ true
  named-by n to t named at = sym (ap (λ x. tells (λ u. u.named) x to) at) ∙ named

  -- and the request is posted
  pub tied_posted : (n to : ℕ) → IsTrue (names T n to) → AreTied c ks T → AreTied c (for_ticket n (armed to) ks) (after_posted T n to)
  tied_posted n to named was = tied-both n (with_posted to) (armed to) (λ k. refl) (λ t k at is. (
    record {
      named_harts = is.0.named_harts;
      posted_harts = length-set t.posted to true ∙ is.0.posted_harts;
      acked_harts = is.0.acked_harts;
      collected_harts = is.0.collected_harts;
      posted = λ h e. elim (cases_eq h to) [
        | inl same ↦ subst (λ j. contains t.named j ≡ true) (sym same) (named-by n to t named at)
        | inr apart ↦ is.0.posted h (sym (contains_other t.posted to h apart) ∙ e)
      ];
      collected = λ h other e. elim (cases_eq h to) [
        | inl same ↦ subst (λ j. contains (slice_set t.posted to true) j ≡ true) (sym same)
            (contains_put t.posted to (let less = contains_within t.named to (named-by n to t named at) in omega (arith, less, is.0.named_harts, is.0.posted_harts)))
        | inr apart ↦ contains_other t.posted to h apart ∙ is.0.collected h other e
      ];
    },
    record {
      asks = is.1.asks;
      armed = λ h e. elim (cases_eq h to) [
        | inl same ↦ is-in to h k.armed same
        | inr apart ↦ is-in-other to h k.armed apart ∙ is.1.armed h (sym (contains_other t.posted to h apart) ∙ e)
      ];
      collected = is.1.collected;
    },
  )) was

  -- a hart that is put in is collected in both
  both-collected : (from : ℕ) (t : Ticket) (k : Order) → IsWhole T.hart t × IsOrderOf c t k → (h : ℕ) → contains t.named h ≡ true
      → is_in h (from ∷ k.collected) ≡ contains (slice_set t.collected from true) h
  both-collected from t k is h named = elim (cases_eq h from) [
    | inl same ↦ is-in from h k.collected same ∙ sym (subst (λ j. contains (slice_set t.collected from true) j ≡ true) (sym same)
        (contains_put t.collected from (let less = contains_within t.named h named in omega (arith, less, same, is.0.named_harts, is.0.collected_harts))))
    | inr apart ↦ is-in-other from h k.collected apart ∙ (is.1.collected h named ∙ sym (contains_other t.collected from h apart))
  ]

  -- the own hart is collected
  pub tied_self : (n : ℕ) → AreTied c ks T → AreTied c (for_ticket n (collected T.hart) ks) (acked_by T n T.hart)
  tied_self n was = by_test (λ b. AreTied c (for_ticket n (collected T.hart) ks) (cond b (after_acked T n T.hart) T)) (names T n T.hart)
      (λ named. tied-both n (with_acked T.hart T.hart) (collected T.hart) (λ k. refl) (λ t k at is.
      rw (eq-eqb T.hart T.hart refl) (
        record {
          named_harts = is.0.named_harts;
          posted_harts = is.0.posted_harts;
          acked_harts = length-set t.acked T.hart true ∙ is.0.acked_harts;
          collected_harts = length-set t.collected T.hart true ∙ is.0.collected_harts;
          posted = is.0.posted;
          collected = λ h other e. is.0.collected h other (sym (contains_other t.collected T.hart h other) ∙ e);
        },
        record { asks = is.1.asks; armed = is.1.armed; collected = both-collected T.hart t k is },
      )) was)
      (λ unnamed. tied-order n (collected T.hart) (λ k. refl) (λ t k at is. record {
        asks = is.1.asks;
        armed = is.1.armed;
        collected = λ h named. elim (cases_eq h T.hart) [
          | inl same ↦ absurd (let other : contains t.named T.hart ≡ false = sym (ap (λ x. tells (λ u. u.named) x T.hart) at) ∙ unnamed in
              let yes' : contains t.named T.hart ≡ true = subst (λ j. contains t.named j ≡ true) same named in cc)
          | inr apart ↦ is-in-other T.hart h k.collected apart ∙ is.1.collected h named
        ];
      }) was)

  -- a ticket that is done is free
  pub tied_finished : (n : ℕ) → AreTied c ks T → AreTied c ks (after_finish T n)
  tied_finished n was = by_test (λ b. AreTied c ks (cond b (with_ticket T n None) T)) (is_done_at T n)
      (λ done. tied-set ks n None (λ m apart. refl) tt was) (λ more. was)

-- no ticket is open yet
no-tickets : (count n : ℕ) → if_open (slice_get (replicate count None) n) ≡ None
no-tickets zero n = refl
no-tickets (suc count) zero = refl
no-tickets (suc count) (suc n) = no-tickets count n

pub tied_new : (c : Config) (hart : ℕ) → AreTied c [] (no_tickets hart)
tied_new c hart = record { each = λ n. subst (λ x. IsTied c hart x None) (sym (no-tickets MAX_TICKETS n)) tt }

-- an open ticket's order asks for what the ticket asks
pub asking : (c : Config) (v : View) (T : TicketTable) (n : ℕ) (what : What) → what_at T n ≡ Some what → AreTied c v.orders T → IsAsking c v n what
asking c v T n what is was = by (ticket_at T n) (order_of_ticket n v.orders) is refl (was.each n)
  where
    by : (x : Option Ticket) (o : Option Order) → asked_of x ≡ Some what → order_of_ticket n v.orders ≡ o → IsTied c T.hart x o → IsAsking c v n what
    by None o e same tied = absurd (let bad : None ≡ Some what = e in cc)
    by (Some t) None e same tied = absurd tied
    by (Some t) (Some k) e same tied = record { order = k; is = same; asks = tied.1.asks ∙ some-what t.what what e }
      where
        some-what : (a b : What) → Some a ≡ Some b → a ≡ b
        some-what a b e = ap (λ o. unwrap_or o a) e

-- ---- counts

IsOpen : Option Ticket → Type 0
IsOpen x = IsTrue (is_some x)

module _ (h : ℕ) where
  -- what a count becomes once one ticket is replaced
  count-set : (ts : List (Option Ticket)) (n : ℕ) (x : Option Ticket) → IsTrue (is_some (if_open (slice_get ts n)))
      → count_awaiting h (slice_set ts n x) + one_if (awaits h (if_open (slice_get ts n))) ≡ count_awaiting h ts + one_if (awaits h x)
  count-set [] n x there = absurd cc
  count-set (y ∷ ys) zero x there = omega arith
  count-set (y ∷ ys) (suc n) x there = let rest = count-set ys n x there in omega (arith, rest)

  -- a ticket for which the hart is awaited just as before
  count-same : (ts : List (Option Ticket)) (n : ℕ) (x : Option Ticket) → awaits h x ≡ awaits h (if_open (slice_get ts n))
      → count_awaiting h (slice_set ts n x) ≡ count_awaiting h ts
  count-same [] n x same = refl
  count-same (y ∷ ys) zero x same = ap (λ b. one_if b + count_awaiting h ys) same
  count-same (y ∷ ys) (suc n) x same = ap (λ k. one_if (awaits h y) + k) (count-same ys n x same)

-- a change of one ticket for which each other hart is awaited just as before
counted-same : (T : TicketTable) (n : ℕ) (x : Option Ticket) (outs : List (Option OutboxState))
    → ((h : ℕ) → h ≢ T.hart → awaits h x ≡ awaits h (ticket_at T n)) → AreCounted T outs → AreCounted (with_ticket T n x) outs
counted-same T n x outs same was = record {
  each = λ h other. subst (λ k. HasOutstanding k (element outs h)) (sym (count-same h T.tickets n x (same h other))) (was.each h other);
}

pub none-open : (T : TicketTable) (n : ℕ) → lowest_free T ≡ Some n → ticket_at T n ≡ None
none-open T n free =
    let at = position-Some is_none T.tickets n None free in
    ap if_open (slice_get-get_or T.tickets n None at.0) ∙ is-none (get_or T.tickets n None) at.1
  where
    is-none : (x : Option Ticket) → is_none x ≡ true → x ≡ None
    is-none None e = refl
    is-none (Some t) e = absurd cc

pub opened-free : (T : TicketTable) (named n : ℕ) → open_answer T named ≡ Ok n → lowest_free T ≡ Some n
opened-free T named n = by_test (λ b. cond b (opened (lowest_free T)) (Err HomeNotNamed) ≡ Ok n → lowest_free T ≡ Some n) (contains (harts_in named) T.hart)
    (λ there e. by (lowest_free T) e) (λ none e. absurd (let bad : Err HomeNotNamed ≡ Ok n = e in cc))
  where
    by : (o : Option ℕ) → opened o ≡ Ok n → o ≡ Some n
    by None e = absurd (let bad : opened None ≡ Ok n = e in cc)
    by (Some m) e = ap (λ k. Some k) (ok-is m n e)
      where
        ok-is : (a b : ℕ) → opened (Some a) ≡ Ok b → a ≡ b
        ok-is a b e = cc

pub counted_opened : (T : TicketTable) (outs : List (Option OutboxState)) (what : What) (named n : ℕ) → open_answer T named ≡ Ok n
    → AreCounted T outs → AreCounted (after_open T what named) outs
counted_opened T outs what named n is was =
    rw is (counted-same T n (Some (new_ticket what named)) outs (λ h other.
    ap (λ b. b && not (contains no_harts h)) (no-hart h) ∙ sym (ap (awaits h) (none-open T n (opened-free T named n is)))) was)

pub counted_new : (capacity hart count : ℕ) (row : List (Option OutboxState)) → IsOutRow capacity hart count row → AreCounted (no_tickets hart) row
counted_new capacity hart count row is = record {
  each = λ h other. subst (λ k. HasOutstanding k (element row h)) (sym (zero-of MAX_TICKETS h))
      (subst (HasOutstanding 0) (sym (ap (λ r. element r h) is.are_new ∙ element-map new_outbox_of (map (option_map end_of_outbox) row) h)) (none-yet (element (map (option_map end_of_outbox) row) h)));
}
  where
    zero-of : (count h : ℕ) → count_awaiting h (replicate count None) ≡ 0
    zero-of zero h = refl
    zero-of (suc count) h = let rest = zero-of count h in omega (arith, rest)

    none-yet : (e : Option End) → HasOutstanding 0 (option_map new_outbox_of e)
    none-yet None = tt
    none-yet (Some e) = refl

not-so : (b : Bool) → not b ≡ true → b ≡ false
not-so true e = absurd cc
not-so false e = refl

and-first : (a b : Bool) → (a && b) ≡ true → a ≡ true
and-first true b e = refl
and-first false b e = absurd cc

and-second : (a b : Bool) → (a && b) ≡ true → b ≡ true
and-second true b e = e
and-second false b e = absurd cc

false-by : (b : Bool) → (b ≡ true → ⊥) → b ≡ false
false-by true no' = absurd (no' refl)
false-by false no' = refl

pub put : (ts : List (Option Ticket)) (n : ℕ) (x : Option Ticket) → IsTrue (is_some (if_open (slice_get ts n))) → if_open (slice_get (slice_set ts n x) n) ≡ x
put [] n x there = absurd cc
put (y ∷ ys) zero x there = refl
put (y ∷ ys) (suc n) x there = put ys n x there

some-by : (set : Ticket → List Bool) (x : Option Ticket) (h : ℕ) → tells set x h ≡ true → IsTrue (is_some x)
some-by set None h e = absurd cc
some-by set (Some t) h e = refl

some-awaited : (x : Option Ticket) (h : ℕ) → awaits h x ≡ true → IsTrue (is_some x)
some-awaited None h e = absurd cc
some-awaited (Some t) h e = refl

module _ (c : Config) (home : ℕ) where
  -- once a ticket was posted to a hart, the hart is awaited
  posted-now : (to : ℕ) (x : Option Ticket) (o : Option Order) → to ≢ home → tells (λ t. t.named) x to ≡ true → tells (λ t. t.posted) x to ≡ false → IsTied c home x o
      → awaits to (changed (with_posted to) x) ≡ true
  posted-now to None o apart named new is = absurd (let e : false ≡ true = named in cc)
  posted-now to (Some t) None apart named new is = absurd is
  posted-now to (Some t) (Some k) apart named new is =
      let less = contains_within t.named to named in
      let there : contains (slice_set t.posted to true) to ≡ true = contains_put t.posted to (omega (arith, less, is.0.named_harts, is.0.posted_harts)) in
      let still : contains t.collected to ≡ false = false-by (contains t.collected to) (λ e. let bad = is.0.collected to apart e in cc) in
      ap (λ b. b && not (contains t.collected to)) there ∙ ap not still

  posted-before : (to : ℕ) (x : Option Ticket) → tells (λ t. t.posted) x to ≡ false → awaits to x ≡ false
  posted-before to None new = refl
  posted-before to (Some t) new = ap (λ b. b && not (contains t.collected to)) new

  posted-others : (to h : ℕ) (x : Option Ticket) → h ≢ to → awaits h (changed (with_posted to) x) ≡ awaits h x
  posted-others to h None apart = refl
  posted-others to h (Some t) apart = ap (λ b. b && not (contains t.collected h)) (contains_other t.posted to h apart)

  acked-same : (from h : ℕ) (x : Option Ticket) → from ≢ home → awaits h (changed (with_acked home from) x) ≡ awaits h x
  acked-same from h None apart = refl
  acked-same from h (Some t) apart = rw (ne_eqb from home apart) refl

  finished-same : (h : ℕ) (x : Option Ticket) (o : Option Order) → done_with x ≡ true → IsTied c home x o → awaits h x ≡ false
  finished-same h None o is-done is = refl
  finished-same h (Some t) None is-done is = absurd is
  finished-same h (Some t) (Some k) is-done is = false-by (contains t.posted h && not (contains t.collected h)) (λ e.
      let posted : contains t.posted h ≡ true = and-first (contains t.posted h) (not (contains t.collected h)) e in
      let still : not (contains t.collected h) ≡ true = and-second (contains t.posted h) (not (contains t.collected h)) e in
      let named = is.0.posted h posted in
      let less = contains_within t.named h named in
      let got : contains t.collected h ≡ true = (done t).0 is-done h (omega (arith, less, is.0.named_harts)) named in
      let none : contains t.collected h ≡ false = not-so (contains t.collected h) still in
      cc)

acked-others : (home h : ℕ) (x : Option Ticket) → h ≢ home → awaits h (changed (with_acked home home) x) ≡ awaits h x
acked-others home h None apart = refl
acked-others home h (Some t) apart = rw (eq-eqb home home refl) (ap (λ b. contains t.posted h && not b) (contains_other t.collected home h apart))

pub counted_self : (T : TicketTable) (outs : List (Option OutboxState)) (n : ℕ) → AreCounted T outs → AreCounted (acked_by T n T.hart) outs
counted_self T outs n was = by_test (λ b. AreCounted (cond b (after_acked T n T.hart) T) outs) (names T n T.hart)
    (λ named. counted-same T n (changed (with_acked T.hart T.hart) (ticket_at T n)) outs (λ h other. acked-others T.hart h (ticket_at T n) other) was)
    (λ unnamed. was)

-- the counts after each call
module _ (c : Config) (ks : List Order) (T : TicketTable) (outs : List (Option OutboxState)) where
  pub counted_posted : (n to room : ℕ) (request : Request) → IsTrue (names T n to) → ticket_posted T n to ≡ false → to ≢ T.hart → AreTied c ks T → AreCounted T outs
      → AreCounted (after_posted T n to) (slice_set outs to (outbox_with request room (element outs to)))
  counted_posted n to room request named new apart tied was =
      let x = changed (with_posted to) (ticket_at T n) in
      let there = some-by (λ t. t.named) (ticket_at T n) to named in
      let e = count-set to T.tickets n x there in
      let before : one_if (awaits to (ticket_at T n)) ≡ 0 = ap one_if (posted-before c T.hart to (ticket_at T n) new) in
      let after : one_if (awaits to x) ≡ 1 = ap one_if (posted-now c T.hart to (ticket_at T n) (order_of_ticket n ks) apart named new (tied.each n)) in
      let more : count_awaiting to (slice_set T.tickets n x) ≡ count_awaiting to T.tickets + 1 = omega (arith, e, before, after) in
      record {
        each = each-set (λ m o. m ≢ T.hart → HasOutstanding (count_awaiting m (slice_set T.tickets n x)) o) outs to (outbox_with request room (element outs to))
            (λ m other. tt)
            (λ other. by (element outs to) (count_awaiting to T.tickets) (count_awaiting to (slice_set T.tickets n x)) more (was.each to other))
            (λ m differ other. subst (λ k. HasOutstanding k (element outs m)) (sym (count-same m T.tickets n x (posted-others c T.hart to m (ticket_at T n) differ))) (was.each m other));
      }
    where
      by : (o : Option OutboxState) (old new : ℕ) → new ≡ old + 1 → HasOutstanding old o → HasOutstanding new (outbox_with request room o)
      by None old new more is = tt
      by (Some o) old new more is = ap (λ k. k + 1) is ∙ sym more

  pub counted_finished : (n : ℕ) → AreTied c ks T → AreCounted T outs → AreCounted (after_finish T n) outs
  counted_finished n tied was = by_test (λ b. AreCounted (cond b (with_ticket T n None) T) outs) (is_done_at T n)
      (λ is-done. counted-same T n None outs (λ h other. sym (finished-same c T.hart h (ticket_at T n) (order_of_ticket n ks) is-done (tied.each n))) was)
      (λ more. was)

  pub counted_closed : (to : ℕ) → AreCounted T outs → AreCounted T (slice_set outs to (option_map after_close (element outs to)))
  counted_closed to was =
      record {
        each = each-set (λ m o. m ≢ T.hart → HasOutstanding (count_awaiting m T.tickets) o) outs to (option_map after_close (element outs to))
            (λ m other. tt) (λ other. by (element outs to) (was.each to other)) (λ m differ other. was.each m other);
      }
    where
      by : (o : Option OutboxState) → HasOutstanding (count_awaiting to T.tickets) o → HasOutstanding (count_awaiting to T.tickets) (option_map after_close o)
      by None is = tt
      by (Some o) is = is

-- ---- a hart is found, and collected

module _ (c : Config) (home from : ℕ) (apart : from ≢ home) where
  acked-whole : (t : Ticket) (k : Order) → IsWhole home t × IsOrderOf c t k → IsWhole home (with_acked home from t) × IsOrderOf c (with_acked home from t) k
  acked-whole t k is = rw (ne_eqb from home apart) (
    record {
      named_harts = is.0.named_harts;
      posted_harts = is.0.posted_harts;
      acked_harts = length-set t.acked from true ∙ is.0.acked_harts;
      collected_harts = is.0.collected_harts;
      posted = is.0.posted;
      collected = is.0.collected;
    },
    record { asks = is.1.asks; armed = is.1.armed; collected = is.1.collected },
  )

  acked-there : (x : Option Ticket) (o : Option Order) (t : Ticket) → awaits from x ≡ true → changed (with_acked home from) x ≡ Some t → IsTied c home x o
      → (contains t.acked from ≡ true) × (contains t.posted from ≡ true)
  acked-there None o t waits at is = absurd (let e : false ≡ true = waits in cc)
  acked-there (Some u) None t waits at is = absurd is
  acked-there (Some u) (Some k) t waits at is =
      let posted = and-first (contains u.posted from) (not (contains u.collected from)) waits in
      let less = contains_within u.named from (is.0.posted from posted) in
      let there : contains (slice_set u.acked from true) from ≡ true = contains_put u.acked from (omega (arith, less, is.0.named_harts, is.0.acked_harts)) in
      let same : with_acked home from u ≡ t = ap (λ o'. unwrap_or o' t) at in
      subst (λ (z : Ticket). (contains z.acked from ≡ true) × (contains z.posted from ≡ true)) same (there, posted)

module _ (c : Config) (ks : List Order) (T : TicketTable) (n from : ℕ) (waits : IsTrue (awaits from (ticket_at T n))) (apart : from ≢ T.hart) where
  acked-tied : AreTied c ks T → AreTied c ks (after_acked T n from)
  acked-tied was = tied-ticket c ks T n (with_acked T.hart from) (λ t k at is. acked-whole c T.hart from apart t k is) was

  found-there : AreTied c ks T → (t : Ticket) → ticket_at (after_acked T n from) n ≡ Some t → (contains t.acked from ≡ true) × (contains t.posted from ≡ true)
  found-there was t at =
      let stands : ticket_at (after_acked T n from) n ≡ changed (with_acked T.hart from) (ticket_at T n) =
      put T.tickets n (changed (with_acked T.hart from) (ticket_at T n)) (some-awaited (ticket_at T n) from waits) in
      acked-there c T.hart from apart (ticket_at T n) (order_of_ticket n ks) t waits (sym stands ∙ at) (was.each n)

  pub tied_found : AreTied c ks T → AreTied c (for_ticket n (collected from) ks) (collected_by T n from)
  tied_found was = tied-both c ks (after_acked T n from) n (with_collected from) (collected from) (λ k. refl) (λ t k at is.
      let there = found-there was t at in
      rw there.0 (
        record {
          named_harts = is.0.named_harts;
          posted_harts = is.0.posted_harts;
          acked_harts = is.0.acked_harts;
          collected_harts = length-set t.collected from true ∙ is.0.collected_harts;
          posted = is.0.posted;
          collected = λ h other e. elim (cases_eq h from) [
            | inl same ↦ subst (λ j. contains t.posted j ≡ true) (sym same) there.1
            | inr differ ↦ is.0.collected h other (sym (contains_other t.collected from h differ) ∙ e)
          ];
        },
        record { asks = is.1.asks; armed = is.1.armed; collected = both-collected c ks (after_acked T n from) from t k is },
      )) (acked-tied was)

  collected-now : (x : Option Ticket) (o : Option Order) → ((t : Ticket) → x ≡ Some t → contains t.acked from ≡ true) → IsTied c T.hart x o
      → awaits from (changed (with_collected from) x) ≡ false
  collected-now None o there is = refl
  collected-now (Some t) None there is = absurd is
  collected-now (Some t) (Some k) there is = rw (there t refl) (false-by (contains t.posted from && not (contains (slice_set t.collected from true) from)) (λ e.
      let posted = and-first (contains t.posted from) (not (contains (slice_set t.collected from true) from)) e in
      let still = not-so (contains (slice_set t.collected from true) from) (and-second (contains t.posted from) (not (contains (slice_set t.collected from true) from)) e) in
      let less = contains_within t.named from (is.0.posted from posted) in
      let got : contains (slice_set t.collected from true) from ≡ true = contains_put t.collected from (omega (arith, less, is.0.named_harts, is.0.collected_harts)) in
      cc))

  collected-others : (h : ℕ) (x : Option Ticket) → h ≢ from → awaits h (changed (with_collected from) x) ≡ awaits h x
  collected-others h None differ = refl
  collected-others h (Some t) differ = by_test (λ b. (contains t.posted h && not (contains (cond b (slice_set t.collected from true) t.collected) h)) ≡ (contains t.posted h && not (contains t.collected h)))
      (contains t.acked from) (λ acked. ap (λ b. contains t.posted h && not b) (contains_other t.collected from h differ)) (λ none. refl)

  -- one hart less is awaited
  found-less : AreTied c ks T → count_awaiting from T.tickets ≡ count_awaiting from (collected_by T n from).tickets + 1
  found-less was =
      let x = changed (with_acked T.hart from) (ticket_at T n) in
      let y = changed (with_collected from) (ticket_at (after_acked T n from) n) in
      let stands : ticket_at (after_acked T n from) n ≡ x = put T.tickets n x (some-awaited (ticket_at T n) from waits) in
      let kept : count_awaiting from (slice_set T.tickets n x) ≡ count_awaiting from T.tickets = count-same from T.tickets n x (acked-same c T.hart from from (ticket_at T n) apart) in
      let now : awaits from (ticket_at (after_acked T n from) n) ≡ true = ap (awaits from) stands ∙ (acked-same c T.hart from from (ticket_at T n) apart ∙ waits) in
      let e = count-set from (slice_set T.tickets n x) n y (some-awaited (ticket_at (after_acked T n from) n) from now) in
      let before : one_if (awaits from (ticket_at (after_acked T n from) n)) ≡ 1 = ap one_if now in
      let after : one_if (awaits from y) ≡ 0 =
      ap one_if (collected-now (ticket_at (after_acked T n from) n) (order_of_ticket n ks) (λ t at. (found-there was t at).0) ((acked-tied was).each n)) in
      omega (arith, e, before, after, kept)

  -- so its end has some outstanding
  pub some_outstanding : (outs : List (Option OutboxState)) (o : OutboxState) → AreTied c ks T → AreCounted T outs → element outs from ≡ Some o → 0 < o.outstanding
  some_outstanding outs o tied was at =
      let is : o.outstanding ≡ count_awaiting from T.tickets = subst (HasOutstanding (count_awaiting from T.tickets)) at (was.each from apart) in
      let less = found-less tied in
      omega (arith, is, less)

  pub counted_found : (outs : List (Option OutboxState)) → AreTied c ks T → AreCounted T outs
      → AreCounted (collected_by T n from) (slice_set outs from (option_map after_release (element outs from)))
  counted_found outs tied was =
      let acked = counted-same T n (changed (with_acked T.hart from) (ticket_at T n)) outs (λ h other. acked-same c T.hart from h (ticket_at T n) apart) was in
      let y = changed (with_collected from) (ticket_at (after_acked T n from) n) in
      record {
        each = each-set (λ m o. m ≢ T.hart → HasOutstanding (count_awaiting m (collected_by T n from).tickets) o) outs from (option_map after_release (element outs from))
            (λ m other. tt)
            (λ other. by (element outs from) (count_awaiting from T.tickets) (count_awaiting from (collected_by T n from).tickets) (found-less tied) (was.each from other))
            (λ m differ other. subst (λ k. HasOutstanding k (element outs m))
            (sym (count-same m (after_acked T n from).tickets n y (collected-others m (ticket_at (after_acked T n from) n) differ))) (acked.each m other));
      }
    where
      by : (o : Option OutboxState) (old new : ℕ) → old ≡ new + 1 → HasOutstanding old o → HasOutstanding new (option_map after_release o)
      by None old new less is = tt
      by (Some o) old new less is = omega (arith, less, is)

  -- the cell of the hart was armed for the order of the ticket
  pub awaiting : (v : View) (what : What) → v.orders ≡ ks → what_at T n ≡ Some what → AreTied c ks T → IsAwaiting c v n from what
  awaiting v what orders is was = by (ticket_at T n) (order_of_ticket n ks) is waits (ap (order_of_ticket n) orders) (was.each n)
    where
      by : (x : Option Ticket) (o : Option Order) → asked_of x ≡ Some what → awaits from x ≡ true → order_of_ticket n v.orders ≡ o → IsTied c T.hart x o → IsAwaiting c v n from what
      by None o e w same tied = absurd (let bad : None ≡ Some what = e in cc)
      by (Some t) None e w same tied = absurd tied
      by (Some t) (Some k) e w same tied = record {
        asking = record { order = k; is = same; asks = tied.1.asks ∙ ap (λ (o : Option What). unwrap_or o what) e };
        armed = tied.1.armed from (and-first (contains t.posted from) (not (contains t.collected from)) w);
      }

-- the ticket still names the hart, and is still open, once its acknowledgement is noted
pub named_acked : (c : Config) (ks : List Order) (T : TicketTable) (n from : ℕ) → IsTrue (awaits from (ticket_at T n)) → AreTied c ks T → IsTrue (names T n from) × IsTrue (names (after_acked T n from) n from)
named_acked c ks T n from waits was =
    let named = by (ticket_at T n) (order_of_ticket n ks) waits (was.each n) in
    (named, ap (λ x. tells (λ t. t.named) x from) (put T.tickets n (changed (with_acked T.hart from) (ticket_at T n)) (some-awaited (ticket_at T n) from waits)) ∙ (stays (ticket_at T n) ∙ named))
  where
    by : (x : Option Ticket) (o : Option Order) → awaits from x ≡ true → IsTied c T.hart x o → tells (λ t. t.named) x from ≡ true
    by None o w tied = absurd (let e : false ≡ true = w in cc)
    by (Some t) None w tied = absurd tied
    by (Some t) (Some k) w tied = tied.0.posted from (and-first (contains t.posted from) (not (contains t.collected from)) w)

    stays : (x : Option Ticket) → tells (λ t. t.named) (changed (with_acked T.hart from) x) from ≡ tells (λ t. t.named) x from
    stays None = refl
    stays (Some t) = refl

-- a hart acknowledges its own ticket
pub tied_ack : (c : Config) (ks : List Order) (T : TicketTable) (n hart me : ℕ) → T.hart ≡ hart → me ≡ hart → AreTied c ks T → AreTied c (for_ticket n (collected me) ks) (acked_by T n hart)
tied_ack c ks T n hart me own mine was =
    subst (λ h. AreTied c (for_ticket n (collected h) ks) (acked_by T n hart)) (sym mine)
    (subst (λ h. AreTied c (for_ticket n (collected h) ks) (acked_by T n h)) own (tied_self c ks T n was))

pub counted_ack : (T : TicketTable) (outs : List (Option OutboxState)) (n hart : ℕ) → T.hart ≡ hart → AreCounted T outs → AreCounted (acked_by T n hart) outs
counted_ack T outs n hart own was = subst (λ h. AreCounted (acked_by T n h) outs) own (counted_self T outs n was)

-- an edit that maps leaves the tickets, and one that does not opens one
pub tied_mapped : (c : Config) (ks : List Order) (T : TicketTable) (w : Wish) (store : Store) (stores : ℕ) → is_map w ≡ true → AreTied c ks T → AreTied c (orders_after c w 0 store stores ks) T
tied_mapped c ks T (Map place page ppn flags) store stores maps was =
    by_test (λ b. AreTied c (cond b ks (map (marked place page) ks)) T) (is_some (pointed (Some store.word))) (λ table. was) (λ leaf. tied_marked c ks T place page was)
tied_mapped c ks T (Unmap place page) store stores maps was = absurd (let e : false ≡ true = maps in cc)
tied_mapped c ks T (Protect place page flags) store stores maps was = absurd (let e : false ≡ true = maps in cc)

same-asid : (c : Config) (place : Place) (page : Span) → dropping c place page ≡ PageOf page (space_asid (setup_of c) [] place)
same-asid c (Space s) page = refl
same-asid c Kernel page = refl

pub tied_edited : (c : Config) (ks : List Order) (T : TicketTable) (w : Wish) (ticket named : ℕ) (store : Store) (stores : ℕ) → is_map w ≡ false → open_answer T named ≡ Ok ticket → AreTied c ks T
    → AreTied c (orders_after c w ticket store stores ks) (after_open T (PageOf (page_of w) (space_asid (setup_of c) [] (place_of w))) named)
tied_edited c ks T (Map place page ppn flags) ticket named store stores edits is was = absurd (let e : true ≡ false = edits in cc)
tied_edited c ks T (Unmap place page) ticket named store stores edits is was =
    tied_opened c ks T (PageOf page (space_asid (setup_of c) [] place)) named ticket (Unmapped place page) stores is (same-asid c place page) was
tied_edited c ks T (Protect place page flags) ticket named store stores edits is was =
    tied_opened c ks T (PageOf page (space_asid (setup_of c) [] place)) named ticket (Other (dropping c place page)) stores is (same-asid c place page) was

-- the ticket is still open once a hart is found
pub open_found : (T : TicketTable) (n from : ℕ) → IsTrue (awaits from (ticket_at T n)) → IsTrue (is_open T n) × IsTrue (is_open (collected_by T n from) n)
open_found T n from waits =
    let here = some-awaited (ticket_at T n) from waits in
    let x = changed (with_acked T.hart from) (ticket_at T n) in
    let first : ticket_at (after_acked T n from) n ≡ x = put T.tickets n x here in
    let acked : IsTrue (is_some (ticket_at (after_acked T n from) n)) = ap is_some first ∙ (still (with_acked T.hart from) (ticket_at T n) ∙ here) in
    let y = changed (with_collected from) (ticket_at (after_acked T n from) n) in
    (here, ap is_some (put (after_acked T n from).tickets n y acked) ∙ (still (with_collected from) (ticket_at (after_acked T n from) n) ∙ acked))
  where
    still : (f : Ticket → Ticket) (x : Option Ticket) → is_some (changed f x) ≡ is_some x
    still f None = refl
    still f (Some t) = refl
