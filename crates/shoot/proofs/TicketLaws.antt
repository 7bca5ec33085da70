-- What every call on the tickets of a hart keeps: whose acknowledgement is collected has
-- acknowledged.
use Rattle.std.proofs.Common.{◌≡◌, ◌≢◌, ◌∙◌, sym, ap, refl, subst, ℕ, zero, suc, ◌<◌, Bool, true, false, cond, List, [], ◌∷◌, length, length-set, replicate, set, slice_get, Option, Some, None, Result, Ok, Err, IfSome, IsTrue, ◌⊎◌, inl, inr, arith, eqb}
use Rattle.pte.specs.declared.address.What.{What}
use Rattle.shoot.specs.HartSet.{contains}
use Rattle.shoot.specs.Tickets.{TicketTable, IsSound, AreSound, no_tickets, if_open, ticket_at, with_ticket, with_change, changed, ticket_for, with_posted, with_acked, with_collected, answer_for, with_opened, after_acked, after_collect, after_finish, after_open_for, after_posted, is_done_at, done_with, tells, names, ticket_acked}
use Rattle.pte.specs.declared.TheConstants.{MAX_HARTS}
use Rattle.shoot.specs.declared.TheConstants.{MAX_TICKETS}
use Rattle.shoot.specs.declared.tickets.Ticket.{Ticket}
use Rattle.shoot.specs.declared.tickets.TicketFault.{TicketFault}
use Rattle.shoot.proofs.HartBytes.{done}
use Rattle.shoot.proofs.HartSets.{by_test, contains_where}

-- ---- the places of the table

abbrev Places : Type 0
Places = List (Option Ticket)

get_set_same : (places : Places) (number : ℕ) (place : Option Ticket) → number < length places → slice_get (set places number place) number ≡ Some place
get_set_same [] number place h = absurd (omega arith)
get_set_same (first ∷ rest) zero place h = refl
get_set_same (first ∷ rest) (suc number) place h = get_set_same rest number place (omega arith)

get_set_other : (places : Places) (number other : ℕ) (place : Option Ticket) → number ≢ other → slice_get (set places number place) other ≡ slice_get places other
get_set_other [] number other place h = refl
get_set_other (first ∷ rest) zero zero place h = absurd (h refl)
get_set_other (first ∷ rest) zero (suc other) place h = refl
get_set_other (first ∷ rest) (suc number) zero place h = refl
get_set_other (first ∷ rest) (suc number) (suc other) place h = get_set_other rest number other place (λ e. h (ap suc e))

get_changed : (places : Places) (number : ℕ) (change : Ticket → Ticket)
    → if_open (slice_get (set places number (changed change (if_open (slice_get places number)))) number) ≡ changed change (if_open (slice_get places number))
get_changed [] number change = refl
get_changed (first ∷ rest) zero change = refl
get_changed (first ∷ rest) (suc number) change = get_changed rest number change

pub at_other : (table : TicketTable) (number other : ℕ) (place : Option Ticket) → number ≢ other → ticket_at (with_ticket table number place) other ≡ ticket_at table other
at_other table number other place h = ap if_open (get_set_other table.tickets number other place h)

pub at_same : (table : TicketTable) (number : ℕ) (place : Option Ticket) → number < length table.tickets → ticket_at (with_ticket table number place) number ≡ place
at_same table number place h = ap if_open (get_set_same table.tickets number place h)

pub at_changed : (table : TicketTable) (number : ℕ) (change : Ticket → Ticket) → ticket_at (with_change table number change) number ≡ changed change (ticket_at table number)
at_changed table number change = get_changed table.tickets number change

-- ---- a set with one more hart

has_put : (harts : List Bool) (hart : ℕ) → hart < length harts → contains (set harts hart true) hart ≡ true
has_put [] hart below = absurd (omega arith)
has_put (first ∷ rest) zero below = refl
has_put (first ∷ rest) (suc hart) below = has_put rest hart (omega arith)

still_has : (harts : List Bool) (put hart : ℕ) → contains harts hart ≡ true → contains (set harts put true) hart ≡ true
still_has [] put hart has = has
still_has (first ∷ rest) zero zero has = refl
still_has (first ∷ rest) zero (suc hart) has = has
still_has (first ∷ rest) (suc put) zero has = has
still_has (first ∷ rest) (suc put) (suc hart) has = still_has rest put hart has

put_or_had : (harts : List Bool) (put hart : ℕ) → contains (set harts put true) hart ≡ true → (put ≡ hart) ⊎ (contains harts hart ≡ true)
put_or_had [] put hart has = inr has
put_or_had (first ∷ rest) zero zero has = inl refl
put_or_had (first ∷ rest) zero (suc hart) has = inr has
put_or_had (first ∷ rest) (suc put) zero has = inr has
put_or_had (first ∷ rest) (suc put) (suc hart) has = elim (put_or_had rest put hart has) [
  | inl same ↦ inl (ap suc same)
  | inr had ↦ inr had
]

-- ---- each change of a ticket

fresh : (what : What) (named : List Bool) → IsSound (ticket_for what named)
fresh what named = (refl, λ hart below collected. let none = contains_where (λ _. false) hart below in absurd cc)

acked : (home from : ℕ) (ticket : Ticket) → IsSound ticket → IsSound (with_acked home from ticket)
acked home from ticket was = (
  length-set ticket.acked from true ∙ was.0,
  λ hart below. by_test (λ own. contains (cond own (set ticket.collected from true) ticket.collected) hart ≡ true → contains (set ticket.acked from true) hart ≡ true) (eqb from home)
      (λ _ has. elim (put_or_had ticket.collected from hart has) [
        | inl same ↦ subst (λ n. contains (set ticket.acked from true) n ≡ true) same (has_put ticket.acked from (omega (arith, was.0, same, below)))
        | inr had ↦ still_has ticket.acked from hart (was.1 hart below had)
      ])
      (λ _ had. still_has ticket.acked from hart (was.1 hart below had)),
)

collected : (from : ℕ) (ticket : Ticket) → IsSound ticket → IsSound (with_collected from ticket)
collected from ticket was = (
  was.0,
  λ hart below. by_test (λ there. contains (cond there (set ticket.collected from true) ticket.collected) hart ≡ true → contains ticket.acked hart ≡ true) (contains ticket.acked from)
      (λ there has. elim (put_or_had ticket.collected from hart has) [
        | inl same ↦ subst (λ n. contains ticket.acked n ≡ true) same there
        | inr had ↦ was.1 hart below had
      ])
      (λ _ had. was.1 hart below had),
)

-- ---- each call

none_open : (count number : ℕ) → if_open (slice_get (replicate count None) number) ≡ None
none_open zero number = refl
none_open (suc count) zero = refl
none_open (suc count) (suc number) = none_open count number

pub new_sound : (home : ℕ) → AreSound (no_tickets home)
new_sound home = record { count = refl; each = λ number. subst (λ (place : Option Ticket). IfSome place IsSound) (sym (none_open MAX_TICKETS number)) tt }

placed : (places : Places) (number : ℕ) (place : Option Ticket) → IfSome place IsSound → ((other : ℕ) → IfSome (if_open (slice_get places other)) IsSound)
    → (other : ℕ) → IfSome (if_open (slice_get (set places number place) other)) IsSound
placed [] number place sound was other = was other
placed (first ∷ rest) zero place sound was zero = sound
placed (first ∷ rest) zero place sound was (suc other) = was (suc other)
placed (first ∷ rest) (suc number) place sound was zero = was zero
placed (first ∷ rest) (suc number) place sound was (suc other) = placed rest number place sound (λ n. was (suc n)) other

with_sound : (table : TicketTable) (number : ℕ) (place : Option Ticket) → AreSound table → IfSome place IsSound → AreSound (with_ticket table number place)
with_sound table number place was sound = record {
  count = length-set table.tickets number place ∙ was.count;
  each = placed table.tickets number place sound was.each;
}

change_sound : (table : TicketTable) (number : ℕ) (change : Ticket → Ticket) → ((ticket : Ticket) → IsSound ticket → IsSound (change ticket))
    → AreSound table → AreSound (with_change table number change)
change_sound table number change keeps was = with_sound table number (changed change (ticket_at table number)) was (still (ticket_at table number) (was.each number))
  where
    still : (place : Option Ticket) → IfSome place IsSound → IfSome (changed change place) IsSound
    still None sound = tt
    still (Some ticket) sound = keeps ticket sound

pub opened_sound : (table : TicketTable) (what : What) (named : List Bool) → AreSound table → AreSound (after_open_for table what named)
opened_sound table what named was = by_answer (answer_for table named)
  where
    by_answer : (answer : Result ℕ TicketFault) → AreSound (with_opened table answer (ticket_for what named))
    by_answer (Ok number) = with_sound table number (Some (ticket_for what named)) was (fresh what named)
    by_answer (Err fault) = was

pub posted_sound : (table : TicketTable) (number to : ℕ) → AreSound table → AreSound (after_posted table number to)
posted_sound table number to = change_sound table number (with_posted to) (λ ticket was. was)

pub acked_sound : (table : TicketTable) (number from : ℕ) → AreSound table → AreSound (after_acked table number from)
acked_sound table number from = change_sound table number (with_acked table.hart from) (acked table.hart from)

pub collected_sound : (table : TicketTable) (number from : ℕ) → AreSound table → AreSound (after_collect table number from)
collected_sound table number from = change_sound table number (with_collected from) (collected from)

pub finished_sound : (table : TicketTable) (number : ℕ) → AreSound table → AreSound (after_finish table number)
finished_sound table number was = by_test (λ done. AreSound (cond done (with_ticket table number None) table)) (is_done_at table number)
    (λ _. with_sound table number None was tt) (λ _. was)

-- ---- a ticket that is done was acknowledged by each hart that it names

pub done_acked : (table : TicketTable) (number hart : ℕ) → AreSound table → hart < MAX_HARTS
    → IsTrue (is_done_at table number) → IsTrue (names table number hart) → IsTrue (ticket_acked table number hart)
done_acked table number hart sound below = at (ticket_at table number) (sound.each number)
  where
    at : (place : Option Ticket) → IfSome place IsSound → done_with place ≡ true
        → tells (λ ticket. ticket.named) place hart ≡ true → tells (λ ticket. ticket.acked) place hart ≡ true
    at None _ is_done is_named = absurd cc
    at (Some ticket) was is_done is_named = was.1 hart below ((done ticket).0 is_done hart below is_named)
