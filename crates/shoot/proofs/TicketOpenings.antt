-- What an opening answers: the first number that is free, or why there is none.
use Rattle.std.proofs.Common.{◌≡◌, ◌∙◌, sym, ap, refl, ℕ, ◌<◌, ◌≤◌, ◌↔◌, Bool, true, false, cond, length, get_or, Option, Some, None, Result, Ok, Err, IsTrue, arith, ltb}
use Rattle.std.proofs.lemmas.Bool.{ltb-true, ltb-false, lt-ltb}
use Rattle.std.proofs.lemmas.Bool.Decides.{nat_tests}
use Rattle.std.proofs.lemmas.List.Sums.{position_or_len_is, fails_before_first, passes_at_first}
use Rattle.std.proofs.lemmas.Option.{slice_get-get_or}
use Rattle.std.specs.Option.{is_none, is_some}
use Rattle.std.specs.List.{position_or_len}
use Rattle.shoot.specs.HartSet.{contains, harts_in}
use Rattle.shoot.specs.Tickets.{TicketTable, if_open, is_open, open_answer, opened, ticket_at}
use Rattle.shoot.specs.declared.tickets.Ticket.{Ticket}
use Rattle.shoot.specs.declared.tickets.TicketFault.{TicketFault}
use Rattle.shoot.specs.declared.tickets.TicketFault.TheVariants.{HomeNotNamed, NoTicket}

-- the place of the first free number
first : TicketTable → ℕ
first table = position_or_len is_none table.tickets

place : TicketTable → ℕ → Option Ticket
place table number = get_or table.tickets number None

at_place : (table : TicketTable) (number : ℕ) → number < length table.tickets → ticket_at table number ≡ place table number
unfolding place
at_place table number below = ap if_open (slice_get-get_or table.tickets number None below)

none_is_free : (ticket : Option Ticket) → is_none ticket ≡ true → ticket ≡ None
none_is_free None e = refl
none_is_free (Some ticket) e = absurd cc

some_is_open : (ticket : Option Ticket) → is_none ticket ≡ false → is_some ticket ≡ true
some_is_open None e = absurd cc
some_is_open (Some ticket) e = refl

open_is_some : (ticket : Option Ticket) → is_some ticket ≡ true → is_none ticket ≡ false
open_is_some None e = absurd cc
open_is_some (Some ticket) e = refl

free_at_first : (table : TicketTable) → first table < length table.tickets → ticket_at table (first table) ≡ None
unfolding first place
free_at_first table below = at_place table (first table) below ∙ none_is_free _ (passes_at_first is_none table.tickets None below)

open_before_first : (table : TicketTable) (number : ℕ) → number < first table → number < length table.tickets → IsTrue (is_open table number)
unfolding first place
open_before_first table number before below =
    ap is_some (at_place table number below) ∙ some_is_open _ (fails_before_first is_none table.tickets number None before)

is_first : (table : TicketTable) (number : ℕ) → number ≤ length table.tickets → ((lower : ℕ) → lower < number → IsTrue (is_open table lower))
    → (number < length table.tickets → ticket_at table number ≡ None) → first table ≡ number
unfolding first place
is_first table number within lower free =
    position_or_len_is is_none table.tickets number None within
    (λ k before. open_is_some _ (sym (ap is_some (at_place table k (omega arith))) ∙ lower k before))
    (λ below. ap is_none (sym (at_place table number below) ∙ free below))

-- ---- the answer by two tests: the hart is named, and some number is free

answer : Bool → Bool → ℕ → Result ℕ TicketFault
answer has some number = cond has (opened (cond some (Some number) None)) (Err HomeNotNamed)

is_not_named : (has some : Bool) (number : ℕ) → answer has some number ≡ Err HomeNotNamed → has ≡ false
unfolding answer
is_not_named true true number e = absurd cc
is_not_named true false number e = absurd cc
is_not_named false some number e = refl

is_full : (has some : Bool) (number : ℕ) → answer has some number ≡ Err NoTicket → (has ≡ true) × (some ≡ false)
unfolding answer
is_full true true number e = absurd cc
is_full true false number e = (refl, refl)
is_full false some number e = absurd cc

is_number : (has some : Bool) (number told : ℕ) → answer has some number ≡ Ok told → (has ≡ true) × (some ≡ true) × (number ≡ told)
unfolding answer
is_number true true number told e = (refl, refl, cc)
is_number true false number told e = absurd cc
is_number false some number told e = absurd cc

given : (has some : Bool) (number : ℕ) (result : Result ℕ TicketFault) → has ≡ true → opened (cond some (Some number) None) ≡ result → answer has some number ≡ result
unfolding answer
given has some number result on e = ap (λ test. cond test (opened (cond some (Some number) None)) (Err HomeNotNamed)) on ∙ e

pub home_not_named : (table : TicketTable) (named : ℕ) → open_answer table named ≡ Err HomeNotNamed ↔ (contains (harts_in named) table.hart ≡ false)
unfolding first answer
home_not_named table named = (
  is_not_named (contains (harts_in named) table.hart) (ltb (first table) (length table.tickets)) (first table),
  (λ e. ap (λ test. answer test (ltb (first table) (length table.tickets)) (first table)) e),
)

pub no_ticket : (table : TicketTable) (named : ℕ) → open_answer table named ≡ Err NoTicket
    ↔ IsTrue (contains (harts_in named) table.hart) × ((number : ℕ) → number < length table.tickets → IsTrue (is_open table number))
unfolding first answer
no_ticket table named = (
  (λ e.
      let full = is_full (contains (harts_in named) table.hart) (ltb (first table) (length table.tickets)) (first table) e in
      let past : length table.tickets ≤ first table = ltb-false _ _ full.1 in
      (full.0, λ number below. open_before_first table number (omega arith) below)),
  (λ h.
      let past : first table ≡ length table.tickets = is_first table (length table.tickets) (omega arith) h.1 (λ below. absurd (omega arith)) in
      let none : ltb (first table) (length table.tickets) ≡ false = grind (arith, nat_tests) in
      given (contains (harts_in named) table.hart) (ltb (first table) (length table.tickets)) (first table) (Err NoTicket) h.0
      (ap (λ some. opened (cond some (Some (first table)) None)) none)),
)

pub lowest : (table : TicketTable) (named number : ℕ) → open_answer table named ≡ Ok number
    ↔ IsTrue (contains (harts_in named) table.hart) × (number < length table.tickets) × (ticket_at table number ≡ None) × ((lower : ℕ) → lower < number → IsTrue (is_open table lower))
unfolding first answer
lowest table named number = (
  (λ e.
      let told = is_number (contains (harts_in named) table.hart) (ltb (first table) (length table.tickets)) (first table) number e in
      let below : first table < length table.tickets = ltb-true _ _ told.1 in
      let same : first table ≡ number = told.2 in
      let free : ticket_at table number ≡ None = ap (ticket_at table) (sym same) ∙ free_at_first table below in
      (told.0, omega arith, free, λ lower before. open_before_first table lower (omega arith) (omega arith))),
  (λ h.
      let same : first table ≡ number = is_first table number (omega (arith, h.1)) h.3 (λ below. h.2) in
      let some : ltb (first table) (length table.tickets) ≡ true = lt-ltb _ _ (omega (arith, h.1)) in
      given (contains (harts_in named) table.hart) (ltb (first table) (length table.tickets)) (first table) (Ok number) h.0
      (ap (λ test. opened (cond test (Some (first table)) None)) some ∙ ap Ok same)),
)
