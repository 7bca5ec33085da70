-- The marks that a word stands for: the lowest of them, and what setting or clearing a bit changes.
use Rattle.std.proofs.Common.{◌≡◌, ◌≢◌, ◌∙◌, sym, ap, refl, ℕ, ◌+◌, ◌-◌, ◌*◌, ◌%◌, ◌^◌, ◌<◌, Bool, true, false, not, List, [], ◌∷◌, Option, Some, None, length, map, set, get_or, inl, inr, arith, eqb, cond, w64, get_or-set_same, get_or-set_other, length-set}
use Rattle.std.specs.Int.{bit_at, bit_not, trailing_zeros}
use Rattle.std.specs.Prelude.{bit_and, bit_or, is_none, is_some, slice_get}
use Rattle.std.specs.Option.{unwrap_or}
use Rattle.std.proofs.lemmas.Option.{unwrap_or-slice_get}
use Rattle.shoot.specs.Tickets.{if_open}
use Rattle.std.specs.List.{range_with_len, position, position_or_len}
use Rattle.std.proofs.lemmas.Bool.{cases_eq, lt-ltb}
use Rattle.std.proofs.lemmas.List.{same_lists, length-map, map-set}
use Rattle.std.proofs.Math.Seq.{map-set_same}
use Rattle.std.proofs.lemmas.List.FromFn.{get_or-map-range_with_len, length-map-range_with_len}
use Rattle.std.proofs.lemmas.List.Sums.{position_or_len_is}
use Rattle.std.proofs.lemmas.Nat.Bits.{bit_at-trailing_zeros, bit_at_set_same, bit_at_set_other, bit_at_clear_same, bit_at_clear_other}
use Rattle.shoot.specs.FreeTickets.{marked_in, all_free, lowest_marked}
use Rattle.shoot.specs.declared.TheConstants.{MAX_TICKETS}
use Rattle.shoot.specs.declared.tickets.Ticket.{Ticket}

-- the marks of the first numbers that pass a test
abbrev marks : (ℕ → Bool) → ℕ → List Bool
marks test count = map test (range_with_len 0 count)

mark_at : (test : ℕ → Bool) (count k : ℕ) (d : Bool) → k < count → get_or (marks test count) k d ≡ test k
mark_at test count k d within = get_or-map-range_with_len test 0 count k k d within (omega arith)

-- the lowest number that passes a test is the lowest mark
lowest_mark : (test : ℕ → Bool) (count lowest : ℕ) → lowest < count → test lowest ≡ true → ((k : ℕ) → k < lowest → test k ≡ false)
    → lowest_marked (marks test count) ≡ Some lowest
lowest_mark test count lowest within passes fails =
    let long : length (marks test count) ≡ count = length-map-range_with_len test 0 count in
    let first : position_or_len (λ mark. mark) (marks test count) ≡ lowest =
    position_or_len_is (λ mark. mark) (marks test count) lowest false (omega arith)
    (λ k before. mark_at test count k false (omega arith) ∙ fails k before)
    (λ _. mark_at test count lowest false within ∙ passes) in
    rw (first, long, lt-ltb lowest count within) refl

-- a test that differs from another at one number alone
one_mark : (old new : ℕ → Bool) (count at : ℕ) (mark : Bool) → at < count → new at ≡ mark → ((k : ℕ) → k < count → k ≢ at → new k ≡ old k)
    → marks new count ≡ set (marks old count) at mark
one_mark old new count at mark within here others =
    let long : length (marks new count) ≡ count = length-map-range_with_len new 0 count in
    let before : length (marks old count) ≡ count = length-map-range_with_len old 0 count in
    same_lists _ _ (long ∙ sym (length-set (marks old count) at mark ∙ before)) (λ k d less. elim (cases_eq k at) [
      | inl same ↦ mark_at new count k d (omega arith) ∙ (ap new same ∙ here) ∙ sym (ap (λ n. get_or (set (marks old count) at mark) n d) same ∙ get_or-set_same (marks old count) at mark d (omega arith))
      | inr apart ↦ mark_at new count k d (omega arith) ∙ others k (omega arith) apart ∙ sym (get_or-set_other (marks old count) at k mark d apart ∙ mark_at old count k d (omega arith))
    ])

-- ---- the marks of a word

pub all_marked : marked_in (2 ^ 64 - 1) ≡ all_free
unfolding marked_in
all_marked = refl

pub none_marked : lowest_marked (marked_in 0) ≡ None
unfolding marked_in
none_marked = refl

-- the lowest bit that is set is the lowest mark
pub lowest_is : (bits : ℕ) → 0 < bits → bits < 2 ^ 64 → lowest_marked (marked_in bits) ≡ Some (trailing_zeros w64 bits)
unfolding marked_in
lowest_is bits some fits =
    let found = bit_at-trailing_zeros w64 bits some fits in
    lowest_mark (λ ticket. eqb (bit_at bits ticket) 1) MAX_TICKETS (trailing_zeros w64 bits) found.0
    (rw found.1 refl) (λ k before. rw (found.2 k before) refl)

-- a bit that is set, or cleared, changes the mark of its ticket alone
pub marked : (bits ticket : ℕ) → ticket < MAX_TICKETS → marked_in (bit_or bits (1 * 2 ^ ticket % 2 ^ 64)) ≡ set (marked_in bits) ticket true
unfolding marked_in
marked bits ticket within =
    one_mark (λ k. eqb (bit_at bits k) 1) (λ k. eqb (bit_at (bit_or bits (1 * 2 ^ ticket % 2 ^ 64)) k) 1) MAX_TICKETS ticket true within
    (rw (bit_at_set_same w64 bits ticket within) refl) (λ k _ apart. rw (bit_at_set_other w64 bits ticket within k apart) refl)

pub unmarked : (bits ticket : ℕ) → ticket < MAX_TICKETS → marked_in (bit_and bits (bit_not w64 (1 * 2 ^ ticket % 2 ^ 64))) ≡ set (marked_in bits) ticket false
unfolding marked_in
unmarked bits ticket within =
    one_mark (λ k. eqb (bit_at bits k) 1) (λ k. eqb (bit_at (bit_and bits (bit_not w64 (1 * 2 ^ ticket % 2 ^ 64))) k) 1) MAX_TICKETS ticket false within
    (rw (bit_at_clear_same w64 bits ticket within) refl) (λ k below apart. rw (bit_at_clear_other w64 bits ticket within k below apart) refl)

-- ---- the marks of the tickets

-- the lowest mark of a test is the first place that passes it
pub lowest_of_test : {X : Type 0} (test : X → Bool) (xs : List X) → lowest_marked (map test xs) ≡ position test xs
lowest_of_test test xs = rw (first test xs, length-map xs test) refl
  where
    first : {X : Type 0} (test : X → Bool) (xs : List X) → position_or_len (λ mark. mark) (map test xs) ≡ position_or_len test xs
    first test [] = refl
    first test (x ∷ xs) = ap (λ n. cond (not (test x)) (1 + n) 0) (first test xs)

-- a place that holds a ticket, read with any default
in_place : (place : Option (Option Ticket)) (d : Option Ticket) → is_some (if_open place) ≡ true → is_none (unwrap_or place d) ≡ false
in_place None d e = absurd cc
in_place (Some None) d e = absurd cc
in_place (Some (Some ticket)) d e = refl

-- a ticket in the place of an open one leaves the marks
pub ticket_replaced : (free : List Bool) (tickets : List (Option Ticket)) (at : ℕ) (ticket : Ticket) → is_some (if_open (slice_get tickets at)) ≡ true
    → free ≡ map is_none tickets → free ≡ map is_none (set tickets at (Some ticket))
ticket_replaced free tickets at ticket there marks =
    marks ∙ sym (map-set_same is_none tickets at (Some ticket) (Some ticket) (sym (ap is_none (sym (unwrap_or-slice_get tickets at (Some ticket))) ∙ in_place (slice_get tickets at) (Some ticket) there)))

-- a ticket in a free place takes its mark, and a place that is freed gets it
pub ticket_opened : (free : List Bool) (tickets : List (Option Ticket)) (at : ℕ) (ticket : Ticket)
    → free ≡ map is_none tickets → set free at false ≡ map is_none (set tickets at (Some ticket))
ticket_opened free tickets at ticket marks = ap (λ (old : List Bool). set old at false) marks ∙ sym (map-set is_none tickets at (Some ticket))

pub ticket_freed : (free : List Bool) (tickets : List (Option Ticket)) (at : ℕ)
    → free ≡ map is_none tickets → set free at true ≡ map is_none (set tickets at None)
ticket_freed free tickets at marks = ap (λ (old : List Bool). set old at true) marks ∙ sym (map-set is_none tickets at None)
