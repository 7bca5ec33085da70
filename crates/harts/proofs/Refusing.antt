-- From the answers of the calls under it to when an unmapping in both harts is refused.
use Rattle.std.proofs.Common.{◌≡◌, ◌∙◌, sym, ap, refl, ℕ, ◌<◌, ◌≤◌, ◌^◌, zero, suc, ◌==◌, ◌&&◌, Bool, true, false, not, cond, List, [], ◌∷◌, length, map, Option, Some, None, Result, Ok, Err, inl, inr, arith}
use Rattle.std.specs.Prelude.{◌⊎◌, ◌↔◌, IfErr, IsOk, nat_lt, nat_le, is_ok, is_some}
use mathlib.Core.Logic.{⊎_elim}
use Rattle.std.proofs.lemmas.Bool.{true≢false}
use Rattle.std.proofs.lemmas.Result.{IfErr-at_err}
use Rattle.std.proofs.lemmas.List.FromFn.{length-range_with_len}
use Rattle.std.specs.Option.{option_map}
use Rattle.std.specs.List.{range_with_len}
use Rattle.pte.specs.Address.{Span, level_of}
use Rattle.pte.specs.declared.entry.Kind.{Kind}
use Rattle.pte.specs.declared.entry.Kind.TheVariants as kinds
use Rattle.pte.specs.Entry.{kind_of}
use Rattle.walk.specs.Leads.{Tables}
use Rattle.shoot.proofs.HartSets.{by_test}
use Rattle.shoot.specs.HartSet.{contains, harts_in}
use Rattle.shoot.specs.Request.{Request}
use Rattle.shoot.specs.declared.mailbox.PostFault.TheVariants as post_fault
use Rattle.shoot.specs.declared.tickets.TicketFault.TheVariants.{HomeNotNamed}
use Rattle.shoot.specs.Tickets.{TicketTable, acked_by, is_open, lowest_free, names, open_answer, opened as opened_ticket, progress_at, tells, ticket_posted}
use Rattle.spaces.specs.declared.places.Place.{Place}
use Rattle.spaces.specs.declared.wishes.Wish.TheVariants.{Unmap}
use Rattle.spaces.specs.declared.faults.MapFault.{MapFault}
use Rattle.spaces.specs.declared.faults.MapFault.TheVariants as fault
use Rattle.spaces.specs.Edits.{Store, edit_of, is_wrong_half, page_word, store_at, unless, upper_word, wish_end, wish_fault}
use Rattle.spaces.specs.Layout.{Layout, home_of}
use Rattle.history.specs.Due.{are_pair}
use Rattle.history.specs.Refusal.{refusal_of}
use Rattle.history.specs.Setup.{Setup}
use Rattle.history.specs.declared.refusal.Refusal.{Refusal}
use Rattle.history.specs.declared.refusal.Refusal.TheVariants as refusal
use Rattle.board.proofs.Unmapping.{accepted, opened-ticket}
use Rattle.board.specs.Ends.{OutboxState}
use Rattle.board.specs.Ports.{ArePorts, End, IsPort, PortName, PortState, element, end_of_inbox, end_of_outbox, inbox_from, name_of, outbox_to}
use Rattle.board.specs.Answers.{ack_self_answer, after_no_post, after_post, answer_or, box_refusal, is_closed_to, known_room, known_waiting, or_refusal, outbox_refusal, post_refusal, refused_if, ticket_refusal}
use Rattle.board.specs.Promises.{IsUnmapping}
use Rattle.board.specs.Tables.{after_opened, after_store, has_place, named_refusal, opened_if, page_request, place_refusal}
use Rattle.harts.specs.Refused.{IsRefused, after_unmap, left_by, left_unmapped, left_with, may_refuse, unmap_answer, unmap_store}
use Rattle.harts.proofs.Freeing.{harts-of-two}

-- the number of the test that a refusal is of
abbrev test_of : Refusal → ℕ
test_of refusal.NoSpace = 0
test_of refusal.NoTicket = 2
test_of refusal.Closed = 3
test_of refusal.Full = 4
test_of refusal.Empty = 5
test_of _ = 1

abbrev test_in : {X : Type 0} → Result X Refusal → ℕ
test_in (Err r) = test_of r
test_in (Ok x) = 6

abbrev refusal_in : {X : Type 0} → Result X Refusal → Refusal
refusal_in (Err r) = r
refusal_in (Ok x) = refusal.Full

of-edit : (f : MapFault) → test_of (refusal_of f) ≡ 1
of-edit fault.NotHome = refl
of-edit fault.WrongHalf = refl
of-edit fault.BadFlags = refl
of-edit fault.PpnTooLarge = refl
of-edit fault.Misaligned = refl
of-edit fault.LeafInWay = refl
of-edit fault.NoFrame = refl
of-edit fault.AlreadyMapped = refl
of-edit fault.TableInWay = refl
of-edit fault.NotMapped = refl
of-edit fault.WrongSize = refl

-- the fault that a refusal is of
abbrev fault_of : Refusal → MapFault
fault_of refusal.NotHome = fault.NotHome
fault_of refusal.WrongHalf = fault.WrongHalf
fault_of refusal.BadFlags = fault.BadFlags
fault_of refusal.PpnTooLarge = fault.PpnTooLarge
fault_of refusal.Misaligned = fault.Misaligned
fault_of refusal.LeafInWay = fault.LeafInWay
fault_of refusal.NoFrame = fault.NoFrame
fault_of refusal.AlreadyMapped = fault.AlreadyMapped
fault_of refusal.TableInWay = fault.TableInWay
fault_of refusal.NotMapped = fault.NotMapped
fault_of _ = fault.WrongSize

back : (f : MapFault) → fault_of (refusal_of f) ≡ f
back fault.NotHome = refl
back fault.WrongHalf = refl
back fault.BadFlags = refl
back fault.PpnTooLarge = refl
back fault.Misaligned = refl
back fault.LeafInWay = refl
back fault.NoFrame = refl
back fault.AlreadyMapped = refl
back fault.TableInWay = refl
back fault.NotMapped = refl
back fault.WrongSize = refl

abbrev fault_in : Result Store MapFault → MapFault
fault_in (Err f) = f
fault_in (Ok store) = fault.WrongSize

-- one answer is no two refusals of different tests
apart : (R : Result Bool Refusal) (r s : Refusal) (m n : ℕ) → R ≡ Err r → R ≡ Err s → test_of r ≡ m → test_of s ≡ n → m ≡ n
apart R r s m n a b of of' = sym of ∙ (ap test_in (sym a ∙ b) ∙ of')

-- what hart 0 answers to the unmapping: whether the place exists, the store, and the lowest free
-- ticket
abbrev pub first : Bool → Result Store MapFault → Option ℕ → Result ℕ Refusal
first there store free = answer_or (refused_if (not there) refusal.NoSpace None) (opened_if store (opened_ticket free))

early : (there : Bool) (store : Result Store MapFault) (free : Option ℕ) (r : Refusal) → first there store free ≡ Err r → test_of r < 3
early false store free r e = let t : 0 ≡ test_of r = ap test_in e in omega (arith, t)
early true (Err f) free r e = let t : 1 ≡ test_of r = sym (of-edit f) ∙ ap test_in e in omega (arith, t)
early true (Ok store) None r e = let t : 2 ≡ test_of r = ap test_in e in omega (arith, t)
early true (Ok store) (Some n) r e = absurd (true≢false (ap is_ok e))

module _ (R : Result Bool Refusal) where
  abbrev pub Firsts : Bool → Result Store MapFault → Option ℕ → Type 0
  Firsts there store free =
      ((R ≡ Err refusal.NoSpace) ↔ (there ≡ false))
      × ((f : MapFault) → (R ≡ Err (refusal_of f)) ↔ (there ≡ true) × (store ≡ Err f))
      × ((R ≡ Err refusal.NoTicket) ↔ (there ≡ true) × IsOk store × (free ≡ None))

  firsts : (there : Bool) (store : Result Store MapFault) (free : Option ℕ) → ((r : Refusal) → first there store free ≡ Err r → R ≡ Err r)
      → ((n : ℕ) → first there store free ≡ Ok n → (r : Refusal) → R ≡ Err r → 3 ≤ test_of r) → Firsts there store free
  firsts false store free told late =
      let is = told refusal.NoSpace refl in (
        (λ _. refl, λ _. is),
        λ f. (λ e. absurd (let t : 0 ≡ 1 = apart R refusal.NoSpace (refusal_of f) 0 1 is e refl (of-edit f) in omega (arith, t)), λ p. absurd (true≢false (sym p.0))),
        (λ e. absurd (let t : 0 ≡ 2 = apart R refusal.NoSpace refusal.NoTicket 0 2 is e refl refl in omega (arith, t)), λ p. absurd (true≢false (sym p.0))),
      )
  firsts true (Err g) free told late =
      let is = told (refusal_of g) refl in (
        (λ e. absurd (let t : 1 ≡ 0 = apart R (refusal_of g) refusal.NoSpace 1 0 is e (of-edit g) refl in omega (arith, t)), λ p. absurd (true≢false p)),
        λ f. (
          λ e. (refl, ap (λ x. Err x) (sym (back g) ∙ (ap (λ x. fault_of (refusal_in x)) (sym is ∙ e) ∙ back f))),
          λ p. is ∙ ap (λ x. Err (refusal_of x)) (ap fault_in p.1),
        ),
        (
          λ e. absurd (let t : 1 ≡ 2 = apart R (refusal_of g) refusal.NoTicket 1 2 is e (of-edit g) refl in omega (arith, t)),
          λ p. absurd (true≢false (sym p.1)),
        ),
      )
  firsts true (Ok store) None told late =
      let is = told refusal.NoTicket refl in (
        (λ e. absurd (let t : 2 ≡ 0 = apart R refusal.NoTicket refusal.NoSpace 2 0 is e refl refl in omega (arith, t)), λ p. absurd (true≢false p)),
        λ f. (
          λ e. absurd (let t : 2 ≡ 1 = apart R refusal.NoTicket (refusal_of f) 2 1 is e refl (of-edit f) in omega (arith, t)),
          λ p. absurd (true≢false (ap is_ok p.1)),
        ),
        (λ _. (refl, refl, refl), λ _. is),
      )
  firsts true (Ok store) (Some n) told late = (
    (λ e. absurd (let t = late n refl refusal.NoSpace e in omega (arith, t)), λ p. absurd (true≢false p)),
    λ f. (
      λ e. absurd (let t = late n refl (refusal_of f) e in let of = of-edit f in omega (arith, t, of)),
      λ p. absurd (true≢false (ap is_ok p.1)),
    ),
    (λ e. absurd (let t = late n refl refusal.NoTicket e in omega (arith, t)), λ p. absurd (true≢false (ap is_some p.2))),
  )

-- the store of an unmapping is refused with these four alone
abbrev may_store : Result Store MapFault → Bool
may_store (Err f) = may_refuse (refusal_of f)
may_store (Ok store) = true

words-may : (l : Layout) (words : Tables) (spare : Option ℕ) (place : Place) (page : Span) (here : Bool) (k : Kind)
    → may_store (store_at place page.base (wish_end l words (Unmap place page)) (cond here (page_word (Unmap place page) k) (upper_word (Unmap place page) spare k))) ≡ true
words-may l words spare place page true kinds.Invalid = refl
words-may l words spare place page true kinds.Reserved = refl
words-may l words spare place page true (kinds.Table ppn global) = refl
words-may l words spare place page true (kinds.Leaf ppn flags) = refl
words-may l words spare place page false kinds.Invalid = refl
words-may l words spare place page false kinds.Reserved = refl
words-may l words spare place page false (kinds.Table ppn global) = refl
words-may l words spare place page false (kinds.Leaf ppn flags) = refl

pub stores-may : (l : Layout) (words : Tables) (spare : Option ℕ) (hart : ℕ) (place : Place) (page : Span) → may_store (edit_of l words spare hart (Unmap place page)) ≡ true
unfolding edit_of wish_fault
stores-may l words spare hart place page =
    let w = wish_end l words (Unmap place page) in
    let here = w.level == level_of page.size in
    let store : Result Store MapFault = store_at place page.base w (cond here (page_word (Unmap place page) (kind_of w.entry)) (upper_word (Unmap place page) spare (kind_of w.entry))) in
    let may : may_store store ≡ true = words-may l words spare place page here (kind_of w.entry) in
    by_test (λ b. may_store (unless (cond (not b) (Some fault.NotHome) (cond (is_wrong_half l place page) (Some fault.WrongHalf) None)) store) ≡ true) (hart == home_of l place)
    (λ _. by_test (λ b. may_store (unless (cond b (Some fault.WrongHalf) None) store) ≡ true) (is_wrong_half l place page) (λ _. refl) (λ _. may))
    (λ _. refl)

ours : (there : Bool) (store : Result Store MapFault) (free : Option ℕ) → may_store store ≡ true → (r : Refusal) → first there store free ≡ Err r → may_refuse r ≡ true
ours false store free may r e = ap (λ x. may_refuse (refusal_in x)) (sym e)
ours true (Err f) free may r e = ap (λ x. may_refuse (refusal_in x)) (sym e) ∙ may
ours true (Ok store) None may r e = ap (λ x. may_refuse (refusal_in x)) (sym e)
ours true (Ok store) (Some n) may r e = absurd (true≢false (ap is_ok e))

-- what the end to hart 1 says
outbox-says : (o : OutboxState) → ((o.closed ≡ true) × (outbox_refusal (Some o) ≡ Some refusal.Closed))
    ⊎ (((o.closed ≡ false) × (outbox_refusal (Some o) ≡ Some refusal.Full)) ⊎ ((o.closed ≡ false) × (outbox_refusal (Some o) ≡ None)))
outbox-says o =
    let full = nat_le o.capacity o.outstanding in
    let by : Bool → Bool → Option Refusal = λ b f. box_refusal (cond b (Some post_fault.Closed) (cond f (Some post_fault.Full) None)) in
    by_test (λ b. ((b ≡ true) × (by b full ≡ Some refusal.Closed)) ⊎ (((b ≡ false) × (by b full ≡ Some refusal.Full)) ⊎ ((b ≡ false) × (by b full ≡ None)))) o.closed
    (λ _. inl (refl, refl))
    (λ _. by_test (λ f. ((false ≡ true) × (by false f ≡ Some refusal.Closed)) ⊎ (((false ≡ false) × (by false f ≡ Some refusal.Full)) ⊎ ((false ≡ false) × (by false f ≡ None)))) full
    (λ _. inr (inl (refl, refl))) (λ _. inr (inr (refl, refl))))

module _ (out : Option OutboxState) (waiting : List Request) (R : Result Bool Refusal) where
  -- what only the ring, or the end of hart 1, can refuse
  abbrev pub Unseen : Refusal → Type 0
  Unseen r = ((r ≡ refusal.Full) × (known_room out ≡ 0)) ⊎ ((r ≡ refusal.Empty) × (waiting ≡ []))

  abbrev pub Lasts : Result ℕ Refusal → Type 0
  Lasts a =
      ((R ≡ Err refusal.Closed) ↔ IsOk a × (is_closed_to out ≡ true))
      × (IsOk a → outbox_refusal out ≡ Some refusal.Full → R ≡ Err refusal.Full)
      × (R ≡ Err refusal.Full → IsOk a × (is_closed_to out ≡ false) × ((outbox_refusal out ≡ Some refusal.Full) ⊎ (known_room out ≡ 0)))
      × (R ≡ Err refusal.Empty → IsOk a × (outbox_refusal out ≡ None) × (waiting ≡ []))
      × ((r : Refusal) → R ≡ Err r → may_refuse r ≡ true)
      × (IsOk a → (r : Refusal) → R ≡ Err r → 3 ≤ test_of r)

may-be : (R : Result Bool Refusal) (r s : Refusal) → R ≡ Err r → R ≡ Err s → may_refuse r ≡ true → may_refuse s ≡ true
may-be R r s is e may = ap (λ x. may_refuse (refusal_in x)) (sym e ∙ is) ∙ may

lasts : (a : Result ℕ Refusal) (out : Option OutboxState) (waiting : List Request) (R : Result Bool Refusal) → is_some out ≡ true
    → ((r : Refusal) → a ≡ Err r → test_of r < 3) → ((r : Refusal) → a ≡ Err r → may_refuse r ≡ true) → ((r : Refusal) → a ≡ Err r → R ≡ Err r)
    → ((n : ℕ) → a ≡ Ok n → (r : Refusal) → outbox_refusal out ≡ Some r → R ≡ Err r)
    → ((n : ℕ) → a ≡ Ok n → outbox_refusal out ≡ None → (r : Refusal) → R ≡ Err r → Unseen out waiting R r)
    → Lasts out waiting R a
lasts (Err w) out waiting R there before may told posts ring =
    let is = told w refl in
    let less = before w refl in (
      (λ e. absurd (let t : test_of w ≡ 3 = apart R w refusal.Closed (test_of w) 3 is e refl refl in omega (arith, t, less)), λ p. absurd (true≢false (sym p.0))),
      λ ok f. absurd (true≢false (sym ok)),
      λ e. absurd (let t : test_of w ≡ 4 = apart R w refusal.Full (test_of w) 4 is e refl refl in omega (arith, t, less)),
      λ e. absurd (let t : test_of w ≡ 5 = apart R w refusal.Empty (test_of w) 5 is e refl refl in omega (arith, t, less)),
      λ r e. may-be R w r is e (may w refl),
      λ ok. absurd (true≢false (sym ok)),
    )
lasts (Ok n) None waiting R there before may told posts ring = absurd (true≢false (sym there))
lasts (Ok n) (Some o) waiting R there before may told posts ring =
    elim (outbox-says o) [
      | inl p ↦
          let is = posts n refl refusal.Closed p.1 in (
            (λ _. (refl, p.0), λ _. is),
            λ ok f. absurd (let t : 3 ≡ 4 = apart R refusal.Closed refusal.Full 3 4 is (posts n refl refusal.Full f) refl refl in omega (arith, t)),
            λ e. absurd (let t : 3 ≡ 4 = apart R refusal.Closed refusal.Full 3 4 is e refl refl in omega (arith, t)),
            λ e. absurd (let t : 3 ≡ 5 = apart R refusal.Closed refusal.Empty 3 5 is e refl refl in omega (arith, t)),
            λ r e. may-be R refusal.Closed r is e refl,
            λ _ r e. let t : 3 ≡ test_of r = ap test_in (sym is ∙ e) in omega (arith, t),
          )
      | inr q ↦ elim q [
        | inl p ↦
            let is = posts n refl refusal.Full p.1 in (
              (λ e. absurd (let t : 4 ≡ 3 = apart R refusal.Full refusal.Closed 4 3 is e refl refl in omega (arith, t)), λ c. absurd (true≢false (sym c.1 ∙ p.0))),
              λ ok f. is,
              λ e. (refl, p.0, inl p.1),
              λ e. absurd (let t : 4 ≡ 5 = apart R refusal.Full refusal.Empty 4 5 is e refl refl in omega (arith, t)),
              λ r e. may-be R refusal.Full r is e refl,
              λ _ r e. let t : 4 ≡ test_of r = ap test_in (sym is ∙ e) in omega (arith, t),
            )
        | inr p ↦ (
          (λ e. closed (ring n refl p.1 refusal.Closed e), λ c. absurd (true≢false (sym c.1 ∙ p.0))),
          λ ok f. absurd (true≢false (ap is_some (sym f ∙ p.1))),
          λ e. (refl, p.0, full (ring n refl p.1 refusal.Full e)),
          λ e. (refl, p.1, empty (ring n refl p.1 refusal.Empty e)),
          λ r e. may_be r (ring n refl p.1 r e),
          λ _ r e. late r (ring n refl p.1 r e),
        )
      ]
    ]
  where
    closed : {P : Type 0} → Unseen (Some o) waiting R refusal.Closed → P
    closed (inl x) = absurd (let t : 3 ≡ 4 = ap test_of x.0 in omega (arith, t))
    closed (inr x) = absurd (let t : 3 ≡ 5 = ap test_of x.0 in omega (arith, t))

    full : Unseen (Some o) waiting R refusal.Full → (outbox_refusal (Some o) ≡ Some refusal.Full) ⊎ (known_room (Some o) ≡ 0)
    full (inl x) = inr x.1
    full (inr x) = absurd (let t : 4 ≡ 5 = ap test_of x.0 in omega (arith, t))

    empty : Unseen (Some o) waiting R refusal.Empty → waiting ≡ []
    empty (inl x) = absurd (let t : 5 ≡ 4 = ap test_of x.0 in omega (arith, t))
    empty (inr x) = x.1

    may_be : (r : Refusal) → Unseen (Some o) waiting R r → may_refuse r ≡ true
    may_be r (inl x) = ap may_refuse x.0
    may_be r (inr x) = ap may_refuse x.0

    late : (r : Refusal) → Unseen (Some o) waiting R r → 3 ≤ test_of r
    late r (inl x) = let t : test_of r ≡ 4 = ap test_of x.0 in omega (arith, t)
    late r (inr x) = let t : test_of r ≡ 5 = ap test_of x.0 in omega (arith, t)

-- what a post refuses is `Closed` or `Full`
which : (out : Option OutboxState) (R : Result Bool Refusal) → is_some out ≡ true → ((r : Refusal) → outbox_refusal out ≡ Some r → R ≡ Err r)
    → (outbox_refusal out ≡ None → (r : Refusal) → R ≡ Err r → r ≡ refusal.Full) → (r : Refusal) → R ≡ Err r → (r ≡ refusal.Closed) ⊎ (r ≡ refusal.Full)
which None R there posts ring r e = absurd (true≢false (sym there))
which (Some o) R there posts ring r e =
    elim (outbox-says o) [
      | inl p ↦ inl (ap refusal_in (sym e ∙ posts refusal.Closed p.1))
      | inr q ↦ elim q [ inl p ↦ inr (ap refusal_in (sym e ∙ posts refusal.Full p.1)) | inr p ↦ inr (ring p.1 r e) ]
    ]

if_err : (R : Result Bool Refusal) (P : Refusal → Type 0) → ((r : Refusal) → R ≡ Err r → P r) → IfErr R P
if_err (Ok b) P f = tt
if_err (Err r) P f = f r refl

-- one answer is one refusal
pub one_refusal : (R : Result Bool Refusal) (r s : Refusal) → R ≡ Err r → R ≡ Err s → r ≡ s
one_refusal R r s e e' = ap refusal_in (sym e ∙ e')

abbrev pub is_true_in : Result Bool Refusal → Bool
is_true_in (Ok b) = b
is_true_in (Err r) = false

-- what both ports are once this was refused
pub ports_left : (R : Result Bool Refusal) (one was after : PortState) (left : Refusal → PortState) → one ≡ was → ((r : Refusal) → R ≡ Err r → after ≡ left r)
    → IfErr R (λ r. (one ≡ was) × (after ≡ left r))
ports_left R one was after left same is = if_err R (λ r. (one ≡ was) × (after ≡ left r)) (λ r e. (same, is r e))

some-of : {X Y : Type 0} (f : X → Y) (x : Option X) → is_some (option_map f x) ≡ is_some x
some-of f None = refl
some-of f (Some x) = refl

some-at : {X Y : Type 0} (f : X → Y) (row : List (Option X)) (n : ℕ) → is_some (element (map (option_map f) row) n) ≡ is_some (element row n)
some-at f [] n = refl
some-at f (x ∷ row) zero = some-of f x
some-at f (x ∷ row) (suc n) = some-at f row n

same-ends : (port : PortState) (place : Place) (page : Span) (answer : Result ℕ Refusal) → (after_opened port (Unmap place page) 3 answer).outboxes ≡ port.outboxes
same-ends port place page (Err r) = refl
same-ends port place page (Ok n) = of (unmap_store port place page)
  where
    of : (d : Result Store MapFault) → (after_store port (Unmap place page) n d).outboxes ≡ port.outboxes
    of (Err f) = refl
    of (Ok store) = refl

module _ (zero one : PortState) (are : ArePorts zero.setup (name_of zero ∷ name_of one ∷ [])) (own : zero.tickets.hart ≡ zero.hart) (place : Place) (page : Span) where
  two : zero.setup.harts ≡ 2
  two = sym (ap length are.numbered ∙ length-range_with_len 0 zero.setup.harts)

  numbers : (zero.hart ≡ 0) × (one.hart ≡ 1)
  numbers = harts-of-two zero.setup (name_of zero) (name_of one) are

  asked : are_pair zero.setup zero.hart 1 ≡ true
  asked =
      ap (λ n. nat_lt zero.hart n && (nat_lt 1 n && not (zero.hart == 1))) two
      ∙ ap (λ h. nat_lt h 2 && (nat_lt 1 2 && not (h == 1))) numbers.0

  pub serves : are_pair one.setup one.hart 0 ≡ true
  serves =
      ap (λ (s : Setup). are_pair s one.hart 0) (are.of_setup 1 (name_of one) (omega arith))
      ∙ (ap (λ n. nat_lt one.hart n && (nat_lt 0 n && not (one.hart == 0))) two
      ∙ ap (λ h. nat_lt h 2 && (nat_lt 0 2 && not (h == 0))) numbers.1)

  there : is_some (outbox_to zero 1) ≡ true
  there =
      let port : IsPort (name_of zero) = are.each 0 (name_of zero) (omega arith) in
      let ends = map (option_map end_of_outbox) zero.outboxes in
      sym (some-at (λ (e : End). e.capacity) ends 1 ∙ some-at end_of_outbox zero.outboxes 1)
      ∙ (ap (λ row. is_some (element row 1)) port.outs
      ∙ (ap (λ n. is_some (element (map (λ other. cond (other == zero.hart) None (Some zero.setup.capacity)) (range_with_len 0 n)) 1)) two
      ∙ ap (λ h. is_some (element (map (λ other. cond (other == h) None (Some zero.setup.capacity)) (range_with_len 0 2)) 1)) numbers.0))

  pub takes : is_some (inbox_from one 0) ≡ true
  takes =
      let port : IsPort (name_of one) = are.each 1 (name_of one) (omega arith) in
      let ends = map (option_map end_of_inbox) one.inboxes in
      sym (some-at (λ (e : End). e.capacity) ends 0 ∙ some-at end_of_inbox one.inboxes 0)
      ∙ (ap (λ row. is_some (element row 0)) port.ins
      ∙ (ap (λ (s : Setup). is_some (element (map (λ other. cond (other == one.hart) None (Some s.capacity)) (range_with_len 0 s.harts)) 0)) (are.of_setup 1 (name_of one) (omega arith))
      ∙ (ap (λ n. is_some (element (map (λ other. cond (other == one.hart) None (Some zero.setup.capacity)) (range_with_len 0 n)) 0)) two
      ∙ ap (λ h. is_some (element (map (λ other. cond (other == h) None (Some zero.setup.capacity)) (range_with_len 0 2)) 0)) numbers.1)))

  answer-is : unmap_answer zero place page ≡ first (has_place zero.setup place) (unmap_store zero place page) (lowest_free zero.tickets)
  answer-is =
      ap (λ n. answer_or (refused_if (not (nat_lt 3 (2 ^ n))) refusal.NoHart (place_refusal zero place)) (opened_if (unmap_store zero place page) (open_answer zero.tickets 3))) two
      ∙ ap (λ h. answer_or (place_refusal zero place) (opened_if (unmap_store zero place page) (cond (contains (harts_in 3) h) (opened_ticket (lowest_free zero.tickets)) (Err HomeNotNamed))))
      (own ∙ numbers.0)

  refused : (R : Result Bool Refusal) → ((r : Refusal) → unmap_answer zero place page ≡ Err r → R ≡ Err r)
      → ((n : ℕ) → unmap_answer zero place page ≡ Ok n → (r : Refusal) → outbox_refusal (outbox_to zero 1) ≡ Some r → R ≡ Err r)
      → ((n : ℕ) → unmap_answer zero place page ≡ Ok n → outbox_refusal (outbox_to zero 1) ≡ None → (r : Refusal) → R ≡ Err r → Unseen (outbox_to zero 1) (known_waiting (inbox_from one 0)) R r)
      → IsRefused zero one place page R
  refused R told posts ring =
      let has = has_place zero.setup place in
      let store = unmap_store zero place page in
      let free = lowest_free zero.tickets in
      let may : may_store store ≡ true = stores-may _ _ _ _ place page in
      let l = lasts (unmap_answer zero place page) (outbox_to zero 1) (known_waiting (inbox_from one 0)) R there (λ r e. early has store free r (sym answer-is ∙ e)) (λ r e. ours has store free may r (sym answer-is ∙ e)) told posts ring in
      let f = firsts R has store free (λ r e. told r (answer-is ∙ e)) (λ n e r is. l.5 (ap is_ok (answer-is ∙ e)) r is) in
      record {
        no_space = f.0;
        no_store = f.1;
        no_ticket = f.2;
        closed = l.0;
        full = l.1;
        only_full = l.2;
        only_empty = l.3;
        no_other = if_err R (λ r. may_refuse r ≡ true) l.4;
      }

  pub at_unmap : (R : Result Bool Refusal) (r : Refusal) → unmap_answer zero place page ≡ Err r → R ≡ Err r → IsRefused zero one place page R
  at_unmap R r answer is =
      refused R (λ s e. is ∙ ap (λ x. Err (refusal_in x)) (sym answer ∙ e)) (λ n e. absurd (true≢false (ap is_ok (sym e ∙ answer)))) (λ n e. absurd (true≢false (ap is_ok (sym e ∙ answer))))

  pub left_at_unmap : (after : PortState) (room : ℕ) (r : Refusal) → unmap_answer zero place page ≡ Err r → after ≡ after_unmap zero place page → (s : Refusal) → after ≡ left_by zero place page room s
  left_at_unmap after room r answer is s =
      is ∙ (ap (after_opened zero (Unmap place page) 3) answer ∙ sym (ap (λ a. left_with a (after_unmap zero place page) zero room s) answer))

  -- once the page is unmapped
  module _ (ticket : ℕ) (unmapped : PortState) (answer : unmap_answer zero place page ≡ Ok ticket) (is : unmapped ≡ after_unmap zero place page) (same : name_of unmapped ≡ name_of zero)
      (stands : IsUnmapping unmapped ticket place page 3) where
    ends : outbox_to unmapped 1 ≡ outbox_to zero 1
    ends = ap (λ row. element row 1) (ap (λ p. p.outboxes) is ∙ same-ends zero place page (unmap_answer zero place page))

    unposted : ticket_posted unmapped.tickets ticket 1 ≡ false
    unposted =
        let free = (accepted (named_refusal zero place 3) (unmap_store zero place page) (open_answer zero.tickets 3) ticket answer).2 in
        ap (λ p. ticket_posted p.tickets ticket 1) is
        ∙ (ap (λ a. ticket_posted (after_opened zero (Unmap place page) 3 a).tickets ticket 1) answer
        ∙ ap (λ t. tells (λ k. k.posted) t 1) (opened-ticket zero.tickets (page_request zero.setup (Unmap place page)) 3 ticket free))

    may-post : ticket_refusal unmapped ticket 1 ≡ None
    may-post =
        let tests : Bool → Bool → Bool → Bool → Option Refusal = λ a b c d. refused_if (not a) refusal.NoHart (refused_if (not b) refusal.NotOpen (refused_if (not c) refusal.NotNamed (refused_if d refusal.AlreadyPosted None))) in
        let pair = ap (λ (n : PortName). are_pair n.setup n.hart 1) same ∙ asked in
        ap (λ a. tests a (is_open unmapped.tickets ticket) (names unmapped.tickets ticket 1) (ticket_posted unmapped.tickets ticket 1)) pair
        ∙ (ap (λ b. tests true b (names unmapped.tickets ticket 1) (ticket_posted unmapped.tickets ticket 1)) stands.is_open
        ∙ (ap (λ c. tests true true c (ticket_posted unmapped.tickets ticket 1)) (stands.names_are 1) ∙ ap (λ d. tests true true true d) unposted))

    post-is : post_refusal unmapped ticket 1 ≡ outbox_refusal (outbox_to zero 1)
    post-is = ap (λ r. or_refusal r (outbox_refusal (outbox_to unmapped 1))) may-post ∙ ap outbox_refusal ends

    not-first : (r : Refusal) → unmap_answer zero place page ≡ Err r → ⊥
    not-first r e = true≢false (ap is_ok (sym answer ∙ e))

    module _ (post : Result (Unit {0}) Refusal) (refuses : (r : Refusal) → post_refusal unmapped ticket 1 ≡ Some r → post ≡ Err r) (R : Result Bool Refusal) where
      -- the post was refused
      module _ (full : post_refusal unmapped ticket 1 ≡ None → IfErr post (λ r. (r ≡ refusal.Full) × (known_room (outbox_to unmapped 1) ≡ 0))) (r : Refusal) (fails : post ≡ Err r) (gives : R ≡ Err r) where
        says : (s : Refusal) → outbox_refusal (outbox_to zero 1) ≡ Some s → R ≡ Err s
        says s e = gives ∙ ap (λ x. Err (refusal_in x)) (sym fails ∙ refuses s (post-is ∙ e))

        by-ring : outbox_refusal (outbox_to zero 1) ≡ None → (s : Refusal) → R ≡ Err s → (s ≡ refusal.Full) × (known_room (outbox_to zero 1) ≡ 0)
        by-ring none s e =
            let by = IfErr-at_err (λ r. (r ≡ refusal.Full) × (known_room (outbox_to unmapped 1) ≡ 0)) fails (full (post-is ∙ none)) in
            (ap refusal_in (sym e ∙ gives) ∙ by.0, ap known_room (sym ends) ∙ by.1)

        pub at_post : IsRefused zero one place page R
        at_post = refused R (λ s e. absurd (not-first s e)) (λ n _. says) (λ n _ none s e. inl (by-ring none s e))

        pub left_at_post : (after : PortState) (room : ℕ) → after ≡ after_no_post unmapped ticket 1 → (s : Refusal) → R ≡ Err s → after ≡ left_by zero place page room s
        left_at_post after room stays s e =
            stays ∙ (ap (λ p. after_no_post p ticket 1) is
            ∙ sym (ap (λ a. left_with a (after_unmap zero place page) zero room s) answer
            ∙ ⊎_elim (ap (left_unmapped (after_unmap zero place page) ticket room)) (ap (left_unmapped (after_unmap zero place page) ticket room))
            (which (outbox_to zero 1) R there says (λ none r e. (by-ring none r e).0) s e)))

      -- the post was accepted
      module _ (accepts : post ≡ Ok tt) where
        taken : (s : Refusal) → outbox_refusal (outbox_to zero 1) ≡ Some s → ⊥
        taken s e = true≢false (ap is_ok (sym accepts ∙ refuses s (post-is ∙ e)))

        pub at_serve : (serve : Result Request Refusal) → (are_pair one.setup one.hart 0 ≡ true → IfErr serve (λ r. (r ≡ refusal.Empty) × (known_waiting (inbox_from one 0) ≡ [])))
            → (r : Refusal) → serve ≡ Err r → R ≡ Err r → IsRefused zero one place page R
        at_serve serve empty r fails gives =
            let by = IfErr-at_err (λ r. (r ≡ refusal.Empty) × (known_waiting (inbox_from one 0) ≡ [])) fails (empty serves) in
            refused R (λ s e. absurd (not-first s e)) (λ n _ s e. absurd (taken s e)) (λ n _ none s e. inr (ap refusal_in (sym e ∙ gives) ∙ by.0, by.1))

        pub left_at_serve : (after : PortState) → after ≡ after_post unmapped ticket 1 (known_room (outbox_to after 1)) → (r : Refusal) → r ≡ refusal.Empty → after ≡ left_by zero place page (known_room (outbox_to after 1)) r
        left_at_serve after stays r empty =
            stays ∙ (ap (λ p. after_post p ticket 1 (known_room (outbox_to after 1))) is
            ∙ sym (ap (λ a. left_with a (after_unmap zero place page) zero (known_room (outbox_to after 1)) r) answer
            ∙ ap (left_unmapped (after_unmap zero place page) ticket (known_room (outbox_to after 1))) empty))

        pub at_end : (b : Bool) → R ≡ Ok b → IsRefused zero one place page R
        at_end b gives =
            refused R (λ s e. absurd (not-first s e)) (λ n _ s e. absurd (taken s e)) (λ n _ none s e. absurd (true≢false (ap is_ok (sym gives ∙ e))))

module _ (port : PortState) (ticket : ℕ) (place : Place) (page : Span) (stands : IsUnmapping port ticket place page 3) where
  pub no_ack : (r : Refusal) → Err r ≡ ack_self_answer port ticket → ⊥
  no_ack r e = true≢false (sym (ap is_ok (e ∙ ap (λ b. cond b (Ok (progress_at (acked_by port.tickets ticket port.hart) ticket)) (Err refusal.NotOpen)) stands.is_open)))

  pub no_collect : (r : Refusal) (after : TicketTable) → (is_open port.tickets ticket ≡ true → Err r ≡ Ok (progress_at after ticket)) → ⊥
  no_collect r after e = true≢false (sym (ap is_ok (e stands.is_open)))
