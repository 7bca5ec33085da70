-- When hart 0 is answered that both harts dropped the page.
use Rattle.std.proofs.Common.{◌≡◌, ◌∙◌, sym, ap, refl, ℕ, Bool, true, false, List, [], ◌∷◌, ◌++◌, length, length-append, get_or, Option, Some, None, Result, Ok, Err, is_some, arith}
use Rattle.std.specs.Prelude.{◌↔◌, IfNone, IfOk, IfSome, is_ok, slice_set, unwrap_or}
use Rattle.std.proofs.lemmas.Bool.{false≢true, true≢false}
use Rattle.pte.specs.Address.{Span}
use Rattle.shoot.specs.Request.{Request}
use Rattle.shoot.specs.Tickets.{asked as asked_by, open_answer, what_at}
use Rattle.spaces.specs.declared.places.Place.{Place}
use Rattle.spaces.specs.declared.wishes.Wish.TheVariants.{Unmap}
use Rattle.history.specs.declared.refusal.Refusal.{Refusal}
use Rattle.board.proofs.Unmapping.{accepted, opened-ticket}
use Rattle.board.specs.Answers.{after_serve, asked_or_all, inbox_with, request_of}
use Rattle.board.specs.Ends.{InboxState}
use Rattle.board.specs.Ports.{PortState, element, inbox_from}
use Rattle.board.specs.Reports.{taken_by}
use Rattle.board.specs.Tables.{after_opened, named_refusal, page_request}
use Rattle.harts.specs.Free.{HaveDropped, request_for}
use Rattle.harts.specs.Refused.{after_unmap, unmap_answer, unmap_store}

-- what a port took of hart 0's requests is one more once it served one
took-more : (ins : List (Option InboxState)) (r : Request) (known : List Request) → is_some (element ins 0) ≡ true
    → taken_by (element (slice_set ins 0 (inbox_with r known (element ins 0))) 0) ≡ taken_by (element ins 0) ++ r ∷ []
took-more [] r known there = absurd (false≢true there)
took-more (None ∷ ins) r known there = absurd (false≢true there)
took-more (Some i ∷ ins) r known there = refl

abbrev took : PortState → List Request
took port = taken_by (inbox_from port 0)

last-of : (xs : List Request) (a d : Request) → get_or (xs ++ a ∷ []) (length xs) d ≡ a
last-of [] a d = refl
last-of (x ∷ xs) a d = last-of xs a d

module _ (one : PortState) (there : is_some (inbox_from one 0) ≡ true) where
  -- a port that serves does not stay as it is
  pub serves_one : (r : Request) (known : List Request) → one ≡ after_serve one 0 r known → ⊥
  serves_one r known same =
      let count = ap length (ap took same ∙ took-more one.inboxes r known there) in
      let long = length-append (took one) (r ∷ []) in
      omega (arith, count, long)

  -- what it is then tells the request
  pub serves_same : (a b : Request) (known more : List Request) → after_serve one 0 a known ≡ after_serve one 0 b more → a ≡ b
  serves_same a b known more same =
      let taken = sym (took-more one.inboxes a known there) ∙ (ap took same ∙ took-more one.inboxes b more there) in
      sym (last-of (took one) a a) ∙ (ap (λ xs. get_or xs (length (took one)) a) taken ∙ last-of (took one) b a)

-- the request of the ticket under which the page was unmapped
pub asked_for : (zero : PortState) (place : Place) (page : Span) (ticket : ℕ) (unmapped : PortState) → unmap_answer zero place page ≡ Ok ticket → unmapped ≡ after_unmap zero place page
    → request_of unmapped.tickets ticket ≡ request_for zero place page ticket
asked_for zero place page ticket unmapped answer is =
    let free = (accepted (named_refusal zero place 3) (unmap_store zero place page) (open_answer zero.tickets 3) ticket answer).2 in
    ap (λ what. record { ticket = ticket; what = asked_or_all what })
    (ap (λ p. what_at p.tickets ticket) is
    ∙ (ap (λ a. what_at (after_opened zero (Unmap place page) 3 a).tickets ticket) answer
    ∙ ap asked_by (opened-ticket zero.tickets (page_request zero.setup (Unmap place page)) 3 ticket free)))

pub request_is : (asked : Option Request) (is_open : Bool) (r : Request) → IfSome asked (λ x. x ≡ r) → IfNone asked (is_open ≡ false) → is_open ≡ true → asked ≡ Some r
request_is None is_open r some none there = absurd (false≢true (sym none ∙ there))
request_is (Some x) is_open r some none there = ap (λ y. Some y) some

pub not_dropped : (zero one after other : PortState) (place : Place) (page : Span) (R : Result Bool Refusal) (r : Refusal) → R ≡ Err r → (HaveDropped zero one after other place page → ⊥)
    → (R ≡ Ok true) ↔ HaveDropped zero one after other place page
not_dropped zero one after other place page R r gives none = ((λ e. absurd (true≢false (ap is_ok (sym e ∙ gives)))), (λ h. absurd (none h)))

pub IfSome-same : {a b : Request} (o : Option Request) → a ≡ b → IfSome o (λ x. x ≡ a) → IfSome o (λ x. x ≡ b)
IfSome-same None is was = tt
IfSome-same (Some x) is was = was ∙ is

pub some_is : {a b : Request} → Some a ≡ Some b → a ≡ b
some_is {a} {b} e = ap (λ o. unwrap_or o a) e

pub ok_is : {X : Type 0} {a b : X} → (let f : Result X Refusal = Ok a in f ≡ Ok b) → a ≡ b
ok_is {X} {a} {b} e = ap (λ r. ok_or r a) e
  where
    ok_or : Result X Refusal → X → X
    ok_or (Ok x) d = x
    ok_or (Err r) d = d

pub no_ok : {X : Type 0} (R : Result X Refusal) (r : Refusal) (P : X → Type 0) → R ≡ Err r → IfOk R P
no_ok (Ok x) r P e = absurd (true≢false (ap is_ok e))
no_ok (Err s) r P e = tt
