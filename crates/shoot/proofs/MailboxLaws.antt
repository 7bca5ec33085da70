-- What every lawful history of a mailbox keeps.
use Rattle.std.proofs.Common.{◌≡◌, ◌∙◌, sym, ap, refl, subst, ℕ, ◌+◌, ◌<◌, Bool, true, cond, List, [], ◌∷◌, ◌++◌, length, drop, slice_get, Option, Some, None, Result, Ok, Err, append_assoc, length-append, arith, leb}
use Rattle.std.proofs.lemmas.List.{append-nil}
use Rattle.std.proofs.lemmas.Bool.{ltb-true}
use Rattle.std.proofs.lemmas.Bool.Decides.{nat_tests}
use Rattle.std.specs.Option.{is_none}
use Rattle.shoot.specs.Request.{Request}
use Rattle.shoot.specs.Mailbox.{MailboxState, empty_mailbox, post_fault, post_answer, answer_with, with_request}
use Rattle.shoot.specs.MailboxHistory.{MailboxCall, Post, Take, Release, Close, accepted_by_calls, accepted_by, taken_by_calls, taken_by, released, is_closed_by_calls, after_turn, mailbox_after, IsDue, IsLawful, IsLeftBy}
use Rattle.shoot.specs.declared.mailbox.PostFault.{PostFault}
use Rattle.shoot.specs.declared.mailbox.PostFault.TheVariants.{Closed, Full}

abbrev Answer : Type 0
Answer = Result (Unit {0}) (PostFault × Request)

order_post : (fault : Option PostFault) (answer : Answer) (mailbox : MailboxState) (request : Request) (front back : List Request)
    → answer ≡ answer_with fault request → front ≡ back ++ mailbox.waiting
    → front ++ accepted_by (Post request answer) ≡ back ++ (cond (is_none fault) (with_request mailbox request) mailbox).waiting
order_post None (Ok done) mailbox request front back e h = rw h (append_assoc back mailbox.waiting (request ∷ []))
order_post None (Err fault) mailbox request front back e h = absurd cc
order_post (Some fault) (Ok done) mailbox request front back e h = absurd cc
order_post (Some fault) (Err pair) mailbox request front back e h = append-nil front ∙ h

order_take : (waiting : List Request) (answer : Option Request) (front back : List Request)
    → answer ≡ slice_get waiting 0 → front ≡ back ++ waiting
    → front ++ [] ≡ (back ++ taken_by (Take answer)) ++ drop 1 waiting
order_take [] None front back e h = append-nil front ∙ (h ∙ sym (append-nil (back ++ [])))
order_take [] (Some request) front back e h = absurd cc
order_take (first ∷ rest) None front back e h = absurd cc
order_take (first ∷ rest) (Some request) front back e h =
    let same : request ≡ first = cc in
    append-nil front ∙ (h ∙ (ap (λ (m : Request). back ++ m ∷ rest) (sym same) ∙ sym (append_assoc back (request ∷ []) rest)))

pub order : (capacity : ℕ) (history : List MailboxCall) → IsLawful capacity history
    → accepted_by_calls history ≡ taken_by_calls history ++ (mailbox_after capacity history).waiting
order capacity [] lawful = refl
order capacity (Post request answer ∷ earlier) lawful =
    let mailbox = mailbox_after capacity earlier in
    rw (append-nil (taken_by_calls earlier)) (order_post (post_fault mailbox) answer mailbox request (accepted_by_calls earlier) (taken_by_calls earlier) lawful.1 (order capacity earlier lawful.0))
order capacity (Take answer ∷ earlier) lawful =
    order_take (mailbox_after capacity earlier).waiting answer (accepted_by_calls earlier) (taken_by_calls earlier) lawful.1 (order capacity earlier lawful.0)
order capacity (Release ∷ earlier) lawful = rw (append-nil (accepted_by_calls earlier), append-nil (taken_by_calls earlier)) (order capacity earlier lawful.0)
order capacity (Close ∷ earlier) lawful = rw (append-nil (accepted_by_calls earlier), append-nil (taken_by_calls earlier)) (order capacity earlier lawful.0)

room_post : (fault : Option PostFault) (answer : Answer) (mailbox : MailboxState) (request : Request) (front : List Request) (collected : ℕ)
    → answer ≡ answer_with fault request → length front ≡ mailbox.outstanding + collected
    → length (front ++ accepted_by (Post request answer)) ≡ (cond (is_none fault) (with_request mailbox request) mailbox).outstanding + collected
room_post None (Ok done) mailbox request front collected e h = omega (arith, length-append front (request ∷ []))
room_post None (Err fault) mailbox request front collected e h = absurd cc
room_post (Some fault) (Ok done) mailbox request front collected e h = absurd cc
room_post (Some fault) (Err pair) mailbox request front collected e h = rw (append-nil front) h

pub room : (capacity : ℕ) (history : List MailboxCall) → IsLawful capacity history
    → length (accepted_by_calls history) ≡ (mailbox_after capacity history).outstanding + released history
room capacity [] lawful = refl
room capacity (Post request answer ∷ earlier) lawful =
    let mailbox = mailbox_after capacity earlier in
    room_post (post_fault mailbox) answer mailbox request (accepted_by_calls earlier) (released earlier) lawful.1 (room capacity earlier lawful.0)
room capacity (Take answer ∷ earlier) lawful = rw (append-nil (accepted_by_calls earlier)) (room capacity earlier lawful.0)
room capacity (Release ∷ earlier) lawful =
    let some : length (mailbox_after capacity earlier).waiting < (mailbox_after capacity earlier).outstanding = ltb-true _ _ lawful.1 in
    let before = room capacity earlier lawful.0 in
    rw (append-nil (accepted_by_calls earlier)) (omega arith)
room capacity (Close ∷ earlier) lawful = rw (append-nil (accepted_by_calls earlier)) (room capacity earlier lawful.0)

kept_by_post : {A : Type 0} (part : MailboxState → A) (fault : Option PostFault) (mailbox : MailboxState) (request : Request)
    → part (with_request mailbox request) ≡ part mailbox
    → part (cond (is_none fault) (with_request mailbox request) mailbox) ≡ part mailbox
kept_by_post part None mailbox request e = e
kept_by_post part (Some fault) mailbox request e = refl

pub closed : (capacity : ℕ) (history : List MailboxCall) → (mailbox_after capacity history).closed ≡ is_closed_by_calls history
closed capacity [] = refl
closed capacity (Post request answer ∷ earlier) =
    let mailbox = mailbox_after capacity earlier in
    kept_by_post (λ m. m.closed) (post_fault mailbox) mailbox request refl ∙ closed capacity earlier
closed capacity (Take answer ∷ earlier) = closed capacity earlier
closed capacity (Release ∷ earlier) = closed capacity earlier
closed capacity (Close ∷ earlier) = refl

pub capacity_kept : (capacity : ℕ) (history : List MailboxCall) → (mailbox_after capacity history).capacity ≡ capacity
capacity_kept capacity [] = refl
capacity_kept capacity (Post request answer ∷ earlier) =
    let mailbox = mailbox_after capacity earlier in
    kept_by_post (λ m. m.capacity) (post_fault mailbox) mailbox request refl ∙ capacity_kept capacity earlier
capacity_kept capacity (Take answer ∷ earlier) = capacity_kept capacity earlier
capacity_kept capacity (Release ∷ earlier) = capacity_kept capacity earlier
capacity_kept capacity (Close ∷ earlier) = capacity_kept capacity earlier

leb-add : (a b c : ℕ) → leb (a + c) (b + c) ≡ leb a b
leb-add a b c = grind (arith, nat_tests)

pub fault : (capacity : ℕ) (history : List MailboxCall) → IsLawful capacity history
    → post_fault (mailbox_after capacity history) ≡ cond (is_closed_by_calls history) (Some Closed) (cond (leb (capacity + released history) (length (accepted_by_calls history))) (Some Full) None)
fault capacity history lawful =
    let mailbox = mailbox_after capacity history in
    rw (room capacity history lawful, leb-add capacity mailbox.outstanding (released history), ← closed capacity history, capacity_kept capacity history) refl

closed_before : (later earlier : List MailboxCall) → is_closed_by_calls (later ++ Close ∷ earlier) ≡ true
closed_before [] earlier = refl
closed_before (Post request answer ∷ later) earlier = closed_before later earlier
closed_before (Take answer ∷ later) earlier = closed_before later earlier
closed_before (Release ∷ later) earlier = closed_before later earlier
closed_before (Close ∷ later) earlier = refl

apart : (answer : Answer) (done : Unit {0}) (pair : PostFault × Request) → answer ≡ Ok done → answer ≡ Err pair → ⊥
apart answer done pair is_ok is_err = cc

refused : (mailbox : MailboxState) (request : Request) (answer : Answer) → mailbox.closed ≡ true → answer ≡ post_answer mailbox request → accepted_by (Post request answer) ≡ []
refused mailbox request (Err pair) h e = refl
refused mailbox request (Ok done) h e =
    absurd (apart (Ok done) done (Closed, request) refl (e ∙ ap (λ (test : Bool). answer_with (cond test (Some Closed) (cond (leb mailbox.capacity mailbox.outstanding) (Some Full) None)) request) h))

pub none_after_close : (capacity : ℕ) (later earlier : List MailboxCall) → IsLawful capacity (later ++ Close ∷ earlier) → accepted_by_calls (later ++ Close ∷ earlier) ≡ accepted_by_calls earlier
none_after_close capacity [] earlier lawful = append-nil (accepted_by_calls earlier)
none_after_close capacity (Post request answer ∷ later) earlier lawful =
    let before = later ++ Close ∷ earlier in
    let mailbox = mailbox_after capacity before in
    rw (refused mailbox request answer (closed capacity before ∙ closed_before later earlier) lawful.1, append-nil (accepted_by_calls before)) (none_after_close capacity later earlier lawful.0)
none_after_close capacity (Take answer ∷ later) earlier lawful =
    rw (append-nil (accepted_by_calls (later ++ Close ∷ earlier))) (none_after_close capacity later earlier lawful.0)
none_after_close capacity (Release ∷ later) earlier lawful =
    rw (append-nil (accepted_by_calls (later ++ Close ∷ earlier))) (none_after_close capacity later earlier lawful.0)
none_after_close capacity (Close ∷ later) earlier lawful =
    rw (append-nil (accepted_by_calls (later ++ Close ∷ earlier))) (none_after_close capacity later earlier lawful.0)

-- ---- each call adds its turn to the history at which the mailbox stands

pub stands_new : (capacity : ℕ) → IsLeftBy (empty_mailbox capacity) []
stands_new capacity = record { lawful = tt; left = refl }

capacity_after : (mailbox : MailboxState) (turn : MailboxCall) → (after_turn mailbox turn).capacity ≡ mailbox.capacity
capacity_after mailbox (Post request answer) = kept_by_post (λ m. m.capacity) (post_fault mailbox) mailbox request refl
capacity_after mailbox (Take answer) = refl
capacity_after mailbox Release = refl
capacity_after mailbox Close = refl

pub stands_after : (mailbox : MailboxState) (turn : MailboxCall) (history : List MailboxCall) → IsLeftBy mailbox history → IsDue mailbox turn → IsLeftBy (after_turn mailbox turn) (turn ∷ history)
stands_after mailbox turn history stands due =
    let kept = capacity_after mailbox turn in
    let P : MailboxState → Type 0 = λ m. IsDue m turn in
    let F : ℕ → Type 0 = λ capacity. IsLawful capacity (turn ∷ history) in
    let lawful : IsLawful mailbox.capacity (turn ∷ history) = (stands.lawful, subst P stands.left due) in
    record {
      lawful = subst F (sym kept) lawful;
      left = ap (λ m. after_turn m turn) stands.left ∙ ap (λ capacity. after_turn (mailbox_after capacity history) turn) (sym kept);
    }

pub stands_order : (mailbox : MailboxState) (history : List MailboxCall) → IsLeftBy mailbox history → accepted_by_calls history ≡ taken_by_calls history ++ mailbox.waiting
stands_order mailbox history stands = order mailbox.capacity history stands.lawful ∙ ap (λ (m : MailboxState). taken_by_calls history ++ m.waiting) (sym stands.left)

pub stands_room : (mailbox : MailboxState) (history : List MailboxCall) → IsLeftBy mailbox history → length (accepted_by_calls history) ≡ mailbox.outstanding + released history
stands_room mailbox history stands = room mailbox.capacity history stands.lawful ∙ ap (λ (m : MailboxState). m.outstanding + released history) (sym stands.left)
