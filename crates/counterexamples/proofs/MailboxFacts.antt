-- Which mailboxes keep their order after the worked runs, and which do not.
use Rattle.std.proofs.Common.{◌≡◌, ℕ, List, [], ◌∷◌, map, Bool, true, false, ◌==◌, ◌&&◌, inl, inr, refl, sym, ap, ◌∙◌}
use Rattle.std.proofs.lemmas.Bool.{true≢false, false_from_ne_true}
use Rattle.shoot.specs.Request.{Request}
use Rattle.history.specs.Turns.{History}
use Rattle.history.specs.Mailboxes.{Mailboxes, KeepsOrder, is_closed}
use Rattle.history.specs.Occurrences.{Sometime, IsClose, IsPostAfterClose, NoneAfterClose}
use Rattle.history.proofs.Occurred.{closed}
use Rattle.history.proofs.Splits.{not_sometime-empty, sometime-later, sometime_cases}
use Rattle.counterexamples.specs.WorkedRuns.{history_of, two_harts}
use Rattle.counterexamples.specs.MailboxRuns as mailboxes
use Rattle.counterexamples.specs.UnlawfulRuns as unlawful
use Rattle.counterexamples.specs.Counterexamples.{request_of}

-- lists of requests with different tickets are different
abbrev tickets : List Request → List ℕ
tickets requests = map (λ (r : Request). r.ticket) requests

abbrev same : List ℕ → List ℕ → Bool
same [] [] = true
same [] (b ∷ ys) = false
same (a ∷ xs) [] = false
same (a ∷ xs) (b ∷ ys) = (a == b) && same xs ys

distinct : (a b : List Request) → same (tickets a) (tickets a) ≡ true → same (tickets a) (tickets b) ≡ false → a ≡ b → ⊥
distinct a b itself other e = true≢false (sym itself ∙ ap (λ ms. same (tickets a) (tickets ms)) e ∙ other)

-- a mailbox that was never closed
never_closed : (s h : ℕ) (H : History) → is_closed H s h ≡ false → Sometime (IsPostAfterClose s h) H → ⊥
never_closed s h [] e p = not_sometime-empty (IsPostAfterClose s h) p
never_closed s h (turn ∷ H) e p =
    let older : is_closed H s h ≡ true → ⊥ = λ t. true≢false (sym ((closed (turn ∷ H) s h).1 (sometime-later (IsClose s h) turn H ((closed H s h).0 t))) ∙ e) in
    elim (sometime_cases (IsPostAfterClose s h) turn H p) [
      | inl n ↦ older ((closed H s h).1 n.closed)
      | inr old ↦ never_closed s h H (false_from_ne_true (is_closed H s h) older) old
    ]

pub kept : KeepsOrder mailboxes.mailboxes_of_two (history_of mailboxes.two_requests_wait) 0 1 (request_of 1 ∷ request_of 2 ∷ [])
kept = refl

pub swapped : ¬ KeepsOrder mailboxes.mailboxes_of_two (history_of mailboxes.two_requests_wait) 0 1 (request_of 2 ∷ request_of 1 ∷ [])
swapped = distinct _ _ refl refl

pub first_lost : ¬ KeepsOrder mailboxes.mailboxes_of_two (history_of mailboxes.two_requests_wait) 0 1 (request_of 2 ∷ [])
first_lost = distinct _ _ refl refl

pub last_lost : ¬ KeepsOrder mailboxes.mailboxes_of_two (history_of mailboxes.two_requests_wait) 0 1 (request_of 1 ∷ [])
last_lost = distinct _ _ refl refl

pub doubled : ¬ KeepsOrder mailboxes.mailboxes_of_two (history_of mailboxes.two_requests_wait) 0 1 (request_of 1 ∷ request_of 1 ∷ request_of 2 ∷ [])
doubled = distinct _ _ refl refl

pub back_again : ¬ KeepsOrder mailboxes.mailboxes_of_two (history_of mailboxes.two_requests_wait) 0 1 (request_of 0 ∷ request_of 1 ∷ request_of 2 ∷ [])
back_again = distinct _ _ refl refl

pub never_posted : ¬ KeepsOrder mailboxes.mailboxes_of_two (history_of mailboxes.two_requests_wait) 0 1 (request_of 1 ∷ request_of 2 ∷ request_of 3 ∷ [])
never_posted = distinct _ _ refl refl

pub other_direction : ¬ KeepsOrder mailboxes.mailboxes_of_two (history_of mailboxes.two_requests_wait) 1 0 (request_of 1 ∷ request_of 2 ∷ [])
other_direction = distinct _ _ refl refl

pub out_of_order : ¬ Mailboxes two_harts (history_of unlawful.taken_out_of_order)
out_of_order kept = distinct _ _ refl refl (kept 0 1)

pub twice : ¬ Mailboxes two_harts (history_of unlawful.taken_twice)
twice kept = distinct _ _ refl refl (kept 0 1)

pub nothing_there : ¬ Mailboxes two_harts (history_of unlawful.taken_of_nothing)
nothing_there kept = distinct _ _ refl refl (kept 0 1)

pub after_close : ¬ NoneAfterClose (history_of unlawful.posted_after_close) 0 1
after_close none = none (record { later = []; turn = _; earlier = _; split = refl; so = record { ticket = 1; event = refl; accepted = refl; closed = record { later = []; turn = _; earlier = _; split = refl; so = record { event = refl; accepted = refl } } } })

pub after_close_and_taken : ¬ NoneAfterClose (history_of unlawful.posted_after_close_and_taken) 0 1
after_close_and_taken none = after_close (λ s. none (sometime-later (IsPostAfterClose 0 1) _ _ (sometime-later (IsPostAfterClose 0 1) _ _ s)))

pub other_closed : NoneAfterClose (history_of unlawful.posted_after_close_of_the_other) 0 1
other_closed = never_closed 0 1 (history_of unlawful.posted_after_close_of_the_other) refl

-- two more, for machines
pub all_lost : ¬ KeepsOrder mailboxes.mailboxes_of_two (history_of mailboxes.two_requests_wait) 0 1 []
all_lost e = distinct _ _ refl refl e

pub one_never_posted : ¬ KeepsOrder mailboxes.mailboxes_of_two (history_of mailboxes.two_requests_wait) 1 0 (request_of 1 ∷ [])
one_never_posted e = distinct _ _ refl refl e

pub after_close_from_1 : ¬ NoneAfterClose (history_of unlawful.posted_after_close_from_1) 1 0
after_close_from_1 none = none (record { later = []; turn = _; earlier = _; split = refl; so = record { ticket = 0; event = refl; accepted = refl; closed = record { later = []; turn = _; earlier = _; split = refl; so = record { event = refl; accepted = refl } } } })
