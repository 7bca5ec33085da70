-- Which spaces, places and scopes exist and retire, for a machine that stands at a history and
-- for the history alike.
use Rattle.std.proofs.Common.{◌≡◌, ℕ, ◌<◌, true, ◌&&◌, not, length, Some, refl, ap, ◌∙◌}
use Rattle.std.specs.Prelude.{nat_lt}
use Rattle.std.proofs.lemmas.Bool.{and_parts, ltb-true}
use Rattle.pte.specs.Address.{Span}
use Rattle.pte.specs.declared.address.What.TheVariants.{PageOf, SpaceOf}
use Rattle.spaces.specs.declared.places.Place.{Place}
use Rattle.spaces.specs.declared.places.Place.TheVariants.{Space, Kernel}
use Rattle.history.specs.Setup.{Setup}
use Rattle.history.specs.Spaces.{Status, Live, Retires, Free, status_of, asid_of, asid_in}
use Rattle.history.specs.Spaces as spaces
use Rattle.history.specs.Turns.{History}
use Rattle.history.specs.Orders as orders
use Rattle.history.proofs.Passing.{refuse}
use Rattle.history.specs.Due as due_tests
use Rattle.history.specs.declared.event.Scope.{Scope}
use Rattle.history.specs.declared.event.Scope.TheVariants as scopes
use Rattle.history.specs.declared.refusal.Refusal.TheVariants.{NoSpace, Retiring}
use Rattle.history.specs.declared.reply.Reply.{Reply}
use Rattle.laws.proofs.Tools.{by_test}
use Rattle.stepcore.specs.State.{State, space_at}
use Rattle.stepcore.specs.Answers as answers
use Rattle.stepcore.specs.Stands.{phase_with, Stands}
use Rattle.stepcore.proofs.Tools.{refused_alike}

free_alike : (C : Setup) (H : History) (status : Status) → answers.is_free_phase (phase_with C H status) ≡ spaces.is_free status
free_alike C H Live = refl
free_alike C H (Retires k) = refl
free_alike C H Free = refl

retiring_alike : (C : Setup) (H : History) (status : Status) → answers.is_retiring (phase_with C H status) ≡ spaces.is_retiring status
retiring_alike C H Live = refl
retiring_alike C H (Retires k) = refl
retiring_alike C H Free = refl

module _ (C : Setup) (m : State) (H : History) (st : Stands C m H) where
  pub number_same : (s : ℕ) → answers.is_number m s ≡ due_tests.is_number C s
  number_same s = ap (nat_lt s) st.count

  pub free_same : (s : ℕ) → s < length C.asids → answers.is_free_phase (space_at m s).phase ≡ spaces.is_free (status_of H s)
  free_same s below = ap answers.is_free_phase (st.spaces s below).phase_is ∙ free_alike C H (status_of H s)

  pub retiring_same : (s : ℕ) → s < length C.asids → answers.is_retiring (space_at m s).phase ≡ spaces.is_retiring (status_of H s)
  retiring_same s below = ap answers.is_retiring (st.spaces s below).phase_is ∙ retiring_alike C H (status_of H s)

  pub space_same : (s : ℕ) → answers.is_space m s ≡ due_tests.is_space C H s
  space_same s =
      ap (λ b. b && not (answers.is_free_phase (space_at m s).phase)) (number_same s)
      ∙ by_test (λ v. (v && not (answers.is_free_phase (space_at m s).phase)) ≡ (v && not (spaces.is_free (status_of H s)))) (due_tests.is_number C s)
      (λ there. ap not (free_same s (ltb-true s (length C.asids) there))) (λ _. refl)

  pub space_below : (s : ℕ) → due_tests.is_space C H s ≡ true → s < length C.asids
  space_below s there = ltb-true s (length C.asids) (and_parts (due_tests.is_number C s) (not (spaces.is_free (status_of H s))) there).0

  pub place_same : (place : Place) → answers.is_place m place ≡ due_tests.is_place C H place
  place_same (Space s) = space_same s
  place_same Kernel = refl

  pub scope_same : (scope : Scope) → answers.is_scope m scope ≡ due_tests.is_scope C H scope
  scope_same (scopes.Space s) = space_same s
  scope_same scopes.All = refl

  retires_same : (place : Place) → due_tests.is_place C H place ≡ true → answers.retires m place ≡ due_tests.retires H place
  retires_same (Space s) there = retiring_same s (space_below s there)
  retires_same Kernel there = refl

  scope_retires_same : (scope : Scope) → due_tests.is_scope C H scope ≡ true → answers.scope_retires m scope ≡ due_tests.scope_retires H scope
  scope_retires_same (scopes.Space s) there = retiring_same s (space_below s there)
  scope_retires_same scopes.All there = refl

  -- an edit of a place, a flush of a scope and an event of a space that exist and do not retire
  pub place_there : (place : Place) (r q : Reply) → r ≡ q → refuse (not (answers.is_place m place)) NoSpace (refuse (answers.retires m place) Retiring r)
      ≡ refuse (not (due_tests.is_place C H place)) NoSpace (refuse (due_tests.retires H place) Retiring q)
  place_there place r q e =
      ap (λ v. refuse (not v) NoSpace (refuse (answers.retires m place) Retiring r)) (place_same place)
      ∙ refused_alike NoSpace (due_tests.is_place C H place) _ _ (λ there. ap (λ v. refuse v Retiring r) (retires_same place there) ∙ ap (λ (x : Reply). refuse (due_tests.retires H place) Retiring x) e)

  pub scope_there : (scope : Scope) (r q : Reply) → r ≡ q → refuse (not (answers.is_scope m scope)) NoSpace (refuse (answers.scope_retires m scope) Retiring r)
      ≡ refuse (not (due_tests.is_scope C H scope)) NoSpace (refuse (due_tests.scope_retires H scope) Retiring q)
  scope_there scope r q e =
      ap (λ v. refuse (not v) NoSpace (refuse (answers.scope_retires m scope) Retiring r)) (scope_same scope)
      ∙ refused_alike NoSpace (due_tests.is_scope C H scope) _ _ (λ there. ap (λ v. refuse v Retiring r) (scope_retires_same scope there) ∙ ap (λ (x : Reply). refuse (due_tests.scope_retires H scope) Retiring x) e)

  pub space_there : (s : ℕ) (r q : Reply) → (s < length C.asids → r ≡ q) → refuse (not (answers.is_space m s)) NoSpace r ≡ refuse (not (due_tests.is_space C H s)) NoSpace q
  space_there s r q f =
      ap (λ v. refuse (not v) NoSpace r) (space_same s) ∙ refused_alike NoSpace (due_tests.is_space C H s) r q (λ there. f (space_below s there))

  pub number_there : (s : ℕ) (r q : Reply) → (s < length C.asids → r ≡ q) → refuse (not (answers.is_number m s)) NoSpace r ≡ refuse (not (due_tests.is_number C s)) NoSpace q
  number_there s r q f =
      ap (λ v. refuse (not v) NoSpace r) (number_same s) ∙ refused_alike NoSpace (due_tests.is_number C s) r q (λ there. f (ltb-true s (length C.asids) there))

  -- what the harts are asked to drop
  asid_same : (place : Place) → due_tests.is_place C H place ≡ true → answers.asid_of_place m place ≡ asid_in C H place
  asid_same (Space s) there = ap Some (st.spaces s (space_below s there)).asid
  asid_same Kernel there = refl

  pub page_asked : (place : Place) (page : Span) → due_tests.is_place C H place ≡ true → answers.page_request m place page ≡ PageOf page (asid_in C H place)
  page_asked place page there = ap (PageOf page) (asid_same place there)

  pub scope_asked : (scope : Scope) → due_tests.is_scope C H scope ≡ true → answers.request_of_scope m scope ≡ orders.scope_request C H scope
  scope_asked (scopes.Space s) there = ap SpaceOf (st.spaces s (space_below s there)).asid
  scope_asked scopes.All there = refl
