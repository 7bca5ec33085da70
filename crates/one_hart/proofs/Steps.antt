-- One event of the machine that a port is like: it is answered as is due, and the port that has what
-- the event leaves is alone after the longer history.
use Rattle.std.proofs.Common.{◌≡◌, ℕ, zero, suc, ◌<◌, false, not, ◌&&◌, List, [], ◌∷◌, length, map, slice_get, refl, ap, sym, subst, ◌∙◌, arith, eqb}
use Rattle.std.specs.Prelude.{nat_lt, Ok, slice_index, unwrap_or}
use Rattle.std.proofs.lemmas.Bool.{ltb-true, eq-eqb, false_from_ne_true, false≢true}
use Rattle.std.proofs.lemmas.List.{length-map}
use Rattle.std.proofs.lemmas.List.Elements.{All-replicate}
use Rattle.history.specs.Setup.{Setup}
use Rattle.history.specs.Turns.{History, with_turn}
use Rattle.history.specs.Due.{are_pair, due}
use Rattle.history.specs.Harts.{space_of}
use Rattle.history.specs.declared.event.Event.{Event}
use Rattle.history.specs.declared.reply.Reply.{Reply}
use Rattle.laws.specs.Kept.{HasPage}
use Rattle.laws.proofs.Causes.{space_there}
use Rattle.laws.proofs.Tools.{and3, by_test}
use Rattle.stepcore.specs.declared.space_state.SpaceState.{SpaceState}
use Rattle.stepcore.specs.State.{HartState, IsMachine, live_space, no_space}
use Rattle.stepcore.specs.Answers.{is_free_phase, is_retiring, reply_to}
use Rattle.stepcore.specs.Changes.{Follows, is_accepted}
use Rattle.stepcore.specs.Stands.{Stands}
use Rattle.stepcore.proofs.Standing.{answers_due, stands_after}
use Rattle.board.specs.Ports.{PortState}
use Rattle.one_hart.specs.Answering.{heard}
use Rattle.one_hart.specs.Asked.{turned}
use Rattle.one_hart.specs.Alone.{IsAlone, machine_of}

-- ---- spaces that are all live

pub space-live : (xs : List ℕ) (s : ℕ) → s < length xs → unwrap_or (slice_get (map live_space xs) s) no_space ≡ live_space (slice_index xs s)
space-live [] s less = absurd (omega arith)
space-live (x ∷ xs) zero less = refl
space-live (x ∷ xs) (suc s) less = space-live xs s (omega arith)

pub none-retires : (xs : List ℕ) (s : ℕ) → is_retiring (unwrap_or (slice_get (map live_space xs) s) no_space).phase ≡ false
none-retires [] s = refl
none-retires (x ∷ xs) zero = refl
none-retires (x ∷ xs) (suc s) = none-retires xs s

pub space-is : (xs : List ℕ) (s : ℕ)
    → (nat_lt s (length (map live_space xs)) && not (is_free_phase (unwrap_or (slice_get (map live_space xs) s) no_space).phase)) ≡ nat_lt s (length xs)
space-is xs s =
    ap (λ (n : ℕ). nat_lt s n && not (is_free_phase (unwrap_or (slice_get (map live_space xs) s) no_space).phase)) (length-map xs live_space)
    ∙ by_test (λ v. (v && not (is_free_phase (unwrap_or (slice_get (map live_space xs) s) no_space).phase)) ≡ v) (nat_lt s (length xs))
    (λ t. ap (λ (x : SpaceState). not (is_free_phase x.phase)) (space-live xs s (ltb-true s (length xs) t)))
    (λ f. refl)

-- ---- no pair of one hart

pub no-pair : (setup : Setup) (a b : ℕ) → setup.harts ≡ 1 → a ≡ 0 → are_pair setup a b ≡ false
no-pair setup a b one home =
    false_from_ne_true (are_pair setup a b) (λ t.
    let parts = and3 (nat_lt a setup.harts) (nat_lt b setup.harts) (not (eqb a b)) t in
    let below : b < setup.harts = ltb-true b setup.harts parts.1 in
    let same : a ≡ b = omega (arith, below, one, home) in
    false≢true (sym (ap not (eq-eqb a b same)) ∙ parts.2))

-- ---- the machine that a port is like

module _ (C : Setup) (H : History) (p : PortState) (is : IsAlone C H p) where
  pub space-below : p.space < length p.setup.asids
  space-below =
      let own : p.space ≡ space_of H 0 = (is.stands.harts 0 (omega (arith, is.one))).space in
      let there : space_of H 0 < length C.asids = space_there C H 0 is.stands.within.asids is.stands.lawful in
      subst (λ (D : Setup). p.space < length D.asids) (sym is.setup_is) (omega (arith, own, there))

  pub spaces-are : length (map live_space p.setup.asids) ≡ length p.setup.layout.homes
  spaces-are = length-map p.setup.asids live_space ∙ subst (λ (D : Setup). length D.asids ≡ length D.layout.homes) (sym is.setup_is) is.stands.within.homes

  pub is-machine : IsMachine (machine_of p)
  is-machine = record {
    few = omega arith;
    tickets = refl;
    mailboxes = refl;
    homes = spaces-are;
    spaces = All-replicate (λ (hart : HartState). hart.space < length (map live_space p.setup.asids)) 1 _ (omega (arith, space-below, length-map p.setup.asids live_space));
  }

-- what one event does to the machines of a port before and after
pub record Steps (p after : PortState) (event : Event) (reply : Reply) : Type 0 where
  pub told : reply ≡ reply_to (machine_of p) event
  pub follows : Follows (machine_of p) event reply (machine_of after)
  pub refused : is_accepted reply ≡ false → machine_of after ≡ machine_of p
  pub page : HasPage event
  pub setup_same : after.setup ≡ p.setup
  pub hart_same : after.hart ≡ p.hart

pub told-due : (C : Setup) (H : History) (p after : PortState) (event : Event) (reply : Reply) → IsAlone C H p → Steps p after event reply → reply ≡ due C H event
told-due C H p after event reply is steps = steps.told ∙ answers_due C (machine_of p) H is.stands (is-machine C H p is) event

pub tied : (C : Setup) (H : History) (p after : PortState) (event : Event) (reply : Reply) (answer : Reply) → IsAlone C H p → Steps p after event reply → answer ≡ heard reply
    → (answer ≡ heard (turned C event H).reply) × IsAlone C (turned C event H).history after
tied C H p after event reply answer is steps same =
    let machine = is-machine C H p is in
    let due-is : reply ≡ due C H event = told-due C H p after event reply is steps in
    let stands : Stands C (machine_of after) (with_turn event reply H) =
    stands_after C (machine_of p) H is.stands machine event (Ok reply) (machine_of after) (record { reply = steps.told; follows = steps.follows; refused = steps.refused; page = steps.page }) in (
      same ∙ ap heard due-is,
      record {
        one = is.one;
        setup_is = steps.setup_same ∙ is.setup_is;
        hart_is = steps.hart_same ∙ is.hart_is;
        stands = subst (λ (r : Reply). Stands C (machine_of after) (with_turn event r H)) due-is stands;
      },
    )
