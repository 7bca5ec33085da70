-- A retirement opens a ticket, and keeps it with the space.
use Rattle.std.proofs.Common.{◌≡◌, ℕ, ◌+◌, ◌<◌, Bool, true, false, cond, ◌&&◌, arith, None, List, Some, length, slice_get, slice_set, unwrap_or, refl, ap, sym, ◌∙◌, subst, inl, inr, eqb}
use Rattle.std.proofs.lemmas.Bool.{cases_eq, cases_lt, lt-ltb, le-ltb, eqb-true, eq-eqb, ne_eqb}
use Rattle.pte.specs.declared.address.What.TheVariants.{SpaceOf}
use Rattle.spaces.proofs.Lists.{slice_get-set_same, slice_get-set_other}
use Rattle.std.specs.Prelude.{nat_lt}
use Rattle.spaces.specs.declared.places.Place.TheVariants.{Space}
use Rattle.spaces.specs.Layout.{home_of}
use Rattle.shoot.specs.Tickets.{after_open}
use Rattle.history.specs.declared.event.Event.TheVariants.{Retire, Finish}
use Rattle.history.specs.declared.reply.Reply.TheVariants as reply
use Rattle.stepcore.specs.declared.space_state.SpaceState.{SpaceState}
use Rattle.stepcore.specs.declared.space_state.Phase.TheVariants as phase
use Rattle.stepcore.specs.State.{State, no_space, space_at, tickets_at, words_in, holders_in}
use Rattle.stepcore.specs.Answers.{every_hart}
use Rattle.stepcore.specs.Changes.{Follows, is_under, is_retirement, space_after}

-- a list of spaces with another one at a number
pub space_put : (xs : List SpaceState) (i s : ℕ) (x : SpaceState) → s < length xs
    → unwrap_or (slice_get (slice_set xs i x) s) no_space ≡ cond (eqb i s) x (unwrap_or (slice_get xs s) no_space)
space_put xs i s x less = elim (cases_eq i s) [
  | inl same ↦
      subst (λ k. unwrap_or (slice_get (slice_set xs k x) s) no_space ≡ cond (eqb k s) x (unwrap_or (slice_get xs s) no_space)) (sym same)
      (ap (λ o. unwrap_or o no_space) (slice_get-set_same xs s x less) ∙ sym (ap (λ b. cond b x (unwrap_or (slice_get xs s) no_space)) (eq-eqb s s refl)))
  | inr other ↦
      ap (λ o. unwrap_or o no_space) (slice_get-set_other xs i s x other) ∙ sym (ap (λ b. cond b x (unwrap_or (slice_get xs s) no_space)) (ne_eqb i s other))
]

module _ (m : State) (space t : ℕ) where
  abbrev retired : ℕ → SpaceState
  retired asid = record { asid = asid; phase = phase.Retiring (Some t) }

  own_asid : (s : ℕ) (b : Bool) → eqb space s ≡ b → cond b (retired (space_at m space).asid) (space_at m s) ≡ cond b (retired (space_at m s).asid) (space_at m s)
  own_asid s true e = ap (λ k. retired (space_at m k).asid) (eqb-true space s e)
  own_asid s false e = refl

  pub retire_follows : (mid new : State) (hart named : ℕ) (state : SpaceState) → state ≡ space_at m space → named ≡ every_hart m
      → mid ≡ record m { tickets = slice_set m.tickets hart (after_open (tickets_at m hart) (SpaceOf state.asid) named) }
      → new ≡ record mid { spaces = slice_set mid.spaces space (retired state.asid) }
      → length new.spaces ≡ length mid.spaces → Follows m (Retire hart space) (reply.Opened t) new
  retire_follows mid new hart named state e f opens puts count = record {
    layout = ap (λ (s : State). s.memory.layout) puts ∙ ap (λ (s : State). s.memory.layout) opens;
    count = count ∙ ap (λ (s : State). length s.spaces) opens;
    spaces = λ s below.
        ap (λ (x : State). space_at x s) puts
        ∙ (ap (λ (x : State). unwrap_or (slice_get (slice_set x.spaces space (retired state.asid)) s) no_space) opens
        ∙ (space_put m.spaces space s (retired state.asid) below
        ∙ (ap (λ (x : SpaceState). cond (eqb space s) (retired x.asid) (space_at m s)) e ∙ own_asid s (eqb space s) refl)));
    words = λ p i. ap (λ (s : State). words_in s p i) puts ∙ ap (λ (s : State). words_in s p i) opens;
    holders = λ p. ap (λ (s : State). holders_in s p) puts ∙ ap (λ (s : State). holders_in s p) opens;
    harts = ap (λ (s : State). s.harts) puts ∙ ap (λ (s : State). s.harts) opens;
    tickets = ap (λ (s : State). s.tickets) puts
        ∙ (ap (λ (s : State). s.tickets) opens
        ∙ (ap (λ (x : SpaceState). slice_set m.tickets hart (after_open (tickets_at m hart) (SpaceOf x.asid) named)) e
        ∙ ap (λ (n : ℕ). slice_set m.tickets hart (after_open (tickets_at m hart) (SpaceOf (space_at m space).asid) n)) f));
    mailboxes = ap (λ (s : State). s.mailboxes) puts ∙ ap (λ (s : State). s.mailboxes) opens;
    capacity = ap (λ (s : State). s.capacity) puts ∙ ap (λ (s : State). s.capacity) opens;
  }

later : (n at : ℕ) → (at ≡ n → ⊥) → nat_lt n at ≡ nat_lt n (at + 1)
later n at apart = elim (cases_lt n at) [
  | inl less ↦ lt-ltb n at less ∙ sym (lt-ltb n (at + 1) (omega arith))
  | inr from ↦ elim (cases_eq at n) [ inl same ↦ absurd (apart same) | inr other ↦ le-ltb n at from ∙ sym (le-ltb n (at + 1) (omega arith)) ]
]

-- the end of a retirement, space by space
module _ (m now : State) (hart ticket at : ℕ) (others : now ≡ record m { spaces = now.spaces }) (count : length now.spaces ≡ length m.spaces) (inside : at < length m.spaces) where
  abbrev ended : SpaceState → SpaceState
  ended old = record { asid = old.asid; phase = phase.Retiring None }

  abbrev Done : ℕ → State → Type 0
  Done to x = (s : ℕ) → s < length m.spaces → space_at x s ≡ cond (nat_lt s to) (space_after m (Finish hart ticket) reply.Ok s (space_at m s)) (space_at m s)

  pub here_same : Done at now → space_at now at ≡ space_at m at
  here_same done = done at inside ∙ ap (λ b. cond b (space_after m (Finish hart ticket) reply.Ok at (space_at m at)) (space_at m at)) (le-ltb at at (omega arith))

  pub test_same : Done at now → (state : SpaceState) (h u : Bool) → state ≡ space_at now at → h ≡ eqb hart (home_of now.memory.layout (Space at)) → u ≡ is_under state.phase ticket
      → is_retirement m hart ticket at (space_at m at) ≡ (h && u)
  test_same done state h u e f g =
      sym (ap (λ x. x && u) (f ∙ ap (λ (x : State). eqb hart (home_of x.memory.layout (Space at))) others)
      ∙ ap (λ x. eqb hart (home_of m.memory.layout (Space at)) && x) (g ∙ ap (λ (x : SpaceState). is_under x.phase ticket) (e ∙ here_same done)))

  here_done : (x : SpaceState) (t : Bool) → is_retirement m hart ticket at (space_at m at) ≡ t → x ≡ cond t (ended (space_at m at)) (space_at m at)
      → x ≡ cond (nat_lt at (at + 1)) (space_after m (Finish hart ticket) reply.Ok at (space_at m at)) (space_at m at)
  here_done x t told e =
      e ∙ sym (ap (λ b. cond b (space_after m (Finish hart ticket) reply.Ok at (space_at m at)) (space_at m at)) (lt-ltb at (at + 1) (omega arith))
      ∙ ap (λ b. cond b (ended (space_at m at)) (space_at m at)) told)

  pub keeps_done : Done at now → is_retirement m hart ticket at (space_at m at) ≡ false → Done (at + 1) now
  keeps_done done none s below = elim (cases_eq at s) [
    | inl same ↦
        subst (λ k. space_at now k ≡ cond (nat_lt k (at + 1)) (space_after m (Finish hart ticket) reply.Ok k (space_at m k)) (space_at m k)) same
        (here_done (space_at now at) false none (here_same done))
    | inr apart ↦ done s below ∙ ap (λ b. cond b (space_after m (Finish hart ticket) reply.Ok s (space_at m s)) (space_at m s)) (later s at apart)
  ]

  pub more_done : Done at now → (new : State) (state : SpaceState) → state ≡ space_at now at → new ≡ record now { spaces = slice_set now.spaces at (ended state) }
      → is_retirement m hart ticket at (space_at m at) ≡ true → Done (at + 1) new
  more_done done new state e puts some s below =
      ap (λ (x : State). space_at x s) puts
      ∙ space_put now.spaces at s (ended state) (subst (λ n. s < n) (sym count) below)
      ∙ elim (cases_eq at s) [
        | inl same ↦
            subst (λ k. cond (eqb at k) (ended state) (space_at now k) ≡ cond (nat_lt k (at + 1)) (space_after m (Finish hart ticket) reply.Ok k (space_at m k)) (space_at m k)) same
            (ap (λ b. cond b (ended state) (space_at now at)) (eq-eqb at at refl) ∙ here_done (ended state) true some (ap ended (e ∙ here_same done)))
        | inr apart ↦
            ap (λ b. cond b (ended state) (space_at now s)) (ne_eqb at s apart)
            ∙ (done s below ∙ ap (λ b. cond b (space_after m (Finish hart ticket) reply.Ok s (space_at m s)) (space_at m s)) (later s at apart))
      ]
