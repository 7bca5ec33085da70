-- The opened machine stands at the empty history.
use Rattle.std.proofs.Common.{◌≡◌, ℕ, zero, suc, ◌*◌, ◌<◌, List, [], ◌∷◌, None, subst, ap, map, replicate, length, refl, sym, ◌∙◌, arith}
use Rattle.std.specs.List.{range_with_len}
use Rattle.std.specs.Prelude.{slice_index, slice_get, unwrap_or}
use Rattle.std.proofs.lemmas.List.{get_or-replicate, length-replicate, length-map}
use Rattle.std.proofs.lemmas.List.FromFn.{get_or-map-range_with_len, length-map-range_with_len}
use Rattle.std.proofs.lemmas.List.Elements.{All-replicate}
use Rattle.std.proofs.lemmas.Option.{unwrap_or-slice_get}
use Rattle.spaces.specs.declared.configuration.Config.{Config}
use Rattle.spaces.specs.Held.{memory_words, holders_of}
use Rattle.spaces.specs.declared.configuration.Space.{Space}
use Rattle.stepcore.specs.declared.space_state.SpaceState.{SpaceState}
use Rattle.spaces.specs.Layout.{layout_of}
use Rattle.spaces.specs.Limits.{MeetsLimits}
use Rattle.spaces.specs.declared.configuration.TheConstants.{MAX_FRAMES}
use Rattle.spaces.specs.Opening.{opening}
use Rattle.shoot.specs.Mailbox.{empty_mailbox}
use Rattle.shoot.specs.Tickets.{no_tickets}
use Rattle.history.specs.Setup.{setup_of}
use Rattle.laws.specs.Kept.{IsSetup}
use Rattle.stepcore.proofs.Places.{place_below}
use Rattle.stepcore.specs.State.{State, HartState, IsMachine, idle_hart, new_hart, setup_in, hart_at, live_space, no_space, space_at, tickets_at, mailbox_at, mailbox_index}
use Rattle.stepcore.specs.Stands.{bare, SpaceStands, Stands}

-- what an opened machine has
pub record IsOpened (c : Config) (m : State) : Type 0 where
  pub meets : MeetsLimits MAX_FRAMES c
  pub layout : m.memory.layout ≡ layout_of c
  pub words : (ppn i : ℕ) → memory_words m.memory ppn i ≡ opening (layout_of c) ppn i
  pub holders : (ppn : ℕ) → holders_of m.memory ppn ≡ None
  pub spaces : m.spaces ≡ map (λ s. live_space s.asid) c.spaces.items
  pub harts : m.harts ≡ replicate c.harts (new_hart c.scheme)
  pub tickets : m.tickets ≡ map no_tickets (range_with_len 0 c.harts)
  pub mailboxes : m.mailboxes ≡ replicate (c.harts * c.harts) (empty_mailbox c.capacity)
  pub capacity : m.capacity ≡ c.capacity

module _ (c : Config) (m : State) (is : IsOpened c m) where
  hart : (h : ℕ) → h < c.harts → hart_at m h ≡ new_hart c.scheme
  hart h less = rw is.harts (unwrap_or-slice_get (replicate c.harts (new_hart c.scheme)) h idle_hart ∙ get_or-replicate c.harts h (new_hart c.scheme) idle_hart less)

  tickets : (h : ℕ) → h < c.harts → tickets_at m h ≡ no_tickets h
  tickets h less =
      rw is.tickets
      (unwrap_or-slice_get (map no_tickets (range_with_len 0 c.harts)) h (no_tickets h) ∙ get_or-map-range_with_len no_tickets 0 c.harts h h (no_tickets h) less (omega arith))

  mailbox : (s h : ℕ) → s < c.harts → h < c.harts → mailbox_at m s h ≡ empty_mailbox c.capacity
  mailbox s h less less' =
      rw is.mailboxes
      (unwrap_or-slice_get (replicate (c.harts * c.harts) (empty_mailbox c.capacity)) (mailbox_index s h) (empty_mailbox 0)
      ∙ get_or-replicate (c.harts * c.harts) (mailbox_index s h) (empty_mailbox c.capacity) (empty_mailbox 0) (place_below c.harts s h less less'))

  same_setup : setup_in m ≡ bare (setup_of c)
  same_setup = rw (is.capacity, is.layout, is.harts, length-replicate c.harts (new_hart c.scheme)) refl

  count : length m.spaces ≡ length (setup_of c).asids
  count = rw is.spaces (length-map c.spaces.items (λ s. live_space s.asid) ∙ sym (length-map c.spaces.items (λ s. s.asid)))

  space_live : (xs : List Space) (s : ℕ) → s < length xs → unwrap_or (slice_get (map (λ x. live_space x.asid) xs) s) no_space ≡ live_space (slice_index (map (λ x. x.asid) xs) s)
  space_live [] s less = absurd (omega arith)
  space_live (x ∷ xs) zero less = refl
  space_live (x ∷ xs) (suc s) less = space_live xs s (omega arith)

  space_is : (s : ℕ) → s < length (setup_of c).asids → SpaceStands (setup_of c) [] s (space_at m s)
  space_is s less =
      let same : space_at m s ≡ live_space (slice_index (setup_of c).asids s) =
      ap (λ (xs : List SpaceState). unwrap_or (slice_get xs s) no_space) is.spaces ∙ space_live c.spaces.items s (omega (arith, less, length-map c.spaces.items (λ x. x.asid))) in
      subst (SpaceStands (setup_of c) [] s) (sym same) (record { asid = refl; phase_is = refl })

  pub opened : IsSetup (setup_of c) → Stands (setup_of c) m []
  opened within = record {
    lawful = tt;
    pages = tt;
    within = within;
    setup = same_setup;
    words = is.words;
    count = count;
    holders = is.holders;
    spaces = space_is;
    harts = λ h less. rw (hart h less) (record { space = refl; walk = tt; serving = refl; scheme = refl; entries = refl });
    tickets = tickets;
    mailboxes = mailbox;
  }

  pub machine : IsMachine m
  machine = record {
    few = omega (arith, is.meets.harts, count);
    tickets = rw (is.tickets, is.harts) (length-map-range_with_len no_tickets 0 c.harts ∙ sym (length-replicate c.harts (new_hart c.scheme)));
    mailboxes = rw (is.mailboxes, count) (length-replicate (c.harts * c.harts) (empty_mailbox c.capacity));
    homes = rw (is.spaces, is.layout) (length-map c.spaces.items (λ s. live_space s.asid) ∙ sym (length-map c.spaces.items (λ s. s.home)));
    spaces = rw (is.harts, is.spaces) (All-replicate (λ (h : HartState). h.space < length (map (λ s. live_space s.asid) c.spaces.items)) c.harts (new_hart c.scheme)
        (omega (arith, is.meets.some_space, length-map c.spaces.items (λ s. live_space s.asid))));
  }
    where
      count : length m.harts ≡ c.harts
      count = rw is.harts (length-replicate c.harts (new_hart c.scheme))
