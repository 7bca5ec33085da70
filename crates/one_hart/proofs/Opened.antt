-- The only port of a board that was just opened has what the empty history leaves.
use Rattle.std.proofs.Common.{◌≡◌, ℕ, zero, suc, ◌-◌, ◌*◌, ◌<◌, cond, List, [], ◌∷◌, length, map, Option, None, replicate, get_or, refl, ap, sym, subst, ◌∙◌, arith}
use Rattle.std.specs.Prelude.{slice_get}
use Rattle.std.specs.List.{range_with_len}
use Rattle.std.proofs.lemmas.List.FromFn.{length-range_with_len}
use Rattle.std.proofs.lemmas.List.{length-map}
use Rattle.pte.specs.declared.address.TheConstants.{TABLE_LENGTH}
use Rattle.spaces.specs.declared.places.Place.{Place}
use Rattle.spaces.specs.Held.{Held, held_at, holders_of, memory_words}
use Rattle.spaces.specs.Layout.{Layout, frame_count, is_frame, layout_of}
use Rattle.spaces.specs.Opening.{first_words, opening}
use Rattle.spaces.proofs.Opened.{words-open}
use Rattle.shoot.specs.Tickets.{no_tickets}
use Rattle.history.specs.Setup.{Setup}
use Rattle.laws.specs.Kept.{IsSetup}
use Rattle.laws.proofs.Tools.{by_test}
use Rattle.stepcore.specs.State.{hart_at, live_space, mailbox_at, space_at, tickets_at}
use Rattle.stepcore.specs.Stands.{HartStands, SpaceStands, mailbox_of, tickets_of}
use Rattle.views.specs.Rule.{memory_of, starting}
use Rattle.board.specs.Ports.{AreNew, ArePorts, IsNew, PortState, name_of, next_seat}
use Rattle.one_hart.specs.Alone.{IsAlone, NewPortIsAlone, machine_of}
use Rattle.one_hart.proofs.Steps.{space-live}

none-held : (n k : ℕ) → held_at (slice_get (replicate n (let none : Option Place = None in none)) k) ≡ None
none-held zero k = refl
none-held (suc n) zero = refl
none-held (suc n) (suc k) = none-held n k

module _ (port : PortState) (within : IsSetup port.setup) (one : port.setup.harts ≡ 1) (hart : port.hart ≡ 0) (new : IsNew port) where
  abbrev l : Layout
  l = port.setup.layout

  layout-same : layout_of port.view.config ≡ l
  layout-same = ap (λ (D : Setup). D.layout) new.config

  view-is : port.view ≡ starting port.view.config port.hart (next_seat port.view.config port.hart)
  view-is = ap (λ (q : PortState). q.view) new.is_new

  memory-is : memory_of l port.view ≡ record { layout = l; words = first_words l (frame_count l * TABLE_LENGTH); holders = replicate (frame_count l) None }
  memory-is =
      ap (memory_of l) view-is
      ∙ ap (λ (k : Layout). let m : Held = record { layout = l; words = first_words k (frame_count k * TABLE_LENGTH); holders = replicate (frame_count k) None } in m) layout-same

  words-are : (f i : ℕ) → memory_words (memory_of l port.view) f i ≡ opening l f i
  words-are f i = ap (λ (m : Held). memory_words m f i) memory-is ∙ words-open l (replicate (frame_count l) None) f i

  holders-are : (f : ℕ) → holders_of (memory_of l port.view) f ≡ None
  holders-are f =
      ap (λ (m : Held). holders_of m f) memory-is
      ∙ by_test (λ v. cond v (held_at (slice_get (replicate (frame_count l) None) (f - l.base))) None ≡ None) (is_frame l f) (λ _. none-held (frame_count l) (f - l.base)) (λ _. refl)

  space-is : (s : ℕ) → s < length port.setup.asids → SpaceStands port.setup [] s (space_at (machine_of port) s)
  space-is s less = subst (SpaceStands port.setup [] s) (sym (space-live port.setup.asids s less)) (record { asid = refl; phase_is = refl })

  hart-is : HartStands port.setup [] 0 (hart_at (machine_of port) 0)
  hart-is = record {
    space = ap (λ (q : PortState). q.space) new.is_new;
    walk = tt;
    serving = refl;
    scheme = ap (λ (q : PortState). q.tlb.scheme) new.is_new;
    entries = ap (λ (q : PortState). q.tlb.entries) new.is_new;
  }

  tickets-are : port.tickets ≡ tickets_of port.setup [] 0
  tickets-are = ap (λ (q : PortState). q.tickets) new.is_new ∙ ap no_tickets hart

  new-alone : IsAlone port.setup [] port
  new-alone = record {
    one = one;
    setup_is = refl;
    hart_is = hart;
    stands = record {
      lawful = tt;
      pages = tt;
      within = within;
      setup = ap (λ (n : ℕ). let D : Setup = record { harts = n; capacity = port.setup.capacity; asids = []; layout = l } in D) (sym one);
      count = length-map port.setup.asids live_space;
      words = words-are;
      holders = holders-are;
      spaces = space-is;
      harts = λ h less. let is : 0 ≡ h = omega (arith, less, one) in subst (λ k. HartStands port.setup [] k (hart_at (machine_of port) k)) is hart-is;
      tickets = λ h less. let is : 0 ≡ h = omega (arith, less, one) in subst (λ k. tickets_at (machine_of port) k ≡ tickets_of port.setup [] k) is tickets-are;
      mailboxes = λ s h ls lh.
          let sender : 0 ≡ s = omega (arith, ls, one) in
          let receiver : 0 ≡ h = omega (arith, lh, one) in
          subst (λ k. mailbox_at (machine_of port) k h ≡ mailbox_of port.setup [] k h) sender
          (subst (λ k. mailbox_at (machine_of port) 0 k ≡ mailbox_of port.setup [] 0 k) receiver refl);
    };
  }

pub new_alone : NewPortIsAlone
new_alone setup port within one are new =
    let setup-is : port.setup ≡ setup = are.of_setup 0 (name_of port) (omega arith) in
    let hart-is : port.hart ≡ 0 = ap (λ xs. get_or xs 0 0) (are.numbered ∙ ap (range_with_len 0) one) in
    subst (λ (D : Setup). IsAlone D [] port) setup-is
    (new-alone port (subst IsSetup (sym setup-is) within) (ap (λ (D : Setup). D.harts) setup-is ∙ one) hart-is new)

-- so has the first port of a board that was just opened with one hart
pub first_alone : (setup : Setup) (ports : List PortState) (d : PortState) → IsSetup setup → setup.harts ≡ 1 → ArePorts setup (map name_of ports) → AreNew ports
    → IsAlone setup [] (get_or ports 0 d)
first_alone setup [] d within one are new = absurd (omega (arith, ap length are.numbered, length-range_with_len 0 setup.harts, one))
first_alone setup (port ∷ []) d within one are new = new_alone setup port within one are (new 0 port (omega arith))
first_alone setup (port ∷ other ∷ ports) d within one are new = absurd (omega (arith, ap length are.numbered, length-range_with_len 0 setup.harts, one))
