-- What a port answers of its space, of translations and of edits, and what such a call leaves of
-- it.
use Rattle.std.specs.Prelude.{ℕ, Bool, true, false, ◌≡◌, not, [], Option, None, Result, Ok, Err, if◌then◌else◌, slice_index}
use Rattle.pte.specs.declared.address.What.{What}
use Rattle.pte.specs.declared.address.What.TheVariants.{PageOf}
use Rattle.pte.specs.declared.entry.Kind.{Kind}
use Rattle.pte.specs.declared.entry.Kind.TheVariants as kinds
use Rattle.pte.specs.declared.permission.Access.{Access}
use Rattle.pte.specs.declared.permission.Ctx.{Ctx}
use Rattle.pte.specs.Entry.{kind_of}
use Rattle.walk.specs.declared.found_or_trap.Found.{Found}
use Rattle.walk.specs.declared.found_or_trap.Trap.{Trap}
use Rattle.spaces.specs.declared.places.Place.{Place}
use Rattle.spaces.specs.declared.places.Place.TheVariants.{Space, Kernel}
use Rattle.spaces.specs.declared.wishes.Wish.{Wish}
use Rattle.spaces.specs.declared.wishes.Wish.TheVariants.{Map, Unmap, Protect}
use Rattle.spaces.specs.declared.faults.MapFault.{MapFault}
use Rattle.spaces.specs.Edits.{Store, page_of, place_of}
use Rattle.spaces.specs.Layout.{root_ppn}
use Rattle.shoot.specs.declared.tickets.TicketFault.{TicketFault}
use Rattle.shoot.specs.Tickets.{open_answer, after_open}
use Rattle.tlb.specs.Answer.{address_found, entry_of}
use Rattle.tlb.specs.Entries.{TlbState, filled}
use Rattle.tlb.specs.Fence.{fenced}
use Rattle.history.specs.declared.refusal.Refusal.{Refusal}
use Rattle.history.specs.declared.refusal.Refusal.TheVariants.{NoHart, NoSpace}
use Rattle.history.specs.Due.{are_harts, is_number}
use Rattle.history.specs.Refusal.{refusal_of}
use Rattle.history.specs.Setup.{Setup}
use Rattle.history.specs.Spaces.{asid_in}
use Rattle.views.specs.Edits.{edit_over}
use Rattle.views.specs.OrderTurns.{noted}
use Rattle.views.specs.Walks.{AnswersByLoads}
use Rattle.board.specs.declared.mapped.Mapped.{Mapped}
use Rattle.board.specs.declared.mapped.Mapped.TheVariants as mapped
use Rattle.board.specs.Ports.{PortState}
use Rattle.board.specs.Answers.{answer_or, opened, refused_if, with_tickets}

-- Switch
abbrev pub switch_answer : PortState → ℕ → Result (Unit {0}) Refusal
switch_answer port space =
    answer_or (refused_if (not (is_number port.setup space)) NoSpace None) (Ok tt)

abbrev pub after_switch : PortState → ℕ → PortState
after_switch port space = if is_number port.setup space then record port { space = space } else port

-- Fence: what the form that the two registers make leaves of the own TLB
abbrev pub tlb_fenced : TlbState → Option ℕ → Option ℕ → TlbState
tlb_fenced tlb rs1 rs2 = record tlb { entries = fenced tlb.scheme tlb.entries rs1 rs2 }

abbrev pub after_fence : PortState → Option ℕ → Option ℕ → PortState
after_fence port rs1 rs2 = record port { tlb = tlb_fenced port.tlb rs1 rs2 }

-- the ASID and the root of the port's space
abbrev pub own_asid : PortState → ℕ
own_asid port = slice_index port.setup.asids port.space

abbrev pub own_root : PortState → ℕ
own_root port = root_ppn port.setup.layout port.space

-- a TLB once a walk of this ASID ended: what it found is filled in
abbrev pub tlb_filled : TlbState → ℕ → Result Found Trap → TlbState
tlb_filled tlb asid (Ok found) = record tlb { entries = filled tlb.entries (entry_of asid found) }
tlb_filled tlb asid (Err trap) = tlb

-- The answer of a translation that no entry of the TLB matches: that of a walk from the root of the
-- port's space, by the words that this call's own loads found. What the walk found is filled in,
-- and nothing else of the port but its view changes.
pub record IsMissed (port : PortState) (va : ℕ) (access : Access) (ctx : Ctx)
    (answer : Result ℕ Trap) (after : PortState) : Type 0 where
  pub found : Result Found Trap
  pub answer_is : answer ≡ address_found found
  pub loads : AnswersByLoads port.setup.layout port.view (own_root port) va access ctx found
      after.view
  pub after_is : after ≡ record port {
    view = after.view;
    tlb = tlb_filled port.tlb (own_asid port) found;
  }

-- Edits: the place exists
abbrev pub has_place : Setup → Place → Bool
has_place setup (Space s) = is_number setup s
has_place setup Kernel = true

-- the store that a wish takes over the home's view, or why none is due
abbrev pub due_store : PortState → Wish → Result Store MapFault
due_store port wish = edit_over port.setup.layout port.view wish

-- a port whose home made the store of an edit, if one is due; an unmap or a protect opened this
-- ticket
abbrev pub after_store : PortState → Wish → ℕ → Result Store MapFault → PortState
after_store port wish ticket (Ok store) =
    record port { view = noted port.view.config wish ticket port.view store }
after_store port wish ticket (Err fault) = port

abbrev pub mapped_by : Kind → Mapped
mapped_by (kinds.Table ppn global) = mapped.Table ppn
mapped_by kinds.Invalid = mapped.Leaf
mapped_by kinds.Reserved = mapped.Leaf
mapped_by (kinds.Leaf ppn flags) = mapped.Leaf

-- the wish is to map
abbrev pub is_map : Wish → Bool
is_map (Map place page ppn flags) = true
is_map (Unmap place page) = false
is_map (Protect place page flags) = false

-- Map: NoSpace, and then what the edit says
abbrev pub mapped_of : Result Store MapFault → Result Mapped Refusal
mapped_of (Ok store) = Ok (mapped_by (kind_of store.word))
mapped_of (Err fault) = Err (refusal_of fault)

abbrev pub place_refusal : PortState → Place → Option Refusal
place_refusal port place = refused_if (not (has_place port.setup place)) NoSpace None

abbrev pub map_answer : PortState → Wish → Result Mapped Refusal
map_answer port wish =
    answer_or (place_refusal port (place_of wish)) (mapped_of (due_store port wish))

abbrev pub after_map : PortState → Wish → PortState
after_map port wish =
    if has_place port.setup (place_of wish) then after_store port wish 0 (due_store port wish)
    else port

-- Unmap and Protect: NoHart, NoSpace, then what the edit says, and then what opening a ticket says
abbrev pub named_refusal : PortState → Place → ℕ → Option Refusal
named_refusal port place named =
    refused_if (not (are_harts port.setup named)) NoHart (place_refusal port place)

abbrev pub opened_if : Result Store MapFault → Result ℕ TicketFault → Result ℕ Refusal
opened_if (Ok store) opening = opened opening
opened_if (Err fault) opening = Err (refusal_of fault)

abbrev pub edit_answer : PortState → Wish → ℕ → Result ℕ Refusal
edit_answer port wish named =
    answer_or (named_refusal port (place_of wish) named)
    (opened_if (due_store port wish) (open_answer port.tickets named))

-- what the harts drop for a page is that of its space's ASID, and for a kernel page that of every
-- one
abbrev pub page_request : Setup → Wish → What
page_request setup wish = PageOf (page_of wish) (asid_in setup [] (place_of wish))

-- a port once an edit was accepted: the ticket is open, and the one word is stored
abbrev pub after_opened : PortState → Wish → ℕ → Result ℕ Refusal → PortState
after_opened port wish named (Ok ticket) =
    with_tickets (after_store port wish ticket (due_store port wish))
    (after_open port.tickets (page_request port.setup wish) named)
after_opened port wish named (Err refusal) = port

abbrev pub after_edit : PortState → Wish → ℕ → PortState
after_edit port wish named = after_opened port wish named (edit_answer port wish named)
