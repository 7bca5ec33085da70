-- The calls of a port, what each leaves of it, and which an unmapping's ticket outlasts.
use Rattle.std.specs.Prelude.{ℕ, ◌≡◌, ◌⊎◌, true, false, Option, Result, Ok, Err}
use Rattle.pte.specs.Address.{Overlap, Span}
use Rattle.pte.specs.declared.flags.PteFlags.{PteFlags}
use Rattle.pte.specs.declared.permission.Access.{Access}
use Rattle.pte.specs.declared.permission.Ctx.{Ctx}
use Rattle.walk.specs.declared.found_or_trap.Trap.{Trap}
use Rattle.spaces.specs.declared.places.Place.{Place}
use Rattle.spaces.specs.declared.wishes.Wish.TheVariants as wish
use Rattle.shoot.specs.Request.{Request}
use Rattle.shoot.specs.Tickets.{is_done_at, is_open}
use Rattle.history.specs.declared.event.Scope.{Scope}
use Rattle.history.specs.declared.refusal.Refusal.{Refusal}
use Rattle.board.specs.declared.mapped.Mapped.TheVariants as mapped
use Rattle.board.specs.Ports.{PortState, inbox_from, outbox_to}
use Rattle.board.specs.Answers.{after_ack_self, after_close_to, after_finish_of, after_flush, after_no_post, after_post, after_serve, known_room, known_waiting}
use Rattle.board.specs.Collects.{IsCollected}
use Rattle.board.specs.Promises.{IsUnmapping}
use Rattle.board.specs.Tables.{IsMissed, after_edit, after_fence, after_map, after_switch, map_answer}

-- A call that may change a port: what it is called with, and its answer where that tells what it
-- leaves.
pub data Call : Type 0 where
  Post : (ticket to : ℕ) → Result (Unit {0}) Refusal → Call
  AckSelf : (ticket : ℕ) → Call
  Collect : (ticket : ℕ) → Call
  Finish : (ticket : ℕ) → Call
  Flush : (scope : Scope) (named : ℕ) → Call
  Unmap : (place : Place) (page : Span) (named : ℕ) → Call
  Protect : (place : Place) (page : Span) (flags : PteFlags) (named : ℕ) → Call
  MapStep : (place : Place) (page : Span) (ppn : ℕ) (flags : PteFlags) → Call
  Serve : (from : ℕ) → Result Request Refusal → Call
  CloseTo : (to : ℕ) → Call
  Translate : (va : ℕ) (access : Access) (ctx : Ctx) → Result ℕ Trap → Call
  Fence : (rs1 rs2 : Option ℕ) → Call
  Switch : (space : ℕ) → Call

-- What the port is after a call. Each call's contract says it of its own.
unfoldable pub LeadsTo : Call → PortState → PortState → Type 0
LeadsTo (Post ticket to (Ok done)) port after =
    after ≡ after_post port ticket to (known_room (outbox_to after to))
LeadsTo (Post ticket to (Err refusal)) port after = after ≡ after_no_post port ticket to
LeadsTo (AckSelf ticket) port after = after ≡ after_ack_self port ticket
LeadsTo (Collect ticket) port after =
    (is_open port.tickets ticket ≡ false → after ≡ port)
    × (is_open port.tickets ticket ≡ true → IsCollected port ticket port.setup.harts after)
LeadsTo (Finish ticket) port after = after ≡ after_finish_of port ticket
LeadsTo (Flush scope named) port after = after ≡ after_flush port scope named
LeadsTo (Unmap place page named) port after = after ≡ after_edit port (wish.Unmap place page) named
LeadsTo (Protect place page flags named) port after =
    after ≡ after_edit port (wish.Protect place page flags) named
LeadsTo (MapStep place page ppn flags) port after =
    after ≡ after_map port (wish.Map place page ppn flags)
LeadsTo (Serve from (Ok request)) port after =
    after ≡ after_serve port from request (known_waiting (inbox_from after from))
LeadsTo (Serve from (Err refusal)) port after = after ≡ port
LeadsTo (CloseTo to) port after = after ≡ after_close_to port to
LeadsTo (Translate va access ctx answer) port after =
    (after ≡ port) ⊎ IsMissed port va access ctx answer after
LeadsTo (Fence rs1 rs2) port after = after ≡ after_fence port rs1 rs2
LeadsTo (Switch space) port after = after ≡ after_switch port space

-- the call finishes the ticket, which is done, or maps a leaf over the page in its place
abbrev pub Ends : Call → PortState → ℕ → Place → Span → Type 0
Ends (Finish other) port ticket place page =
    (other ≡ ticket) × (is_done_at port.tickets ticket ≡ true)
Ends (MapStep other over ppn flags) port ticket place page =
    (map_answer port (wish.Map other over ppn flags) ≡ Ok mapped.Leaf)
    × (other ≡ place) × Overlap page over
Ends _ port ticket place page = ⊥

-- the ticket of an unmapping stays open for it through every call but these
abbrev pub EachCallKeepsUnmapping : Type 0
EachCallKeepsUnmapping =
    (call : Call) (port after : PortState) (ticket : ℕ) (place : Place) (page : Span) (named : ℕ)
    → LeadsTo call port after → ¬ Ends call port ticket place page
    → IsUnmapping port ticket place page named → IsUnmapping after ticket place page named

-- each unmapping whose ticket is open for it in one state of a port is so in the other: what a
-- sender does while it waits
abbrev pub KeepsUnmappings : PortState → PortState → Type 0
KeepsUnmappings port after =
    (ticket : ℕ) (place : Place) (page : Span) (named : ℕ)
    → IsUnmapping port ticket place page named → IsUnmapping after ticket place page named
