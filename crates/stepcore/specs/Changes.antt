-- What an event and its reply leave of a machine, part by part.
use Rattle.std.specs.Prelude.{ℕ, ◌≡◌, ◌<◌, ◌==◌, length, Bool, true, false, ◌&&◌, not, List, Option, Some, None, Result, Ok, Err, unwrap_or, slice_set, if◌then◌else◌}
use Rattle.pte.specs.declared.address.What.{What}
use Rattle.pte.specs.declared.address.What.TheVariants.{SpaceOf, All}
use Rattle.walk.specs.declared.walking.Progress.{Progress}
use Rattle.walk.specs.declared.walking.Progress.TheVariants as progress
use Rattle.walk.specs.Leads.{Tables}
use Rattle.walk.specs.Stage.{Stage, start_of}
use Rattle.spaces.specs.Layout.{root_ppn}
use Rattle.tlb.specs.Entries.{filled}
use Rattle.tlb.specs.Answer.{entry_of}
use Rattle.tlb.specs.Fence.{fenced}
use Rattle.tlb.specs.Service.{after_service}
use Rattle.shoot.specs.Mailbox.{MailboxState, can_release, after_post, after_take, after_release, after_close}
use Rattle.shoot.specs.Tickets.{TicketTable, acked_by, ticket_acked, ticket_collected, what_at, after_open, after_posted, after_collect, after_finish}
use Rattle.history.specs.declared.event.Event.{Event}
use Rattle.history.specs.declared.event.Event.TheVariants.{Begin, Load, Map, Unmap, Protect, Flush, Switch, Fence, Post, Take, ServeFence, Ack, AckSelf, Collect, Finish, Close, Retire, Reclaim, Create}
use Rattle.history.specs.declared.reply.Reply.{Reply}
use Rattle.history.specs.declared.refusal.Refusal.{Refusal}
use Rattle.laws.specs.Kept.{HasPage}
use Rattle.spaces.specs.declared.wishes.Wish.{Wish}
use Rattle.spaces.specs.declared.wishes.Wish.TheVariants as wish
use Rattle.history.specs.declared.reply.Reply.TheVariants as reply
use Rattle.history.specs.Turns.{is_ok, is_more, is_opened, opened_ticket, is_taken, is_progress}
use Rattle.history.specs.Tables.{words_after}
use Rattle.history.specs.Spaces.{holder_after}
use Rattle.spaces.specs.Layout.{home_of}
use Rattle.spaces.specs.declared.places.Place.TheVariants.{Space}
use Rattle.stepcore.specs.declared.space_state.SpaceState.{SpaceState}
use Rattle.stepcore.specs.declared.space_state.Phase.{Phase}
use Rattle.stepcore.specs.declared.space_state.Phase.TheVariants as phase
use Rattle.stepcore.specs.declared.serving.Serving.{Serving as Service}
use Rattle.stepcore.specs.State.{State, HartState, setup_in, words_in, holders_in, hart_at, space_at, tickets_at, mailbox_at, mailbox_index}
use Rattle.stepcore.specs.Answers.{reply_to, asid_of_hart, next_of, page_request, request_of_scope, every_hart}

-- what a ticket asks
abbrev pub what_in : TicketTable → ℕ → What
what_in tickets ticket = unwrap_or (what_at tickets ticket) All

-- a hart whose walk made a load
abbrev pub with_progress : ℕ → Progress → HartState → HartState
with_progress asid (progress.More next) hart = record hart { walk = Some next }
with_progress asid (progress.Found found) hart =
    record hart { walk = None; entries = filled hart.entries (entry_of asid found) }
with_progress asid (progress.Trap trap) hart = record hart { walk = None }

abbrev pub with_load : Tables → ℕ → Option Stage → HartState → HartState
with_load words asid None hart = hart
with_load words asid (Some walk) hart = with_progress asid (next_of words walk) hart

-- a hart that takes a request from another, and one that fences for what it serves
abbrev pub with_taken : ℕ → Reply → HartState → HartState
with_taken from (reply.Taken request) hart =
    record hart { serving = Some (record { from = from; request = request; fenced = false }) }
with_taken from _ hart = hart

abbrev pub with_served : Option Service → HartState → HartState
with_served None hart = hart
with_served (Some serving) hart =
    record hart {
      serving = Some (record { from = serving.from; request = serving.request; fenced = true });
      entries = after_service hart.entries serving.request.what;
    }

-- the reply is no refusal
abbrev pub is_accepted : Reply → Bool
is_accepted (reply.Refused refusal) = false
is_accepted _ = true

-- the harts: if the test holds, that of the number is this one
abbrev pub put_hart : State → ℕ → Bool → HartState → List HartState
put_hart m number test hart = if test then slice_set m.harts number hart else m.harts

abbrev pub harts_after : State → Event → Reply → List HartState
harts_after m (Begin hart va access ctx) reply =
    put_hart m hart (is_more reply)
    (record (hart_at m hart) {
      walk = Some
          (start_of m.memory.layout.scheme (root_ppn m.memory.layout (hart_at m hart).space)
          va access ctx);
    })
harts_after m (Load hart) reply =
    put_hart m hart (is_accepted reply)
    (with_load (words_in m) (asid_of_hart m (hart_at m hart)) (hart_at m hart).walk
    (hart_at m hart))
harts_after m (Switch hart space) reply =
    put_hart m hart (is_ok reply) (record (hart_at m hart) { space = space })
harts_after m (Fence hart rs1 rs2) reply =
    put_hart m hart (is_ok reply)
    (record (hart_at m hart) {
      entries = fenced (hart_at m hart).scheme (hart_at m hart).entries rs1 rs2;
    })
harts_after m (Take hart from) reply =
    put_hart m hart (is_taken reply) (with_taken from reply (hart_at m hart))
harts_after m (ServeFence hart) reply =
    put_hart m hart (is_ok reply) (with_served (hart_at m hart).serving (hart_at m hart))
harts_after m (Ack hart) reply =
    put_hart m hart (is_ok reply) (record (hart_at m hart) { serving = None })
harts_after m (AckSelf hart ticket) reply =
    put_hart m hart (is_progress reply)
    (record (hart_at m hart) {
      entries = after_service (hart_at m hart).entries (what_in (tickets_at m hart) ticket);
    })
harts_after m _ reply = m.harts

-- the tickets
abbrev pub put_tickets : State → ℕ → Bool → TicketTable → List TicketTable
put_tickets m hart test tickets = if test then slice_set m.tickets hart tickets else m.tickets

abbrev pub tickets_after_ack : State → ℕ → Bool → Option Service → List TicketTable
tickets_after_ack m hart test None = m.tickets
tickets_after_ack m hart test (Some serving) =
    put_tickets m serving.from test
    (acked_by (tickets_at m serving.from) serving.request.ticket hart)

abbrev pub tickets_after : State → Event → Reply → List TicketTable
tickets_after m (Unmap hart place page named) reply =
    put_tickets m hart (is_opened reply)
    (after_open (tickets_at m hart) (page_request m place page) named)
tickets_after m (Protect hart place page flags named) reply =
    put_tickets m hart (is_opened reply)
    (after_open (tickets_at m hart) (page_request m place page) named)
tickets_after m (Flush hart scope named) reply =
    put_tickets m hart (is_opened reply)
    (after_open (tickets_at m hart) (request_of_scope m scope) named)
tickets_after m (Retire hart space) reply =
    put_tickets m hart (is_opened reply)
    (after_open (tickets_at m hart) (SpaceOf (space_at m space).asid) (every_hart m))
tickets_after m (Post hart ticket to) reply =
    put_tickets m hart (is_ok reply) (after_posted (tickets_at m hart) ticket to)
tickets_after m (Ack hart) reply = tickets_after_ack m hart (is_ok reply) (hart_at m hart).serving
tickets_after m (AckSelf hart ticket) reply =
    put_tickets m hart (is_progress reply) (acked_by (tickets_at m hart) ticket hart)
tickets_after m (Collect hart ticket from) reply =
    put_tickets m hart (is_progress reply) (after_collect (tickets_at m hart) ticket from)
tickets_after m (Finish hart ticket) reply =
    put_tickets m hart (is_ok reply) (after_finish (tickets_at m hart) ticket)
tickets_after m _ reply = m.tickets

-- the spaces: a retired one has its ticket, which it loses where that is finished
abbrev pub is_under : Phase → ℕ → Bool
is_under (phase.Retiring (Some own)) ticket = own == ticket
is_under _ ticket = false

abbrev pub is_retirement : State → ℕ → ℕ → ℕ → SpaceState → Bool
is_retirement m hart ticket s old =
    (hart == home_of m.memory.layout (Space s)) && is_under old.phase ticket

abbrev pub space_after : State → Event → Reply → ℕ → SpaceState → SpaceState
space_after m (Retire hart space) reply s old =
    if is_opened reply && (space == s)
    then record { asid = old.asid; phase = phase.Retiring (opened_ticket reply) } else old
space_after m (Reclaim hart space) reply s old =
    if is_ok reply && (space == s) then record { asid = old.asid; phase = phase.Free } else old
space_after m (Create hart space asid) reply s old =
    if is_ok reply && (space == s) then record { asid = asid; phase = phase.Live } else old
space_after m (Finish hart ticket) reply s old =
    if is_ok reply && is_retirement m hart ticket s old
    then record { asid = old.asid; phase = phase.Retiring None } else old
space_after m _ reply s old = old

-- the mailboxes
abbrev pub put_mailbox : State → ℕ → ℕ → Bool → MailboxState → List MailboxState
put_mailbox m sender receiver test mailbox =
    if test then slice_set m.mailboxes (mailbox_index sender receiver) mailbox else m.mailboxes

-- a hart has acknowledged, and the acknowledgement is not collected yet
abbrev pub is_collectable : TicketTable → ℕ → ℕ → Bool
is_collectable tickets ticket from =
    ticket_acked tickets ticket from && not (ticket_collected tickets ticket from)

abbrev pub mailboxes_after : State → Event → Reply → List MailboxState
mailboxes_after m (Post hart ticket to) reply =
    put_mailbox m hart to (is_ok reply)
    (after_post (mailbox_at m hart to)
    (record { ticket = ticket; what = what_in (tickets_at m hart) ticket }))
mailboxes_after m (Take hart from) reply =
    put_mailbox m from hart (is_taken reply) (after_take (mailbox_at m from hart))
mailboxes_after m (Collect hart ticket from) reply =
    put_mailbox m hart from
    (is_progress reply
    && (is_collectable (tickets_at m hart) ticket from && can_release (mailbox_at m hart from)))
    (after_release (mailbox_at m hart from))
mailboxes_after m (Close hart to) reply =
    put_mailbox m hart to (is_ok reply) (after_close (mailbox_at m hart to))
mailboxes_after m _ reply = m.mailboxes

-- the machine is what the event and its reply leave of an older one
pub record Follows (old : State) (event : Event) (reply : Reply) (new : State) : Type 0 where
  pub layout : new.memory.layout ≡ old.memory.layout
  pub count : length new.spaces ≡ length old.spaces
  pub spaces : (s : ℕ) → s < length old.spaces
      → space_at new s ≡ space_after old event reply s (space_at old s)
  pub words : (ppn i : ℕ)
      → words_in new ppn i
      ≡ words_after (setup_in old) event reply (words_in old) (holders_in old) ppn i
  pub holders : (ppn : ℕ) → holders_in new ppn ≡ holder_after event reply ppn (holders_in old ppn)
  pub harts : new.harts ≡ harts_after old event reply
  pub tickets : new.tickets ≡ tickets_after old event reply
  pub mailboxes : new.mailboxes ≡ mailboxes_after old event reply
  pub capacity : new.capacity ≡ old.capacity

-- what an event is answered, as a reply
abbrev pub reply_of : Result Reply Refusal → Reply
reply_of (Ok reply) = reply
reply_of (Err refusal) = reply.Refused refusal

-- a machine answers an event: by the reply that it is to give, as what follows from the machine
-- before; a refusal changes nothing, and the event speaks of a page
pub record Answers (old : State) (event : Event) (result : Result Reply Refusal) (new : State)
    : Type 0 where
  pub reply : reply_of result ≡ reply_to old event
  pub follows : Follows old event (reply_of result) new
  pub refused : is_accepted (reply_of result) ≡ false → new ≡ old
  pub page : HasPage event

-- a wish that changes a mapped page, and its event
abbrev pub is_change : Wish → Bool
is_change (wish.Map place page ppn flags) = false
is_change (wish.Unmap place page) = true
is_change (wish.Protect place page flags) = true

abbrev pub event_of : ℕ → Wish → ℕ → Event
event_of hart (wish.Map place page ppn flags) named = Map hart place page ppn flags
event_of hart (wish.Unmap place page) named = Unmap hart place page named
event_of hart (wish.Protect place page flags) named = Protect hart place page flags named
