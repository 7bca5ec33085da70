-- What a machine answers to an event: the first refusal that applies, else what the event does.
use Rattle.std.specs.List.{list_any}
use Rattle.std.specs.Prelude.{ℕ, Bool, true, false, ◌-◌, ◌^◌, ◌==◌, nat_lt, length, ◌&&◌, not, [], ◌∷◌, Option, Some, None, is_some, is_none, Result, Ok, Err, if◌then◌else◌}
use Rattle.pte.specs.declared.permission.Access.{Access}
use Rattle.pte.specs.declared.permission.Ctx.{Ctx}
use Rattle.walk.specs.declared.found_or_trap.Why.TheVariants.{NotCanonical}
use Rattle.walk.specs.declared.walking.Progress.{Progress}
use Rattle.walk.specs.declared.walking.Progress.TheVariants as progress
use Rattle.walk.specs.Answer.{page_trap}
use Rattle.walk.specs.Leads.{Tables, word_at}
use Rattle.walk.specs.Stage.{Stage}
use Rattle.walk.specs.Step.{load_of}
use Rattle.spaces.specs.declared.wishes.Wish.{Wish}
use Rattle.spaces.specs.declared.wishes.Wish.TheVariants as wish
use Rattle.spaces.specs.declared.faults.MapFault.{MapFault}
use Rattle.spaces.specs.Edits.{Store, place_of}
use Rattle.tlb.specs.Entries.{first_match}
use Rattle.pte.specs.Address.{is_canonical}
use Rattle.shoot.specs.Request.{Request}
use Rattle.shoot.specs.Mailbox.{MailboxState, post_fault, first_waiting}
use Rattle.shoot.specs.Tickets.{TicketTable, is_open, names, ticket_posted, is_done_at, open_answer, progress_at, acked_by, after_collect}
use Rattle.shoot.specs.declared.mailbox.PostFault.{PostFault}
use Rattle.shoot.specs.declared.tickets.TicketFault.{TicketFault}
use Rattle.shoot.specs.declared.tickets.Collected.{Collected}
use Rattle.shoot.specs.declared.tickets.Collected.TheVariants as collected
use Rattle.history.specs.declared.event.Event.{Event}
use Rattle.history.specs.declared.event.Event.TheVariants.{Begin, Load, Map, Unmap, Protect, Flush, Switch, Fence, Post, Take, ServeFence, Ack, AckSelf, Collect, Finish, Close, Retire, Reclaim, Create}
use Rattle.history.specs.declared.refusal.Refusal.TheVariants.{NoHart, NoSpace, NotOpen, NotNamed, AlreadyPosted, Closed, Empty, Walking, NotWalking, Serving, NotServing, NotFenced, NotDone, NotHome, Retiring, InUse, NotAcked, NotRetiring, NotFree, AsidInUse}
use Rattle.history.specs.declared.reply.Reply.{Reply}
use Rattle.history.specs.declared.reply.Reply.TheVariants as reply
use Rattle.history.specs.Tables.{edit_due}
use Rattle.history.specs.Refusal.{opening_refusal, posting_refusal}
use Rattle.history.specs.Setup.{is_hart}
use Rattle.history.specs.Due.{when, first_of, are_pair, are_harts, match_reply, map_reply, edit_reply}
use Rattle.history.specs.declared.event.Scope.{Scope}
use Rattle.history.specs.declared.event.Scope.TheVariants as scope
use Rattle.pte.specs.Address.{Span}
use Rattle.pte.specs.declared.address.What.{What}
use Rattle.pte.specs.declared.address.What.TheVariants.{PageOf, SpaceOf, All}
use Rattle.spaces.specs.declared.places.Place.{Place}
use Rattle.spaces.specs.declared.places.Place.TheVariants.{Space, Kernel}
use Rattle.spaces.specs.Layout.{home_of}
use Rattle.stepcore.specs.declared.space_state.Phase.{Phase}
use Rattle.stepcore.specs.declared.space_state.Phase.TheVariants as phase
use Rattle.stepcore.specs.declared.hart.AccessReply.{AccessReply}
use Rattle.stepcore.specs.declared.hart.AccessReply.TheVariants as short
use Rattle.stepcore.specs.declared.serving.Serving.{Serving as Service}
use Rattle.stepcore.specs.declared.space_state.SpaceState.{SpaceState}
use Rattle.stepcore.specs.State.{State, HartState, setup_in, words_in, holders_in, hart_at, space_at, tickets_at, mailbox_at}

-- the phase of a space, and which spaces, places and scopes exist
abbrev pub is_free_phase : Phase → Bool
is_free_phase phase.Free = true
is_free_phase _ = false

abbrev pub is_retiring : Phase → Bool
is_retiring (phase.Retiring ticket) = true
is_retiring _ = false

abbrev pub is_number : State → ℕ → Bool
is_number m space = nat_lt space (length m.spaces)

abbrev pub is_space : State → ℕ → Bool
is_space m space = is_number m space && not (is_free_phase (space_at m space).phase)

-- the ASID of a space that exists and is not free
abbrev pub asid_of_space : State → ℕ → Option ℕ
asid_of_space m space = if is_space m space then Some (space_at m space).asid else None

abbrev pub is_place : State → Place → Bool
is_place m (Space space) = is_space m space
is_place m Kernel = true

abbrev pub is_scope : State → Scope → Bool
is_scope m (scope.Space space) = is_space m space
is_scope m scope.All = true

abbrev pub retires : State → Place → Bool
retires m (Space space) = is_retiring (space_at m space).phase
retires m Kernel = false

abbrev pub scope_retires : State → Scope → Bool
scope_retires m (scope.Space space) = is_retiring (space_at m space).phase
scope_retires m scope.All = false

-- what the harts are asked to drop for a page and for a scope
abbrev pub asid_of_place : State → Place → Option ℕ
asid_of_place m (Space space) = Some (space_at m space).asid
asid_of_place m Kernel = None

abbrev pub page_request : State → Place → Span → What
page_request m place page = PageOf page (asid_of_place m place)

abbrev pub request_of_scope : State → Scope → What
request_of_scope m (scope.Space space) = SpaceOf (space_at m space).asid
request_of_scope m scope.All = All

-- Begin: the TLB answers, or a walk begins
abbrev pub asid_of_hart : State → HartState → ℕ
asid_of_hart m hart = (space_at m hart.space).asid

-- what an access or a load is answered, as a reply
abbrev pub reply_to_access : AccessReply → Reply
reply_to_access short.More = reply.More
reply_to_access (short.Filled pa) = reply.Filled pa
reply_to_access (short.Trap trap) = reply.Trap trap
reply_to_access (short.Hit pa) = reply.Hit pa
reply_to_access (short.Refused refusal) = reply.Refused refusal

abbrev pub access_answer : State → HartState → ℕ → Access → Ctx → Reply
access_answer m hart va access ctx =
    if is_canonical m.memory.layout.scheme va
    then match_reply va access ctx (first_match hart.entries (asid_of_hart m hart) va)
    else reply.Trap (page_trap access NotCanonical)

abbrev pub begin_answer : State → HartState → ℕ → Access → Ctx → Reply
begin_answer m hart va access ctx =
    first_of (
    when (is_some hart.walk) Walking
    ∷ when (is_some hart.serving) Serving ∷ [])
    (access_answer m hart va access ctx)

-- Load: what the current word makes of the walk
abbrev pub next_of : Tables → Stage → Progress
next_of words walk = load_of walk (word_at words walk.va walk.level walk.table)

abbrev pub progress_answer : Progress → Reply
progress_answer (progress.More next) = reply.More
progress_answer (progress.Found found) = reply.Filled found.pa
progress_answer (progress.Trap trap) = reply.Trap trap

abbrev pub load_answer : Tables → Option Stage → Reply
load_answer words None = reply.Refused NotWalking
load_answer words (Some walk) = progress_answer (next_of words walk)

-- the store that is due for a wish
abbrev pub edit_in : State → ℕ → Wish → Result Store MapFault
edit_in m hart w = edit_due (setup_in m) (words_in m) (holders_in m) hart w

-- what opening a ticket of a hart is answered
abbrev pub opening_answer : Result ℕ TicketFault → Reply
opening_answer (Ok ticket) = reply.Opened ticket
opening_answer (Err fault) = reply.Refused (opening_refusal fault)

abbrev pub open_in : State → ℕ → ℕ → Reply
open_in m hart named = opening_answer (open_answer (tickets_at m hart) named)

-- an edit of a place: the place exists and does not retire, then the rest
abbrev pub at_place : State → Place → Reply → Reply
at_place m place rest =
    first_of (
    when (not (is_place m place)) NoSpace
    ∷ when (retires m place) Retiring ∷ [])
    rest

-- Unmap and Protect: the store, and a ticket
abbrev pub change_answer : State → ℕ → Wish → ℕ → Reply
change_answer m hart w named =
    first_of (
    when (not (is_hart (setup_in m) hart && are_harts (setup_in m) named)) NoHart
    ∷ when (not (is_place m (place_of w))) NoSpace
    ∷ when (retires m (place_of w)) Retiring ∷ [])
    (edit_reply (edit_in m hart w) (open_in m hart named))

-- Post
abbrev pub box_answer : Option PostFault → Reply
box_answer None = reply.Ok
box_answer (Some fault) = reply.Refused (posting_refusal fault)

abbrev pub post_answer : TicketTable → MailboxState → ℕ → ℕ → Reply
post_answer tickets mailbox ticket to =
    first_of (
    when (not (is_open tickets ticket)) NotOpen
    ∷ when (not (names tickets ticket to)) NotNamed
    ∷ when (ticket_posted tickets ticket to) AlreadyPosted ∷ [])
    (box_answer (post_fault mailbox))

-- Take: the first request that waits
abbrev pub next_answer : Option Request → Reply
next_answer None = reply.Refused Empty
next_answer (Some request) = reply.Taken request

abbrev pub take_answer : HartState → MailboxState → Reply
take_answer hart mailbox =
    first_of (
    when (is_some hart.walk) Walking
    ∷ when (is_some hart.serving) Serving ∷ [])
    (next_answer (first_waiting mailbox))

-- ServeFence and Ack
abbrev pub serve_fence_answer : HartState → Reply
serve_fence_answer hart =
    first_of (
    when (is_some hart.walk) Walking
    ∷ when (is_none hart.serving) NotServing ∷ [])
    reply.Ok

abbrev pub ack_answer : Option Service → Reply
ack_answer None = reply.Refused NotServing
ack_answer (Some serving) = first_of (when (not serving.fenced) NotFenced ∷ []) reply.Ok

-- AckSelf and Collect: how far the ticket is once the event is done
abbrev pub progress_reply : Collected → Reply
progress_reply collected.Done = reply.Done
progress_reply (collected.Waiting harts) = reply.Waiting harts

-- the tickets once a hart acknowledged one, if it names the hart
abbrev pub ack_self_answer : HartState → TicketTable → ℕ → ℕ → Reply
ack_self_answer hart tickets ticket number =
    first_of (
    when (not (is_open tickets ticket)) NotOpen
    ∷ when (is_some hart.walk) Walking ∷ [])
    (progress_reply (progress_at (acked_by tickets ticket number) ticket))

abbrev pub collect_answer : TicketTable → ℕ → ℕ → Reply
collect_answer tickets ticket from =
    first_of (
    when (not (is_open tickets ticket)) NotOpen
    ∷ when (not (names tickets ticket from)) NotNamed ∷ [])
    (progress_reply (progress_at (after_collect tickets ticket from) ticket))

-- Finish: each named hart is collected
abbrev pub finish_answer : TicketTable → ℕ → Reply
finish_answer tickets ticket =
    first_of (
    when (not (is_open tickets ticket)) NotOpen
    ∷ when (not (is_done_at tickets ticket)) NotDone ∷ [])
    reply.Ok

-- Retire: the byte of all harts; and whether some hart is in the space
abbrev pub every_hart : State → ℕ
every_hart m = 2 ^ length m.harts - 1

abbrev pub is_in_use : State → ℕ → Bool
is_in_use m space = list_any (λ hart. hart.space == space) m.harts

-- Reclaim: each hart is collected for the retirement, or its ticket was finished
abbrev pub reclaim_answer : TicketTable → Phase → Reply
reclaim_answer tickets phase.Live = reply.Refused NotRetiring
reclaim_answer tickets (phase.Retiring None) = reply.Ok
reclaim_answer tickets (phase.Retiring (Some ticket)) =
    first_of (when (not (is_done_at tickets ticket)) NotAcked ∷ []) reply.Ok
reclaim_answer tickets phase.Free = reply.Refused NoSpace

-- Create: a space that is not free has the ASID
abbrev pub has_asid : SpaceState → ℕ → Bool
has_asid space asid = not (is_free_phase space.phase) && (space.asid == asid)

abbrev pub is_asid_used : State → ℕ → Bool
is_asid_used m asid = list_any (λ space. has_asid space asid) m.spaces

-- what an event is answered: NoHart first, then the refusals of the event in order
abbrev pub reply_to : State → Event → Reply
reply_to m (Begin hart va access ctx) =
    first_of (when (not (is_hart (setup_in m) hart)) NoHart ∷ [])
    (begin_answer m (hart_at m hart) va access ctx)
reply_to m (Load hart) =
    first_of (when (not (is_hart (setup_in m) hart)) NoHart ∷ [])
    (load_answer (words_in m) (hart_at m hart).walk)
reply_to m (Map hart place page ppn flags) =
    first_of (
    when (not (is_hart (setup_in m) hart)) NoHart
    ∷ when (not (is_place m place)) NoSpace
    ∷ when (retires m place) Retiring ∷ [])
    (map_reply (edit_in m hart (wish.Map place page ppn flags)))
reply_to m (Unmap hart place page named) =
    first_of (
    when (not (is_hart (setup_in m) hart && are_harts (setup_in m) named)) NoHart
    ∷ when (not (is_place m place)) NoSpace
    ∷ when (retires m place) Retiring ∷ [])
    (edit_reply (edit_in m hart (wish.Unmap place page)) (open_in m hart named))
reply_to m (Protect hart place page flags named) =
    first_of (
    when (not (is_hart (setup_in m) hart && are_harts (setup_in m) named)) NoHart
    ∷ when (not (is_place m place)) NoSpace
    ∷ when (retires m place) Retiring ∷ [])
    (edit_reply (edit_in m hart (wish.Protect place page flags)) (open_in m hart named))
reply_to m (Flush hart scope named) =
    first_of (
    when (not (is_hart (setup_in m) hart && are_harts (setup_in m) named)) NoHart
    ∷ when (not (is_scope m scope)) NoSpace
    ∷ when (scope_retires m scope) Retiring ∷ [])
    (open_in m hart named)
reply_to m (Switch hart space) =
    first_of (
    when (not (is_hart (setup_in m) hart)) NoHart
    ∷ when (not (is_space m space)) NoSpace
    ∷ when (is_retiring (space_at m space).phase) Retiring
    ∷ when (is_some (hart_at m hart).walk) Walking ∷ [])
    reply.Ok
reply_to m (Fence hart rs1 rs2) =
    first_of (
    when (not (is_hart (setup_in m) hart)) NoHart
    ∷ when (is_some (hart_at m hart).walk) Walking ∷ [])
    reply.Ok
reply_to m (Post hart ticket to) =
    first_of (when (not (are_pair (setup_in m) hart to)) NoHart ∷ [])
    (post_answer (tickets_at m hart) (mailbox_at m hart to) ticket to)
reply_to m (Take hart from) =
    first_of (when (not (are_pair (setup_in m) hart from)) NoHart ∷ [])
    (take_answer (hart_at m hart) (mailbox_at m from hart))
reply_to m (ServeFence hart) =
    first_of (when (not (is_hart (setup_in m) hart)) NoHart ∷ [])
    (serve_fence_answer (hart_at m hart))
reply_to m (Ack hart) =
    first_of (when (not (is_hart (setup_in m) hart)) NoHart ∷ [])
    (ack_answer (hart_at m hart).serving)
reply_to m (AckSelf hart ticket) =
    first_of (when (not (is_hart (setup_in m) hart)) NoHart ∷ [])
    (ack_self_answer (hart_at m hart) (tickets_at m hart) ticket hart)
reply_to m (Collect hart ticket from) =
    first_of (when (not (are_pair (setup_in m) hart from)) NoHart ∷ [])
    (collect_answer (tickets_at m hart) ticket from)
reply_to m (Finish hart ticket) =
    first_of (when (not (is_hart (setup_in m) hart)) NoHart ∷ [])
    (finish_answer (tickets_at m hart) ticket)
reply_to m (Close hart to) =
    first_of (
    when (not (are_pair (setup_in m) hart to)) NoHart
    ∷ when ((mailbox_at m hart to).closed) Closed ∷ [])
    reply.Ok
reply_to m (Retire hart space) =
    first_of (
    when (not (is_hart (setup_in m) hart)) NoHart
    ∷ when (not (is_space m space)) NoSpace
    ∷ when (not (hart == home_of m.memory.layout (Space space))) NotHome
    ∷ when (is_retiring (space_at m space).phase) Retiring
    ∷ when (is_in_use m space) InUse ∷ [])
    (open_in m hart (every_hart m))
reply_to m (Reclaim hart space) =
    first_of (
    when (not (is_hart (setup_in m) hart)) NoHart
    ∷ when (not (is_space m space)) NoSpace
    ∷ when (not (hart == home_of m.memory.layout (Space space))) NotHome ∷ [])
    (reclaim_answer (tickets_at m hart) (space_at m space).phase)
reply_to m (Create hart space asid) =
    first_of (
    when (not (is_hart (setup_in m) hart)) NoHart
    ∷ when (not (is_number m space)) NoSpace
    ∷ when (not (hart == home_of m.memory.layout (Space space))) NotHome
    ∷ when (not (is_free_phase (space_at m space).phase)) NotFree
    ∷ when (is_asid_used m asid) AsidInUse ∷ [])
    reply.Ok
