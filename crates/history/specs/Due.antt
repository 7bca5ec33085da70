-- The reply that is due to an event after a history: the first refusal that applies, else what the
-- event does. A history is lawful if each of its replies was due.
use Rattle.std.specs.Prelude.{ℕ, zero, suc, ◌+◌, ◌^◌, ◌≡◌, Bool, true, false, ◌==◌, ◌&&◌, ◌||◌, not, nat_le, nat_lt, List, [], ◌∷◌, length, Option, Some, None, is_some, is_none, Result, Ok, Err, if◌then◌else◌}
use Rattle.pte.specs.declared.permission.Access.{Access}
use Rattle.pte.specs.declared.permission.Ctx.{Ctx}
use Rattle.pte.specs.declared.entry.Kind.{Kind}
use Rattle.pte.specs.declared.entry.Kind.TheVariants as kinds
use Rattle.pte.specs.Address.{is_canonical}
use Rattle.pte.specs.Entry.{kind_of}
use Rattle.walk.specs.declared.found_or_trap.Found.{Found}
use Rattle.walk.specs.declared.found_or_trap.Trap.{Trap}
use Rattle.walk.specs.declared.found_or_trap.Why.TheVariants.{NotCanonical}
use Rattle.walk.specs.Answer.{page_trap}
use Rattle.walk.specs.Pointers.{goes_on as has_next}
use Rattle.history.specs.Setup.{Setup, is_hart}
use Rattle.spaces.specs.declared.places.Place.{Place}
use Rattle.spaces.specs.declared.places.Place.TheVariants.{Space, Kernel}
use Rattle.spaces.specs.declared.wishes.Wish.{Wish}
use Rattle.spaces.specs.declared.wishes.Wish.TheVariants as wish
use Rattle.spaces.specs.declared.faults.MapFault.{MapFault}
use Rattle.spaces.specs.Layout.{root_ppn, home_of}
use Rattle.spaces.specs.Edits.{Store}
use Rattle.shoot.specs.HartSet.{contains, harts_in, harts_where, is_empty, byte_of}
use Rattle.shoot.specs.Request.{Request}
use Rattle.shoot.specs.declared.TheConstants.{MAX_TICKETS}
use Rattle.tlb.specs.declared.store.Entry.{Entry}
use Rattle.tlb.specs.Entries.{first_match}
use Rattle.tlb.specs.Answer.{answer_of}
use Rattle.history.specs.declared.event.Event.{Event}
use Rattle.history.specs.declared.event.Event.TheVariants.{Begin, Load, Map, Unmap, Protect, Flush, Switch, Fence, Post, Take, ServeFence, Ack, AckSelf, Collect, Finish, Close, Retire, Reclaim, Create}
use Rattle.history.specs.declared.event.Scope.{Scope}
use Rattle.history.specs.declared.event.Scope.TheVariants as scope
use Rattle.history.specs.declared.refusal.Refusal.{Refusal}
use Rattle.history.specs.declared.refusal.Refusal.TheVariants.{NoHart, NoSpace, NotHome, HomeNotNamed, NoTicket, NotOpen, NotNamed, AlreadyPosted, Closed, Full, Empty, Walking, NotWalking, Serving, NotServing, NotFenced, NotDone, Retiring, InUse, NotAcked, NotRetiring, NotFree, AsidInUse}
use Rattle.history.specs.declared.reply.Reply.{Reply}
use Rattle.history.specs.declared.reply.Reply.TheVariants as reply
use Rattle.history.specs.Refusal.{refusal_of}
use Rattle.history.specs.Turns.{History, with_turn}
use Rattle.history.specs.Spaces.{Status, Live, Retires, Free, status_of, is_free, is_retiring, asid_of, holder_of}
use Rattle.history.specs.Orders.{Order, order_at, open_order}
use Rattle.history.specs.Mailboxes.{waiting, is_closed}
use Rattle.history.specs.Service.{served, has_fenced}
use Rattle.history.specs.Acknowledgements.{is_posted, is_collected, outstanding}
use Rattle.history.specs.Tables.{words_of, edit_due}
use Rattle.history.specs.Harts.{Walking as Walk, space_of, walk_of, entries_of, outcome_of}

-- a refusal, and the test under which it comes
pub record Rule : Type 0 where
  pub test : Bool
  pub refusal : Refusal

abbrev pub when : Bool → Refusal → Rule
when test refusal = record { test = test; refusal = refusal }

-- the first refusal whose test holds, else the answer
abbrev pub first_of : List Rule → Reply → Reply
first_of [] answer = answer
first_of (rule ∷ rules) answer =
    if rule.test then reply.Refused rule.refusal else first_of rules answer

-- what is answered of the order that is open, if there is one
abbrev pub for_open : Option ℕ → (ℕ → Reply) → Reply
for_open None answer = reply.Refused NotOpen
for_open (Some order) answer = answer order

-- which pairs of harts, sets of harts, spaces and places exist, and which places retire
abbrev pub are_pair : Setup → ℕ → ℕ → Bool
are_pair setup a b = is_hart setup a && (is_hart setup b && not (a == b))

-- bit h of the byte stands for hart h
abbrev pub are_harts : Setup → ℕ → Bool
are_harts setup named = nat_lt named (2 ^ setup.harts)

-- the number is that of a space
abbrev pub is_number : Setup → ℕ → Bool
is_number setup s = nat_lt s (length setup.asids)

-- a space of the setup that is not free; a place and a scope exist if their space is such a one
abbrev pub is_space : Setup → History → ℕ → Bool
is_space setup history s = is_number setup s && not (is_free (status_of history s))

abbrev pub is_place : Setup → History → Place → Bool
is_place setup history (Space s) = is_space setup history s
is_place setup history Kernel = true

abbrev pub is_scope : Setup → History → Scope → Bool
is_scope setup history (scope.Space s) = is_space setup history s
is_scope setup history scope.All = true

-- the space of a place or of a scope is retiring
abbrev pub retires : History → Place → Bool
retires history (Space s) = is_retiring (status_of history s)
retires history Kernel = false

abbrev pub scope_retires : History → Scope → Bool
scope_retires history (scope.Space s) = is_retiring (status_of history s)
scope_retires history scope.All = false

-- Begin: the TLB answers, or a walk begins
abbrev pub access_reply : Result ℕ Trap → Reply
access_reply (Ok pa) = reply.Hit pa
access_reply (Err trap) = reply.Trap trap

abbrev pub match_reply : ℕ → Access → Ctx → Option Entry → Reply
match_reply va access ctx None = reply.More
match_reply va access ctx (Some entry) = access_reply (answer_of entry va access ctx)

abbrev pub begin_reply : Setup → History → ℕ → ℕ → Access → Ctx → Reply
begin_reply setup history hart va access ctx =
    if is_canonical setup.layout.scheme va
    then match_reply va access ctx
    (first_match (entries_of setup history hart) (asid_of setup history (space_of history hart)) va)
    else reply.Trap (page_trap access NotCanonical)

-- Load: a pointer above the lowest level leads at the level that the walk has come to, or it ends
-- with the outcome in the current words
abbrev pub goes_on : Setup → History → ℕ → Walk → Bool
goes_on setup history hart walk =
    has_next setup.layout.scheme (words_of setup history)
    (root_ppn setup.layout (space_of history hart)) walk.va walk.loads

abbrev pub end_reply : Result Found Trap → Reply
end_reply (Ok found) = reply.Filled found.pa
end_reply (Err trap) = reply.Trap trap

abbrev pub load_reply : Setup → History → ℕ → Option Walk → Reply
load_reply setup history hart None = reply.Refused NotWalking
load_reply setup history hart (Some walk) =
    if goes_on setup history hart walk then reply.More
    else end_reply (outcome_of setup history (space_of history hart) walk)

-- Map: the one store that is due, a pointer to a new table or the leaf
abbrev pub stored_reply : Kind → Reply
stored_reply (kinds.Table ppn global) = reply.Table ppn
stored_reply kinds.Invalid = reply.Leaf
stored_reply kinds.Reserved = reply.Leaf
stored_reply (kinds.Leaf ppn flags) = reply.Leaf

abbrev pub map_reply : Result Store MapFault → Reply
map_reply (Ok store) = stored_reply (kind_of store.word)
map_reply (Err fault) = reply.Refused (refusal_of fault)

-- the store that is due for an edit of the hart, in the current tables
abbrev pub edit_at : Setup → History → ℕ → Wish → Result Store MapFault
edit_at setup history hart w = edit_due setup (words_of setup history) (holder_of history) hart w

-- an opening takes the least number that is not open
abbrev pub least_free : History → ℕ → ℕ → ℕ → Option ℕ
least_free history hart zero from = None
least_free history hart (suc n) from =
    if is_none (open_order history hart from) then Some from
    else least_free history hart n (from + 1)

abbrev pub opened_reply : Option ℕ → Reply
opened_reply None = reply.Refused NoTicket
opened_reply (Some ticket) = reply.Opened ticket

abbrev pub open_reply : History → ℕ → ℕ → Reply
open_reply history hart named =
    first_of (when (not (contains (harts_in named) hart)) HomeNotNamed ∷ [])
    (opened_reply (least_free history hart MAX_TICKETS 0))

-- Unmap and Protect: the store, and a ticket
abbrev pub edit_reply : Result Store MapFault → Reply → Reply
edit_reply (Ok store) opening = opening
edit_reply (Err fault) opening = reply.Refused (refusal_of fault)

-- the order names the hart
abbrev pub names : Option Order → ℕ → Bool
names None hart = false
names (Some order) hart = contains order.named hart

-- Take: the first request that waits
abbrev pub next_reply : List Request → Reply
next_reply [] = reply.Refused Empty
next_reply (request ∷ rest) = reply.Taken request

-- AckSelf and Collect: which named harts are not collected once the event is done
abbrev pub left_after : Setup → History → Event → ℕ → List Bool
left_after setup history event order =
    harts_where (λ hart. names (order_at setup history order) hart
    && not (is_collected setup (with_turn event reply.Done history) order hart))

abbrev pub left_reply : List Bool → Reply
left_reply left = if is_empty left then reply.Done else reply.Waiting (byte_of left)

abbrev pub progress_reply : Setup → History → Event → ℕ → Reply
progress_reply setup history event order = left_reply (left_after setup history event order)

-- Finish: each named hart is collected
abbrev pub is_done : Setup → History → ℕ → Bool
is_done setup history order =
    is_empty (harts_where (λ hart. names (order_at setup history order) hart
    && not (is_collected setup history order hart)))

-- Retire: some hart is in the space
abbrev pub is_in_use : Setup → History → ℕ → Bool
is_in_use setup history space =
    not (is_empty (harts_where (λ hart. is_hart setup hart && (space_of history hart == space))))

-- Reclaim: each hart is collected for the retirement
abbrev pub reclaim_reply : Setup → History → Status → Reply
reclaim_reply setup history Live = reply.Refused NotRetiring
reclaim_reply setup history (Retires order) =
    first_of (when (not (is_done setup history order)) NotAcked ∷ []) reply.Ok
reclaim_reply setup history Free = reply.Refused NoSpace

-- Create: one of the first n spaces is live or retiring and has the ASID
abbrev pub is_asid_of : Setup → History → ℕ → ℕ → Bool
is_asid_of setup history asid zero = false
is_asid_of setup history asid (suc n) =
    (not (is_free (status_of history n)) && (asid_of setup history n == asid))
    || is_asid_of setup history asid n

-- the reply that is due: the first refusal of the event that applies, in this order, else what the
-- event does
abbrev pub due : Setup → History → Event → Reply
due setup history (Begin hart va access ctx) =
    first_of (
    when (not (is_hart setup hart)) NoHart
    ∷ when (is_some (walk_of history hart)) Walking
    ∷ when (is_some (served setup history hart)) Serving ∷ [])
    (begin_reply setup history hart va access ctx)
due setup history (Load hart) =
    first_of (when (not (is_hart setup hart)) NoHart ∷ [])
    (load_reply setup history hart (walk_of history hart))
due setup history (Map hart place page ppn flags) =
    first_of (
    when (not (is_hart setup hart)) NoHart
    ∷ when (not (is_place setup history place)) NoSpace
    ∷ when (retires history place) Retiring ∷ [])
    (map_reply (edit_at setup history hart (wish.Map place page ppn flags)))
due setup history (Unmap hart place page named) =
    first_of (
    when (not (is_hart setup hart && are_harts setup named)) NoHart
    ∷ when (not (is_place setup history place)) NoSpace
    ∷ when (retires history place) Retiring ∷ [])
    (edit_reply (edit_at setup history hart (wish.Unmap place page))
    (open_reply history hart named))
due setup history (Protect hart place page flags named) =
    first_of (
    when (not (is_hart setup hart && are_harts setup named)) NoHart
    ∷ when (not (is_place setup history place)) NoSpace
    ∷ when (retires history place) Retiring ∷ [])
    (edit_reply (edit_at setup history hart (wish.Protect place page flags))
    (open_reply history hart named))
due setup history (Flush hart scope named) =
    first_of (
    when (not (is_hart setup hart && are_harts setup named)) NoHart
    ∷ when (not (is_scope setup history scope)) NoSpace
    ∷ when (scope_retires history scope) Retiring ∷ [])
    (open_reply history hart named)
due setup history (Switch hart space) =
    first_of (
    when (not (is_hart setup hart)) NoHart
    ∷ when (not (is_space setup history space)) NoSpace
    ∷ when (is_retiring (status_of history space)) Retiring
    ∷ when (is_some (walk_of history hart)) Walking ∷ [])
    reply.Ok
due setup history (Fence hart rs1 rs2) =
    first_of (
    when (not (is_hart setup hart)) NoHart
    ∷ when (is_some (walk_of history hart)) Walking ∷ [])
    reply.Ok
due setup history (Post hart ticket to) =
    first_of (when (not (are_pair setup hart to)) NoHart ∷ [])
    (for_open (open_order history hart ticket) (λ order.
    first_of (
    when (not (names (order_at setup history order) to)) NotNamed
    ∷ when (is_posted history order to) AlreadyPosted
    ∷ when (is_closed history hart to) Closed
    ∷ when (nat_le setup.capacity (outstanding setup history hart to)) Full ∷ [])
    reply.Ok))
due setup history (Take hart from) =
    first_of (
    when (not (are_pair setup hart from)) NoHart
    ∷ when (is_some (walk_of history hart)) Walking
    ∷ when (is_some (served setup history hart)) Serving ∷ [])
    (next_reply (waiting setup history from hart))
due setup history (ServeFence hart) =
    first_of (
    when (not (is_hart setup hart)) NoHart
    ∷ when (is_some (walk_of history hart)) Walking
    ∷ when (is_none (served setup history hart)) NotServing ∷ [])
    reply.Ok
due setup history (Ack hart) =
    first_of (
    when (not (is_hart setup hart)) NoHart
    ∷ when (is_none (served setup history hart)) NotServing
    ∷ when (not (has_fenced history hart)) NotFenced ∷ [])
    reply.Ok
due setup history (AckSelf hart ticket) =
    first_of (when (not (is_hart setup hart)) NoHart ∷ [])
    (for_open (open_order history hart ticket) (λ order.
    first_of (when (is_some (walk_of history hart)) Walking ∷ [])
    (progress_reply setup history (AckSelf hart ticket) order)))
due setup history (Collect hart ticket from) =
    first_of (when (not (are_pair setup hart from)) NoHart ∷ [])
    (for_open (open_order history hart ticket) (λ order.
    first_of (when (not (names (order_at setup history order) from)) NotNamed ∷ [])
    (progress_reply setup history (Collect hart ticket from) order)))
due setup history (Finish hart ticket) =
    first_of (when (not (is_hart setup hart)) NoHart ∷ [])
    (for_open (open_order history hart ticket) (λ order.
    first_of (when (not (is_done setup history order)) NotDone ∷ []) reply.Ok))
due setup history (Close hart to) =
    first_of (
    when (not (are_pair setup hart to)) NoHart
    ∷ when (is_closed history hart to) Closed ∷ [])
    reply.Ok
due setup history (Retire hart space) =
    first_of (
    when (not (is_hart setup hart)) NoHart
    ∷ when (not (is_space setup history space)) NoSpace
    ∷ when (not (hart == home_of setup.layout (Space space))) NotHome
    ∷ when (is_retiring (status_of history space)) Retiring
    ∷ when (is_in_use setup history space) InUse ∷ [])
    (opened_reply (least_free history hart MAX_TICKETS 0))
due setup history (Reclaim hart space) =
    first_of (
    when (not (is_hart setup hart)) NoHart
    ∷ when (not (is_space setup history space)) NoSpace
    ∷ when (not (hart == home_of setup.layout (Space space))) NotHome ∷ [])
    (reclaim_reply setup history (status_of history space))
due setup history (Create hart space asid) =
    first_of (
    when (not (is_hart setup hart)) NoHart
    ∷ when (not (is_number setup space)) NoSpace
    ∷ when (not (hart == home_of setup.layout (Space space))) NotHome
    ∷ when (not (is_free (status_of history space))) NotFree
    ∷ when (is_asid_of setup history asid (length setup.asids)) AsidInUse ∷ [])
    reply.Ok

-- each reply was due after the turns before it
abbrev pub Lawful : Setup → History → Type 0
Lawful setup [] = Unit {0}
Lawful setup (turn ∷ history) = Lawful setup history × (turn.reply ≡ due setup history turn.event)
