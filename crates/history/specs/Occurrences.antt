-- When something happened: facts about one turn of a history and the turns before it, in plain
-- words. The laws of src/occurrences.rt say that what a history leaves is read off such turns.
use Rattle.pte.specs.declared.scheme.Scheme.{Scheme}
use Rattle.std.specs.Prelude.{ℕ, suc, ◌-◌, ◌<◌, ◌≡◌, ◌⊎◌, Bool, true, false, ◌==◌, ◌&&◌, ◌∷◌, ◌++◌, length, slice_get, IsSomeAnd, Option, Some, None}
use Rattle.pte.specs.Address.{Span, top_level, vpn_of}
use Rattle.pte.specs.declared.flags.PteFlags.{PteFlags}
use Rattle.walk.specs.declared.found_or_trap.Trap.{Trap}
use Rattle.walk.specs.Leads.{Tables, Leads, word_at}
use Rattle.spaces.specs.declared.places.Place.{Place}
use Rattle.spaces.specs.declared.places.Place.TheVariants.{Space}
use Rattle.spaces.specs.Edits.{path_of}
use Rattle.spaces.specs.Holders.{is_word_of, zero_word}
use Rattle.spaces.specs.declared.wishes.Wish.{Wish}
use Rattle.spaces.specs.declared.wishes.Wish.TheVariants as wish
use Rattle.shoot.specs.Request.{Request}
use Rattle.shoot.specs.declared.TheConstants.{MAX_TICKETS}
use Rattle.tlb.specs.Service.{overlaps}
use Rattle.history.specs.Setup.{Setup}
use Rattle.history.specs.declared.event.Event.{Event}
use Rattle.history.specs.declared.event.Event.TheVariants.{Begin, Load, Map, Unmap, Protect, Flush, Switch, Post, Take, ServeFence, Ack, AckSelf, Collect, Finish, Close, Retire, Reclaim, Create}
use Rattle.history.specs.declared.reply.Reply.{Reply}
use Rattle.history.specs.declared.reply.Reply.TheVariants as reply
use Rattle.history.specs.Turns.{Turn, History, is_more}
use Rattle.history.specs.Spaces.{asid_in, holder_of}
use Rattle.history.specs.Orders.{Order, open_order, opened_order, opener_of, order_at, what_of}
use Rattle.history.specs.Mailboxes.{Sent, posts, taken}
use Rattle.history.specs.Service.{served}
use Rattle.history.specs.Tables.{Written, words_of, written}
use Rattle.history.specs.Harts.{Walking}
use Rattle.history.specs.Acknowledgements.{is_acked, count_where}
use Rattle.history.specs.Due.{due}
use Rattle.history.specs.Staleness.{IsChange}

-- at some turn of the history it happened, as the turn and the turns before it say
pub record Sometime (Happens : Turn → History → Type 0) (history : History) : Type 0 where
  pub later : History
  pub turn : Turn
  pub earlier : History
  pub split : history ≡ later ++ turn ∷ earlier
  pub so : Happens turn earlier

-- at some turn it happened, and at no later turn it ended
pub record Since (Happens Ends : Turn → History → Type 0) (history : History) : Type 0 where
  pub later : History
  pub turn : Turn
  pub earlier : History
  pub split : history ≡ later ++ turn ∷ earlier
  pub so : Happens turn earlier
  pub none_since : (newer : History) (next : Turn) (between : History)
      → later ≡ newer ++ next ∷ between → ¬ Ends next (between ++ turn ∷ earlier)

-- a Post to the hart was accepted of the ticket under which the order was open
pub record IsPost (number hart : ℕ) (turn : Turn) (before : History) : Type 0 where
  pub sender : ℕ
  pub ticket : ℕ
  pub event : turn.event ≡ Post sender ticket hart
  pub accepted : turn.reply ≡ reply.Ok
  pub order : open_order before sender ticket ≡ Some number

-- a reply that reports a ticket's progress: the event was accepted
abbrev pub IsProgress : Reply → Type 0
IsProgress answer = (answer ≡ reply.Done) ⊎ ((left : ℕ) × (answer ≡ reply.Waiting left))

-- an Ack by the hart was accepted while it served the order
pub record IsAck (setup : Setup) (number hart : ℕ) (turn : Turn) (before : History) : Type 0 where
  pub sent : Sent
  pub event : turn.event ≡ Ack hart
  pub accepted : turn.reply ≡ reply.Ok
  pub serving : served setup before hart ≡ Some sent
  pub order : sent.order ≡ number

-- an AckSelf by the hart was accepted of its own ticket, under which the order was open
pub record IsAckSelf (number hart : ℕ) (turn : Turn) (before : History) : Type 0 where
  pub ticket : ℕ
  pub event : turn.event ≡ AckSelf hart ticket
  pub accepted : IsProgress turn.reply
  pub order : open_order before hart ticket ≡ Some number

abbrev pub Acknowledges : Setup → ℕ → ℕ → Turn → History → Type 0
Acknowledges setup order hart turn before =
    IsAck setup order hart turn before ⊎ IsAckSelf order hart turn before

-- a Collect from the hart was accepted of the ticket under which the order was open, once the hart
-- had acknowledged it
pub record IsCollect (setup : Setup) (number hart : ℕ) (turn : Turn)
    (before : History) : Type 0 where
  pub sender : ℕ
  pub ticket : ℕ
  pub event : turn.event ≡ Collect sender ticket hart
  pub accepted : IsProgress turn.reply
  pub order : open_order before sender ticket ≡ Some number
  pub acked : is_acked setup before number hart ≡ true

abbrev pub Collects : Setup → ℕ → ℕ → Turn → History → Type 0
Collects setup order hart turn before =
    IsCollect setup order hart turn before ⊎ IsAckSelf order hart turn before

-- the turns before have this order, and it followed an Unmap or a Protect of a page of the ASID
-- that overlaps this page
pub record IsOfPage (setup : Setup) (number : ℕ) (of : Option ℕ) (page : Span)
    (before : History) : Type 0 where
  pub order : Order
  pub changed : Span
  pub is : order_at setup before number ≡ Some order
  pub cause : IsChange order.cause of changed
  pub over : overlaps changed page ≡ true

-- after the order a Map over its page stored its leaf
pub record IsMapOver (setup : Setup) (order : ℕ) (turn : Turn) (before : History) : Type 0 where
  pub hart : ℕ
  pub place : Place
  pub page : Span
  pub ppn : ℕ
  pub flags : PteFlags
  pub event : turn.event ≡ Map hart place page ppn flags
  pub stored : turn.reply ≡ reply.Leaf
  pub of_page : IsOfPage setup order (asid_in setup before place) page before

-- after the order an Unmap over its page was accepted
pub record IsUnmapOver (setup : Setup) (order : ℕ) (turn : Turn) (before : History) : Type 0 where
  pub hart : ℕ
  pub place : Place
  pub page : Span
  pub named : ℕ
  pub ticket : ℕ
  pub event : turn.event ≡ Unmap hart place page named
  pub accepted : turn.reply ≡ reply.Opened ticket
  pub of_page : IsOfPage setup order (asid_in setup before place) page before

-- after the order a Protect over its page was accepted
pub record IsProtectOver (setup : Setup) (order : ℕ) (turn : Turn) (before : History) : Type 0 where
  pub hart : ℕ
  pub place : Place
  pub page : Span
  pub flags : PteFlags
  pub named : ℕ
  pub ticket : ℕ
  pub event : turn.event ≡ Protect hart place page flags named
  pub accepted : turn.reply ≡ reply.Opened ticket
  pub of_page : IsOfPage setup order (asid_in setup before place) page before

abbrev pub Supersedes : Setup → ℕ → Turn → History → Type 0
Supersedes setup order turn before =
    IsUnmapOver setup order turn before ⊎ IsProtectOver setup order turn before

-- a Close of the pair was accepted
pub record IsClose (sender receiver : ℕ) (turn : Turn) (before : History) : Type 0 where
  pub event : turn.event ≡ Close sender receiver
  pub accepted : turn.reply ≡ reply.Ok

-- a Post of the pair was accepted though a Close of it had been
pub record IsPostAfterClose (sender receiver : ℕ) (turn : Turn) (before : History) : Type 0 where
  pub ticket : ℕ
  pub event : turn.event ≡ Post sender ticket receiver
  pub accepted : turn.reply ≡ reply.Ok
  pub closed : Sometime (IsClose sender receiver) before

abbrev pub NoneAfterClose : History → ℕ → ℕ → Type 0
NoneAfterClose history sender receiver = ¬ Sometime (IsPostAfterClose sender receiver) history

-- the turn with this many turns before it opened this order
pub record OpensAt (setup : Setup) (number : ℕ) (order : Order) (turn : Turn)
    (before : History) : Type 0 where
  pub place : length before ≡ number
  pub opened : opened_order setup turn.event turn.reply before ≡ Some order

-- an Unmap, a Protect, a Flush or a Retire by the hart
abbrev pub IsOrderBy : ℕ → Event → Type 0
IsOrderBy sender event = IsSomeAnd (opener_of event) (λ hart. hart ≡ sender)

-- the turn opened the sender's ticket
pub record Opens (sender ticket : ℕ) (turn : Turn) (before : History) : Type 0 where
  pub by_sender : IsOrderBy sender turn.event
  pub answer : turn.reply ≡ reply.Opened ticket

-- a Finish of the sender's ticket was accepted
pub record IsFinish (sender ticket : ℕ) (turn : Turn) (before : History) : Type 0 where
  pub event : turn.event ≡ Finish sender ticket
  pub accepted : turn.reply ≡ reply.Ok

-- the turn with this many turns before it opened the sender's ticket
abbrev pub OpensOrder : ℕ → ℕ → ℕ → Turn → History → Type 0
OpensOrder sender ticket order turn before =
    Opens sender ticket turn before × (length before ≡ order)

abbrev pub OpensOrFinishes : ℕ → ℕ → Turn → History → Type 0
OpensOrFinishes sender ticket turn before =
    Opens sender ticket turn before ⊎ IsFinish sender ticket turn before

-- a Post of the pair was accepted as the one after n others, of this order and with this request
pub record IsNthPost (setup : Setup) (sender receiver n : ℕ) (sent : Sent) (turn : Turn)
    (before : History) : Type 0 where
  pub ticket : ℕ
  pub order : ℕ
  pub event : turn.event ≡ Post sender ticket receiver
  pub accepted : turn.reply ≡ reply.Ok
  pub is_open : open_order before sender ticket ≡ Some order
  pub count : length (posts setup before sender receiver) ≡ n
  pub is : sent ≡ record {
    sender = sender;
    order = order;
    request = record { ticket = ticket; what = what_of setup before (Some order) };
  }

-- a Take of the pair answered this request, after n others
pub record IsNthTake (sender receiver n : ℕ) (request : Request) (turn : Turn)
    (before : History) : Type 0 where
  pub event : turn.event ≡ Take receiver sender
  pub answer : turn.reply ≡ reply.Taken request
  pub count : length (taken before sender receiver) ≡ n

-- at the level that the walk has come to, which is not the lowest, the address leads to a pointer:
-- the next table leads one level below
abbrev pub LeadsOn : Scheme → Tables → ℕ → Walking → Type 0
LeadsOn scheme words root walk =
    (walk.loads < top_level scheme)
    × ((table : ℕ) × Leads scheme words root walk.va (top_level scheme - suc walk.loads) table
    (word_at words walk.va (top_level scheme - suc walk.loads) table))

-- it happened, and at no later turn it ended; or it never ended, and this is so at the opening
abbrev pub SinceOr : (Turn → History → Type 0) → (Turn → History → Type 0) → Type 0 → History
    → Type 0
SinceOr Happens Ends opening history =
    Since Happens Ends history ⊎ ((¬ Sometime Ends history) × opening)

-- a Switch of the hart to the space was accepted
pub record IsSwitch (hart space : ℕ) (turn : Turn) (before : History) : Type 0 where
  pub event : turn.event ≡ Switch hart space
  pub accepted : turn.reply ≡ reply.Ok

abbrev pub Switches : ℕ → Turn → History → Type 0
Switches hart turn before = (space : ℕ) × IsSwitch hart space turn before

-- the hart took a request
pub record IsTake (hart : ℕ) (turn : Turn) (before : History) : Type 0 where
  pub from : ℕ
  pub request : Request
  pub event : turn.event ≡ Take hart from
  pub answer : turn.reply ≡ reply.Taken request

-- the hart took a request, and this is the mailbox's accepted post of that place: the n-th, if n
-- were taken before
pub record TakesPost (setup : Setup) (hart : ℕ) (sent : Sent) (turn : Turn)
    (before : History) : Type 0 where
  pub from : ℕ
  pub request : Request
  pub event : turn.event ≡ Take hart from
  pub answer : turn.reply ≡ reply.Taken request
  pub is : slice_get (posts setup before from hart) (length (taken before from hart)) ≡ Some sent

-- an Ack by the hart was accepted
pub record IsAckBy (hart : ℕ) (turn : Turn) (before : History) : Type 0 where
  pub event : turn.event ≡ Ack hart
  pub accepted : turn.reply ≡ reply.Ok

abbrev pub TakesOrAcks : ℕ → Turn → History → Type 0
TakesOrAcks hart turn before = IsTake hart turn before ⊎ IsAckBy hart turn before

-- a ServeFence by the hart was accepted
pub record IsServeFence (hart : ℕ) (turn : Turn) (before : History) : Type 0 where
  pub event : turn.event ≡ ServeFence hart
  pub accepted : turn.reply ≡ reply.Ok

-- the event asked for this edit by the hart, and it was accepted
abbrev pub IsEdit : ℕ → Wish → Event → Reply → Type 0
IsEdit hart w (Map by place page ppn flags) answer =
    (by ≡ hart) × (w ≡ wish.Map place page ppn flags)
    × ((answer ≡ reply.Leaf) ⊎ ((table : ℕ) × (answer ≡ reply.Table table)))
IsEdit hart w (Unmap by place page named) answer =
    (by ≡ hart) × (w ≡ wish.Unmap place page) × ((ticket : ℕ) × (answer ≡ reply.Opened ticket))
IsEdit hart w (Protect by place page flags named) answer =
    (by ≡ hart) × (w ≡ wish.Protect place page flags)
    × ((ticket : ℕ) × (answer ≡ reply.Opened ticket))
IsEdit hart w _ answer = ⊥

-- an accepted edit stored the word at this index of the table at this PPN, where the path of its
-- page ended
pub record IsStore (setup : Setup) (ppn index word : ℕ) (turn : Turn)
    (before : History) : Type 0 where
  pub new : Written
  pub is : written setup turn.event turn.reply (words_of setup before) ≡ Some new
  pub same_table : (path_of setup.layout (words_of setup before) new.place new.page).table ≡ ppn
  pub same_index :
      vpn_of new.page.base (path_of setup.layout (words_of setup before) new.place new.page).level
      ≡ index
  pub same_word : new.word ≡ word

-- an accepted Reclaim emptied the word, which was there and its space's own
pub record Empties (setup : Setup) (ppn index : ℕ) (turn : Turn) (before : History) : Type 0 where
  pub hart : ℕ
  pub space : ℕ
  pub event : turn.event ≡ Reclaim hart space
  pub accepted : turn.reply ≡ reply.Ok
  pub own : is_word_of setup.layout (holder_of before) space ppn index ≡ true

-- a turn put the word there
abbrev pub Puts : Setup → ℕ → ℕ → ℕ → Turn → History → Type 0
Puts setup ppn index word turn before =
    IsStore setup ppn index word turn before
    ⊎ (Empties setup ppn index turn before
    × (zero_word (words_of setup before ppn index) ≡ Some word))

abbrev pub Stores : Setup → ℕ → ℕ → Turn → History → Type 0
Stores setup ppn index turn before =
    ((word : ℕ) × IsStore setup ppn index word turn before) ⊎ Empties setup ppn index turn before

-- a walk for this access began
pub record IsBegin (hart : ℕ) (walk : Walking) (turn : Turn) (before : History) : Type 0 where
  pub event : turn.event ≡ Begin hart walk.va walk.access walk.ctx
  pub begun : turn.reply ≡ reply.More

-- a Load ended a walk
pub record IsLastLoad (hart : ℕ) (turn : Turn) (before : History) : Type 0 where
  pub event : turn.event ≡ Load hart
  pub ended : ((pa : ℕ) × (turn.reply ≡ reply.Filled pa))
      ⊎ ((trap : Trap) × (turn.reply ≡ reply.Trap trap))

abbrev pub BeginsOrEnds : ℕ → Turn → History → Type 0
BeginsOrEnds hart turn before =
    ((walk : Walking) × IsBegin hart walk turn before) ⊎ IsLastLoad hart turn before

-- a Load of the hart after which its walk goes on
abbrev pub is_load_by : ℕ → Event → Bool
is_load_by hart (Load by) = by == hart
is_load_by hart _ = false

abbrev pub is_further_load : ℕ → Turn → Bool
is_further_load hart turn = is_more turn.reply && is_load_by hart turn.event

-- the walk began, and since then none began or ended; its loads are those since then after which it
-- went on
pub record IsInWalk (hart : ℕ) (walk : Walking) (history : History) : Type 0 where
  pub since : Since (IsBegin hart walk) (BeginsOrEnds hart) history
  pub loads : walk.loads ≡ count_where (is_further_load hart) since.later

-- a Map for the place stored a pointer to a new table at this PPN
pub record IsNewTable (ppn : ℕ) (place : Place) (turn : Turn) (before : History) : Type 0 where
  pub hart : ℕ
  pub page : Span
  pub to : ℕ
  pub flags : PteFlags
  pub event : turn.event ≡ Map hart place page to flags
  pub answer : turn.reply ≡ reply.Table ppn

-- the space that the frame was in use for was reclaimed
pub record IsGivenBack (ppn : ℕ) (turn : Turn) (before : History) : Type 0 where
  pub hart : ℕ
  pub space : ℕ
  pub event : turn.event ≡ Reclaim hart space
  pub accepted : turn.reply ≡ reply.Ok
  pub was : holder_of before ppn ≡ Some (Space space)

abbrev pub TakesOrGivesBack : ℕ → Turn → History → Type 0
TakesOrGivesBack ppn turn before =
    ((place : Place) × IsNewTable ppn place turn before) ⊎ IsGivenBack ppn turn before

-- the number is the least of the hart's tickets that is not open
pub record IsLeastFree (history : History) (hart ticket : ℕ) : Type 0 where
  pub below : ticket < MAX_TICKETS
  pub free : open_order history hart ticket ≡ None
  pub least : (n : ℕ) → n < ticket → ¬ (open_order history hart n ≡ None)

-- the reply of each turn was due after the turns before it
abbrev pub EachIsDue : Setup → History → Type 0
EachIsDue setup history =
    (later : History) (turn : Turn) (earlier : History) → history ≡ later ++ turn ∷ earlier
    → turn.reply ≡ due setup earlier turn.event

-- a Retire of the space was accepted, with this many turns before it
pub record IsRetire (space order : ℕ) (turn : Turn) (before : History) : Type 0 where
  pub hart : ℕ
  pub ticket : ℕ
  pub event : turn.event ≡ Retire hart space
  pub accepted : turn.reply ≡ reply.Opened ticket
  pub place : length before ≡ order

-- a Reclaim of the space was accepted
pub record IsReclaim (space : ℕ) (turn : Turn) (before : History) : Type 0 where
  pub hart : ℕ
  pub event : turn.event ≡ Reclaim hart space
  pub accepted : turn.reply ≡ reply.Ok

-- a Create of the space with this ASID was accepted
pub record IsCreate (space asid : ℕ) (turn : Turn) (before : History) : Type 0 where
  pub hart : ℕ
  pub event : turn.event ≡ Create hart space asid
  pub accepted : turn.reply ≡ reply.Ok

abbrev pub Creates : ℕ → Turn → History → Type 0
Creates space turn before = (asid : ℕ) × IsCreate space asid turn before

-- a turn that decides whether the space is live, retiring or free
abbrev pub Decides : ℕ → Turn → History → Type 0
Decides space turn before =
    ((order : ℕ) × IsRetire space order turn before)
    ⊎ (IsReclaim space turn before ⊎ Creates space turn before)
