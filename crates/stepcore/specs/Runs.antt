-- What a run of events appends to a history, and what a machine shows of its mailboxes and TLBs.
use Rattle.std.specs.Prelude.{ℕ, ◌≡◌, ◌≢◌, ◌+◌, ◌<◌, List, [], ◌∷◌, drop, take, length, None, Some, option_map, slice_get, slice_index, unwrap_or}
use Rattle.walk.specs.Stage.{Stage}
use Rattle.spaces.specs.Layout.{spare_ppn}
use Rattle.tlb.specs.declared.store.Entry.{Entry}
use Rattle.shoot.specs.Mailbox.{MailboxState}
use Rattle.shoot.specs.Request.{Request}
use Rattle.history.specs.declared.event.Event.{Event}
use Rattle.history.specs.declared.reply.Reply.{Reply}
use Rattle.history.specs.Setup.{Setup}
use Rattle.history.specs.Turns.{History}
use Rattle.history.specs.Mailboxes.{KeepsOrder}
use Rattle.history.specs.Occurrences.{NoneAfterClose}
use Rattle.history.specs.Spaces.{Live, status_of, holder_of}
use Rattle.history.specs.Completion.{ClearOnceDone}
use Rattle.history.specs.Staleness.{Clear, Coherent, HoldsUsedAsids}
use Rattle.history.specs.Runs.{with_turn, due_replies}
use Rattle.stepcore.specs.State.{State, HartState, hart_at, mailbox_index, words_in}

-- the history once these events were answered so, as far as there are replies
abbrev pub with_turns : List Event → List Reply → History → History
with_turns [] replies history = history
with_turns (event ∷ events) [] history = history
with_turns (event ∷ events) (reply ∷ replies) history =
    with_turns events replies (with_turn event reply history)

-- what a call appended to a list
abbrev pub appended : {A : Type 0} → List A → List A → List A
appended old new = drop (length old) new

-- the requests that wait in the mailbox from one hart to another, and the entries of the TLB of a
-- hart
abbrev pub waiting_in : State → ℕ → ℕ → List Request
waiting_in m sender receiver =
    unwrap_or (option_map (λ (mailbox : MailboxState). mailbox.waiting)
    (slice_get m.mailboxes (mailbox_index sender receiver))) []

abbrev pub entries_in : State → ℕ → List Entry
entries_in m hart =
    unwrap_or (option_map (λ (h : HartState). h.entries) (slice_get m.harts hart)) []

-- the history after a run that appended replies
abbrev pub after_run : List Event → List Reply → List Reply → History → History
after_run events old new history = with_turns events (appended old new) history

-- these are the first of the replies that are due to the events
abbrev pub AreDue : Setup → History → List Event → List Reply → Type 0
AreDue setup history events replies =
    replies ≡ take (length replies) (due_replies setup history events)

-- each mailbox keeps its order: what was accepted is what was taken, followed by what waits in this
-- machine
abbrev pub MailboxesKeepOrder : Setup → History → State → Type 0
MailboxesKeepOrder setup history m =
    (sender receiver : ℕ) → sender < setup.harts → receiver < setup.harts
    → KeepsOrder setup history sender receiver (waiting_in m sender receiver)

-- no post is accepted after the close of its mailbox
abbrev pub NothingAfterCloses : Setup → History → Type 0
NothingAfterCloses setup history = (sender receiver : ℕ) → NoneAfterClose history sender receiver

-- no TLB of a hart that acknowledged an unmapping translates an address of its page, until the page
-- is mapped anew
abbrev pub IsClear : Setup → History → State → Type 0
IsClear setup history m =
    (order hart : ℕ) → hart < setup.harts → Clear setup history (entries_in m hart) order hart

-- no TLB of a hart that an unmapping names translates an address of its page once its sender was
-- answered Done, until the page is mapped anew
abbrev pub IsClearOnceDone : Setup → History → State → Type 0
IsClearOnceDone setup history m =
    (order hart : ℕ) → hart < setup.harts
    → ClearOnceDone setup history (entries_in m hart) order hart

-- and what such a hart holds of a page that was unmapped or protected is mapped by the words of
-- this machine's tables, until the page is unmapped or protected once more
abbrev pub IsCoherent : Setup → History → State → Type 0
IsCoherent setup history m =
    (order hart : ℕ) → hart < setup.harts
    → Coherent setup history (words_in m) (entries_in m hart) order hart

-- no TLB holds an entry, unless it is global, of an ASID that no live or retiring space has
abbrev pub TlbsHoldUsedAsids : Setup → History → State → Type 0
TlbsHoldUsedAsids setup history m =
    (hart : ℕ) → hart < setup.harts → HoldsUsedAsids setup history (entries_in m hart)

-- each hart is in a live space: so no walk is of an ASID that no live or retiring space has
abbrev pub HartsAreInLiveSpaces : Setup → History → State → Type 0
HartsAreInLiveSpaces setup history m =
    (hart : ℕ) → hart < setup.harts → status_of history (hart_at m hart).space ≡ Live

-- no walk in flight has come to a spare frame that is in use for no place
abbrev pub WalksHoldUsedFrames : Setup → History → State → Type 0
WalksHoldUsedFrames setup history m =
    (hart : ℕ) (walk : Stage) (owner n : ℕ) → hart < setup.harts → (hart_at m hart).walk ≡ Some walk
    → n < slice_index setup.layout.spares owner
    → holder_of history (spare_ppn setup.layout owner + n) ≡ None
    → walk.table ≢ spare_ppn setup.layout owner + n

-- The promises, after a history: the mailboxes' two; the two of an unmapping that was acknowledged;
-- that of any change; and what machines hold of address spaces that no space has, and of unused
-- frames.
pub record Promises (setup : Setup) (history : History) (m : State) : Type 0 where
  pub mailboxes : MailboxesKeepOrder setup history m
  pub closed : NothingAfterCloses setup history
  pub clear : IsClear setup history m
  pub done : IsClearOnceDone setup history m
  pub coherent : IsCoherent setup history m
  pub asids : TlbsHoldUsedAsids setup history m
  pub spaces : HartsAreInLiveSpaces setup history m
  pub frames : WalksHoldUsedFrames setup history m
