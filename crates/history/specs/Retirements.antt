-- What is due to a Retire, a Reclaim and a Create, what each of them leaves once it was accepted,
-- and what it does not touch. The laws of src/retirements.rt say that the definitions of Due,
-- Spaces, Orders and Tables give just this.
use Rattle.std.specs.Prelude.{ℕ, ◌≡◌, ◌≢◌, ◌<◌, true, ◌∷◌, length, Some}
use Rattle.pte.specs.declared.address.What.TheVariants.{SpaceOf}
use Rattle.spaces.specs.Layout.{home_of}
use Rattle.spaces.specs.Effects.{EmptiesWords, GivesBack}
use Rattle.spaces.specs.declared.places.Place.TheVariants.{Space}
use Rattle.shoot.specs.HartSet.{contains}
use Rattle.pte.specs.declared.TheConstants.{MAX_HARTS}
use Rattle.history.specs.Setup.{Setup}
use Rattle.history.specs.declared.event.Event.TheVariants.{Retire, Reclaim, Create}
use Rattle.history.specs.declared.reply.Reply.TheVariants as reply
use Rattle.history.specs.Turns.{Turn, History}
use Rattle.history.specs.Spaces.{Live, Retires, Free, status_of, asid_of, holder_of}
use Rattle.history.specs.Orders.{Order, Flushed, open_order, order_at}
use Rattle.history.specs.Mailboxes.{posts, taken, is_closed}
use Rattle.history.specs.Service.{served, has_fenced}
use Rattle.history.specs.Acknowledgements.{is_posted, is_acked, is_collected}
use Rattle.history.specs.Tables.{words_of}
use Rattle.history.specs.Harts.{space_of, walk_of, entries_of}
use Rattle.history.specs.Staleness.{HasAsid}
use Rattle.history.specs.Occurrences.{IsLeastFree}

-- the hart and the space exist, and the hart is the home of the space
pub record IsAtHome (setup : Setup) (hart space : ℕ) : Type 0 where
  pub hart_there : hart < setup.harts
  pub space_there : space < length setup.asids
  pub home : hart ≡ home_of setup.layout (Space space)

-- a Retire is due this ticket: the space is live, no hart is in it, and the ticket is the least
-- that is not open
pub record CanRetire (setup : Setup) (history : History) (hart space ticket : ℕ) : Type 0 where
  pub at_home : IsAtHome setup hart space
  pub live : status_of history space ≡ Live
  pub left : (other : ℕ) → other < setup.harts → space_of history other ≢ space
  pub least : IsLeastFree history hart ticket

-- each hart that the order names is collected
abbrev pub IsCollected : Setup → History → Order → ℕ → Type 0
IsCollected setup history order number =
    (hart : ℕ) → hart < MAX_HARTS → contains order.named hart ≡ true
    → is_collected setup history number hart ≡ true

-- a Reclaim is due Ok: the space is retiring, and each hart is collected for its retirement
pub record CanReclaim (setup : Setup) (history : History) (hart space : ℕ) : Type 0 where
  pub at_home : IsAtHome setup hart space
  pub place : ℕ
  pub order : Order
  pub retiring : status_of history space ≡ Retires place
  pub is : order_at setup history place ≡ Some order
  pub collected : IsCollected setup history order place

-- a Create is due Ok: the space is free, and no live or retiring space has the ASID
pub record CanCreate (setup : Setup) (history : History) (hart space asid : ℕ) : Type 0 where
  pub at_home : IsAtHome setup hart space
  pub free : status_of history space ≡ Free
  pub unused : (s : ℕ) → ¬ HasAsid setup history s asid

-- the three turns, accepted
abbrev pub retire : ℕ → ℕ → ℕ → Turn
retire hart space ticket = record { event = Retire hart space; reply = reply.Opened ticket }

abbrev pub reclaim : ℕ → ℕ → Turn
reclaim hart space = record { event = Reclaim hart space; reply = reply.Ok }

abbrev pub create : ℕ → ℕ → ℕ → Turn
create hart space asid = record { event = Create hart space asid; reply = reply.Ok }

-- no word and no frame changes
pub record KeepsTables (setup : Setup) (turn : Turn) (history : History) : Type 0 where
  pub words : (ppn i : ℕ) → words_of setup (turn ∷ history) ppn i ≡ words_of setup history ppn i
  pub holders : (ppn : ℕ) → holder_of (turn ∷ history) ppn ≡ holder_of history ppn

-- of no hart the space, the walk, the TLB or the service changes
pub record KeepsHarts (setup : Setup) (turn : Turn) (history : History) : Type 0 where
  pub spaces : (hart : ℕ) → space_of (turn ∷ history) hart ≡ space_of history hart
  pub walks : (hart : ℕ) → walk_of (turn ∷ history) hart ≡ walk_of history hart
  pub entries : (hart : ℕ) → entries_of setup (turn ∷ history) hart ≡ entries_of setup history hart
  pub services : (hart : ℕ) → served setup (turn ∷ history) hart ≡ served setup history hart
  pub fences : (hart : ℕ) → has_fenced (turn ∷ history) hart ≡ has_fenced history hart

-- no mailbox changes, nor how far any order is
pub record KeepsMailboxes (setup : Setup) (turn : Turn) (history : History) : Type 0 where
  pub posts : (sender receiver : ℕ)
      → posts setup (turn ∷ history) sender receiver ≡ posts setup history sender receiver
  pub taken : (sender receiver : ℕ)
      → taken (turn ∷ history) sender receiver ≡ taken history sender receiver
  pub closed : (sender receiver : ℕ)
      → is_closed (turn ∷ history) sender receiver ≡ is_closed history sender receiver
  pub posted : (order hart : ℕ)
      → is_posted (turn ∷ history) order hart ≡ is_posted history order hart
  pub acked : (order hart : ℕ)
      → is_acked setup (turn ∷ history) order hart ≡ is_acked setup history order hart
  pub collected : (order hart : ℕ)
      → is_collected setup (turn ∷ history) order hart ≡ is_collected setup history order hart

-- no order comes, and none is opened or finished
pub record KeepsOrders (setup : Setup) (turn : Turn) (history : History) : Type 0 where
  pub orders : (order : ℕ) → order_at setup (turn ∷ history) order ≡ order_at setup history order
  pub tickets : (s t : ℕ) → open_order (turn ∷ history) s t ≡ open_order history s t

-- of no other space the status or the ASID changes
pub record KeepsOtherSpaces (setup : Setup) (turn : Turn) (history : History)
    (space : ℕ) : Type 0 where
  pub statuses : (s : ℕ) → s ≢ space → status_of (turn ∷ history) s ≡ status_of history s
  pub asids : (s : ℕ) → s ≢ space → asid_of setup (turn ∷ history) s ≡ asid_of setup history s

-- the order of a retirement asks each hart to drop the ASID that the space has
pub record IsOrderToDrop (setup : Setup) (history : History) (hart space ticket : ℕ)
    (order : Order) : Type 0 where
  pub sender : order.sender ≡ hart
  pub number : order.ticket ≡ ticket
  pub asked : order.what ≡ SpaceOf (asid_of setup history space)
  pub cause : order.cause ≡ Flushed
  pub named : (other : ℕ) → other < MAX_HARTS
      → (contains order.named other ≡ true → other < setup.harts)
      × (other < setup.harts → contains order.named other ≡ true)

-- after a Retire the space is retiring since the order that the turn opened under the ticket
pub record AfterRetire (setup : Setup) (history : History) (hart space ticket : ℕ) : Type 0 where
  pub status : status_of (retire hart space ticket ∷ history) space ≡ Retires (length history)
  pub same_asid : asid_of setup (retire hart space ticket ∷ history) space
      ≡ asid_of setup history space
  pub order : Order
  pub is : order_at setup (retire hart space ticket ∷ history) (length history) ≡ Some order
  pub to_drop : IsOrderToDrop setup history hart space ticket order
  pub opened : open_order (retire hart space ticket ∷ history) hart ticket ≡ Some (length history)
  pub other_orders : (number : ℕ) → number ≢ length history
      → order_at setup (retire hart space ticket ∷ history) number ≡ order_at setup history number
  pub other_tickets : (s t : ℕ) → (s ≡ hart → t ≢ ticket)
      → open_order (retire hart space ticket ∷ history) s t ≡ open_order history s t
  pub other_spaces : KeepsOtherSpaces setup (retire hart space ticket) history space
  pub tables : KeepsTables setup (retire hart space ticket) history
  pub harts : KeepsHarts setup (retire hart space ticket) history
  pub mailboxes : KeepsMailboxes setup (retire hart space ticket) history

-- after a Reclaim the space is free, its words are 0 and its frames unused
pub record AfterReclaim (setup : Setup) (history : History) (hart space : ℕ) : Type 0 where
  pub status : status_of (reclaim hart space ∷ history) space ≡ Free
  pub same_asid : asid_of setup (reclaim hart space ∷ history) space ≡ asid_of setup history space
  pub words : EmptiesWords setup.layout space (holder_of history) (words_of setup history)
      (words_of setup (reclaim hart space ∷ history))
  pub holders : GivesBack space (holder_of history) (holder_of (reclaim hart space ∷ history))
  pub other_spaces : KeepsOtherSpaces setup (reclaim hart space) history space
  pub orders : KeepsOrders setup (reclaim hart space) history
  pub harts : KeepsHarts setup (reclaim hart space) history
  pub mailboxes : KeepsMailboxes setup (reclaim hart space) history

-- after a Create the space is live and has the ASID
pub record AfterCreate (setup : Setup) (history : History) (hart space asid : ℕ) : Type 0 where
  pub status : status_of (create hart space asid ∷ history) space ≡ Live
  pub given : asid_of setup (create hart space asid ∷ history) space ≡ asid
  pub other_spaces : KeepsOtherSpaces setup (create hart space asid) history space
  pub tables : KeepsTables setup (create hart space asid) history
  pub orders : KeepsOrders setup (create hart space asid) history
  pub harts : KeepsHarts setup (create hart space asid) history
  pub mailboxes : KeepsMailboxes setup (create hart space asid) history
