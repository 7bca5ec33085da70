-- What contracts see of the two ends of a ring: the sender's, which posts requests, and the
-- receiver's, which takes them.
use Rattle.std.specs.Prelude.{ℕ, ◌+◌, ◌-◌, Bool, true, false, List, [], ◌∷◌, ◌++◌, length, min, ◌^◌, Option}
use Rattle.std.specs.Global.{Global}
use denote.RawPtr.{Ptr}
use Rattle.rtrb.specs.Shared.{Names}
use Rattle.shoot.specs.Mailbox.{fault_of}
use Rattle.shoot.specs.Request.{Request}
use Rattle.shoot.specs.declared.mailbox.PostFault.{PostFault}

-- which ring an end is of: where its words and its places lie, their names in proofs, and where
-- their memory is from
abbrev pub Ring : Type 0
Ring = Ptr × Ptr × Names × Global

-- The sender's end: its ring; the requests that were accepted, oldest first; how many free places
-- of the ring it knows of; how many requests were accepted whose acknowledgement is not collected
-- yet; whether later posts are refused; and the bound on the outstanding ones.
pub record OutboxState : Type 0 where
  pub ring : Ring
  pub accepted : List Request
  pub room : ℕ
  pub outstanding : ℕ
  pub closed : Bool
  pub capacity : ℕ

-- The receiver's end: its ring; the requests that were taken, oldest first; those that it knows to
-- wait; and how many can wait.
pub record InboxState : Type 0 where
  pub ring : Ring
  pub taken : List Request
  pub known : List Request
  pub capacity : ℕ

-- how many they are, as far as 64 bits count
abbrev pub count_of : List Request → ℕ
count_of requests = min (length requests) (2 ^ 64 - 1)

abbrev pub new_outbox : Ring → ℕ → OutboxState
new_outbox ring capacity =
    record {
      ring = ring;
      accepted = [];
      room = capacity;
      outstanding = 0;
      closed = false;
      capacity = capacity;
    }

abbrev pub new_inbox : Ring → ℕ → InboxState
new_inbox ring capacity = record { ring = ring; taken = []; known = []; capacity = capacity }

-- why a post is refused before it reaches the ring
abbrev pub post_fault : OutboxState → Option PostFault
post_fault outbox = fault_of outbox.closed outbox.outstanding outbox.capacity

-- the sender's end with one more request, which is outstanding; it knows of `room` free places
abbrev pub with_accepted : OutboxState → Request → ℕ → OutboxState
with_accepted outbox request room =
    record outbox {
      accepted = outbox.accepted ++ request ∷ [];
      outstanding = outbox.outstanding + 1;
      room = room;
    }

-- the acknowledgement of an outstanding request was collected
abbrev pub after_release : OutboxState → OutboxState
after_release outbox = record outbox { outstanding = outbox.outstanding - 1 }

abbrev pub after_close : OutboxState → OutboxState
after_close outbox = record outbox { closed = true }

-- the receiver's end with one more request taken, and which knows these to wait
abbrev pub with_taken : InboxState → Request → List Request → InboxState
with_taken inbox request known = record inbox { taken = inbox.taken ++ request ∷ []; known = known }
