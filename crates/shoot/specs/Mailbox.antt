-- What a mailbox holds, what it answers to a post, and what each call leaves of it.
use Rattle.std.specs.Prelude.{ℕ, ◌+◌, ◌-◌, Bool, true, false, List, [], ◌∷◌, ◌++◌, drop, Option, Some, None, is_none, Result, Ok, Err, nat_le, nat_lt, length, slice_get, ◌≤◌, if◌then◌else◌}
use Rattle.shoot.specs.Request.{Request}
use Rattle.shoot.specs.declared.TheConstants.{MAX_CAPACITY}
use Rattle.shoot.specs.declared.mailbox.PostFault.{PostFault}
use Rattle.shoot.specs.declared.mailbox.PostFault.TheVariants.{Closed, Full}

-- The requests that wait, oldest first; how many were accepted whose acknowledgement
-- is not collected yet; whether later posts are refused; and the bound on the second.
pub record MailboxState : Type 0 where
  pub waiting : List Request
  pub outstanding : ℕ
  pub closed : Bool
  pub capacity : ℕ

-- what every mailbox keeps: what waits is outstanding, and that has a bound
pub record IsMailbox (mailbox : MailboxState) : Type 0 where
  pub waiting_counts : length mailbox.waiting ≤ mailbox.outstanding
  pub bounded : mailbox.outstanding ≤ mailbox.capacity
  pub capacity_bounded : mailbox.capacity ≤ MAX_CAPACITY

-- a new mailbox
abbrev pub empty_mailbox : ℕ → MailboxState
empty_mailbox capacity =
    record { waiting = []; outstanding = 0; closed = false; capacity = capacity }

-- why a post is refused, by whether the mailbox is closed, how many requests are outstanding, and
-- the capacity: the first that applies
abbrev pub fault_of : Bool → ℕ → ℕ → Option PostFault
fault_of closed outstanding capacity =
    if closed then Some Closed else if nat_le capacity outstanding then Some Full else None

abbrev pub post_fault : MailboxState → Option PostFault
post_fault mailbox = fault_of mailbox.closed mailbox.outstanding mailbox.capacity

-- a refused request comes back
abbrev pub answer_with : Option PostFault → Request → Result (Unit {0}) (PostFault × Request)
answer_with None request = Ok tt
answer_with (Some fault) request = Err (fault, request)

abbrev pub post_answer : MailboxState → Request → Result (Unit {0}) (PostFault × Request)
post_answer mailbox request = answer_with (post_fault mailbox) request

-- the oldest request
abbrev pub first_waiting : MailboxState → Option Request
first_waiting mailbox = slice_get mailbox.waiting 0

-- the mailbox with one more request, which is outstanding
abbrev pub with_request : MailboxState → Request → MailboxState
with_request mailbox request = record {
  waiting = mailbox.waiting ++ request ∷ [];
  outstanding = mailbox.outstanding + 1;
  closed = mailbox.closed;
  capacity = mailbox.capacity;
}

-- a refused post changes nothing
abbrev pub after_post : MailboxState → Request → MailboxState
after_post mailbox request =
    if is_none (post_fault mailbox) then with_request mailbox request else mailbox

-- the oldest request is out, and stays outstanding
abbrev pub after_take : MailboxState → MailboxState
after_take mailbox = record {
  waiting = drop 1 mailbox.waiting;
  outstanding = mailbox.outstanding;
  closed = mailbox.closed;
  capacity = mailbox.capacity;
}

-- some request was taken whose acknowledgement is not collected yet
abbrev pub can_release : MailboxState → Bool
can_release mailbox = nat_lt (length mailbox.waiting) mailbox.outstanding

-- such an acknowledgement was collected
abbrev pub after_release : MailboxState → MailboxState
after_release mailbox = record {
  waiting = mailbox.waiting;
  outstanding = mailbox.outstanding - 1;
  closed = mailbox.closed;
  capacity = mailbox.capacity;
}

-- what waits when the mailbox is closed still waits
abbrev pub after_close : MailboxState → MailboxState
after_close mailbox = record {
  waiting = mailbox.waiting;
  outstanding = mailbox.outstanding;
  closed = true;
  capacity = mailbox.capacity;
}
