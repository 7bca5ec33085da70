-- Histories of one mailbox: the calls on it with their answers, newest first, and what can be
-- read out of them.
use Rattle.std.specs.Prelude.{◌≡◌, ℕ, ◌+◌, Bool, true, false, List, [], ◌∷◌, ◌++◌, Option, Some, Result, Ok, IsTrue}
use Rattle.std.specs.List.{list_any}
use Rattle.shoot.specs.Request.{Request}
use Rattle.shoot.specs.Mailbox.{MailboxState, empty_mailbox, post_answer, first_waiting, can_release, after_post, after_take, after_release, after_close}
use Rattle.shoot.specs.declared.mailbox.PostFault.{PostFault}

-- a call, with its answer where it has one
pub data MailboxCall : Type 0 where
  Post : Request → Result (Unit {0}) (PostFault × Request) → MailboxCall
  Take : Option Request → MailboxCall
  Release : MailboxCall
  Close : MailboxCall

-- the requests that were accepted, in the order of their posts
abbrev pub accepted_by : MailboxCall → List Request
accepted_by (Post request (Ok done)) = request ∷ []
accepted_by turn = []

abbrev pub accepted_by_calls : List MailboxCall → List Request
accepted_by_calls [] = []
accepted_by_calls (turn ∷ earlier) = accepted_by_calls earlier ++ accepted_by turn

-- the requests that were taken, in that order
abbrev pub taken_by : MailboxCall → List Request
taken_by (Take (Some request)) = request ∷ []
taken_by turn = []

abbrev pub taken_by_calls : List MailboxCall → List Request
taken_by_calls [] = []
taken_by_calls (turn ∷ earlier) = taken_by_calls earlier ++ taken_by turn

-- how many acknowledgements were collected
abbrev pub released : List MailboxCall → ℕ
released [] = 0
released (Release ∷ earlier) = released earlier + 1
released (turn ∷ earlier) = released earlier

-- the mailbox was closed
abbrev pub is_close : MailboxCall → Bool
is_close Close = true
is_close turn = false

abbrev pub is_closed_by_calls : List MailboxCall → Bool
is_closed_by_calls history = list_any is_close history

-- what a call leaves, and what a history leaves of a new mailbox
abbrev pub after_turn : MailboxState → MailboxCall → MailboxState
after_turn mailbox (Post request answer) = after_post mailbox request
after_turn mailbox (Take answer) = after_take mailbox
after_turn mailbox Release = after_release mailbox
after_turn mailbox Close = after_close mailbox

abbrev pub mailbox_after : ℕ → List MailboxCall → MailboxState
mailbox_after capacity [] = empty_mailbox capacity
mailbox_after capacity (turn ∷ earlier) = after_turn (mailbox_after capacity earlier) turn

-- the call may be made and is answered so
abbrev pub IsDue : MailboxState → MailboxCall → Type 0
IsDue mailbox (Post request answer) = answer ≡ post_answer mailbox request
IsDue mailbox (Take answer) = answer ≡ first_waiting mailbox
IsDue mailbox Release = IsTrue (can_release mailbox)
IsDue mailbox Close = Unit {0}

abbrev pub IsLawful : ℕ → List MailboxCall → Type 0
IsLawful capacity [] = Unit {0}
IsLawful capacity (turn ∷ earlier) =
    IsLawful capacity earlier × IsDue (mailbox_after capacity earlier) turn

-- the mailbox is what the history leaves of a new one of its capacity
pub record IsLeftBy (mailbox : MailboxState) (history : List MailboxCall) : Type 0 where
  pub lawful : IsLawful mailbox.capacity history
  pub left : mailbox ≡ mailbox_after mailbox.capacity history
