-- What is reported at the end of each mailbox.
use Rattle.std.specs.Prelude.{ℕ, zero, suc, ◌≡◌, ◌+◌, ◌^◌, ◌<◌, ◌==◌, length, List, [], ◌∷◌, ◌++◌, map, Option, Some, None, All, if◌then◌else◌}
use Rattle.shoot.specs.Request.{Request}
use Rattle.board.specs.Ends.{OutboxState, InboxState, count_of}
use Rattle.board.specs.Ports.{PortState, cell}
use Rattle.board.specs.declared.report.PairReport.{PairReport}

-- what an end accepted, and what an end took
abbrev pub accepted_by : Option OutboxState → List Request
accepted_by None = []
accepted_by (Some outbox) = outbox.accepted

abbrev pub taken_by : Option InboxState → List Request
taken_by None = []
taken_by (Some inbox) = inbox.taken

-- what one of the ports accepted to another hart, and what that hart's port took of it
abbrev pub accepted_between : List PortState → ℕ → ℕ → List Request
accepted_between ports sender receiver =
    accepted_by (cell (map (λ port. port.outboxes) ports) sender receiver)

abbrev pub taken_between : List PortState → ℕ → ℕ → List Request
taken_between ports sender receiver =
    taken_by (cell (map (λ port. port.inboxes) ports) receiver sender)

-- the ordered pairs of different harts, by sender and then by receiver
abbrev pub pairs_to : ℕ → ℕ → List (ℕ × ℕ)
pairs_to sender zero = []
pairs_to sender (suc receiver) =
    pairs_to sender receiver ++ (if receiver == sender then [] else (sender, receiver) ∷ [])

abbrev pub pairs_of : ℕ → ℕ → List (ℕ × ℕ)
pairs_of harts zero = []
pairs_of harts (suc sender) = pairs_of harts sender ++ pairs_to sender harts

-- what was accepted is what was taken, followed by what waits, and the counts are their lengths
pub record IsReportOf (ports : List PortState) (pair : PairReport) : Type 0 where
  pub order : accepted_between ports pair.sender pair.receiver
      ≡ taken_between ports pair.sender pair.receiver ++ pair.waiting.items
  pub accepted_count : pair.accepted ≡ count_of (accepted_between ports pair.sender pair.receiver)
  pub taken_count : pair.taken ≡ count_of (taken_between ports pair.sender pair.receiver)

-- each pair has its report, in order
pub record IsReport (harts : ℕ) (ports : List PortState) (pairs : List PairReport) : Type 0 where
  pub pairs_are : map (λ pair. (pair.sender, pair.receiver)) pairs ≡ pairs_of harts harts
  pub each : All (IsReportOf ports) pairs

-- fewer requests than u64 counts are counted: those that were taken, and those that wait beside them
abbrev pub CountsAddUp : Type 0
CountsAddUp =
    (ports : List PortState) (pair : PairReport) → IsReportOf ports pair
    → length (accepted_between ports pair.sender pair.receiver) < 2 ^ 64
    → (pair.taken ≡ length (taken_between ports pair.sender pair.receiver))
    × (pair.accepted ≡ pair.taken + length pair.waiting.items)
