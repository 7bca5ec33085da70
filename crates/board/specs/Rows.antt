-- The ends of one hart in a row, by the numbers of the other harts, as a board is opened.
use Rattle.std.specs.Prelude.{ℕ, ◌≡◌, ◌≢◌, ◌<◌, ◌==◌, ◌++◌, List, [], length, map, Option, Some, None, slice_get, is_some, IsTrue, if◌then◌else◌}
use Rattle.std.specs.Global.{Vec}
use Rattle.std.specs.Option.{option_map}
use Rattle.std.specs.List.{range_with_len}
use Rattle.shoot.specs.Request.{Request}
use Rattle.board.specs.Ends.{OutboxState, InboxState, count_of, new_outbox, new_inbox}
use Rattle.board.specs.Ports.{End, end_of_outbox, end_of_inbox, element}
use Rattle.board.specs.Reports.{accepted_by, taken_by}
use Rattle.board.specs.declared.report.PairReport.{PairReport}

abbrev pub new_outbox_of : End → OutboxState
new_outbox_of e = new_outbox e.ring e.capacity

abbrev pub new_inbox_of : End → InboxState
new_inbox_of e = new_inbox e.ring e.capacity

abbrev pub capacity_of : Option End → Option ℕ
capacity_of e = option_map (λ e'. e'.capacity) e

-- the capacity from one hart to another
abbrev pub capacity_between : ℕ → ℕ → ℕ → Option ℕ
capacity_between capacity hart other = if other == hart then None else Some capacity

-- the first `count` ends of a hart, each just opened
pub record IsRow {X : Type 0} (name : X → End) (new : End → X) (capacity hart count : ℕ)
    (row : List (Option X)) : Type 0 where
  pub capacities : map capacity_of (map (option_map name) row)
      ≡ map (capacity_between capacity hart) (range_with_len 0 count)
  pub are_new : row ≡ map (option_map new) (map (option_map name) row)

abbrev pub IsOutRow : ℕ → ℕ → ℕ → List (Option OutboxState) → Type 0
IsOutRow capacity hart count row = IsRow end_of_outbox new_outbox_of capacity hart count row

abbrev pub IsInRow : ℕ → ℕ → ℕ → List (Option InboxState) → Type 0
IsInRow capacity hart count row = IsRow end_of_inbox new_inbox_of capacity hart count row

-- the row of a number, empty if there is none
abbrev pub items_of : {X : Type 0} → Option (Vec X) → List X
items_of None = []
items_of (Some row) = row.items

abbrev pub items_at : {X : Type 0} → List (Vec X) → ℕ → List X
items_at rows number = items_of (slice_get rows number)

-- the end from one hart to another and the end by which that takes from it are of one ring
abbrev pub AreLinked : List (Vec (Option OutboxState)) → List (Vec (Option InboxState)) → ℕ → ℕ
    → Type 0
AreLinked outs ins sender receiver =
    option_map end_of_outbox (element (items_at outs sender) receiver)
    ≡ option_map end_of_inbox (element (items_at ins receiver) sender)

-- a row for each hart, all of them just opened
pub record IsNet (capacity harts : ℕ) (outs : List (Vec (Option OutboxState)))
    (ins : List (Vec (Option InboxState))) : Type 0 where
  pub out_rows : length outs ≡ harts
  pub in_rows : length ins ≡ harts
  pub outs_are : (hart : ℕ) → hart < harts → IsOutRow capacity hart harts (items_at outs hart)
  pub ins_are : (hart : ℕ) → hart < harts → IsInRow capacity hart harts (items_at ins hart)
  pub linked : (sender receiver : ℕ) → sender < harts → receiver < harts
      → AreLinked outs ins sender receiver

-- a row for each hart, with an end to each other one or from it
pub record AreEnds (harts : ℕ) (outs : List (Vec (Option OutboxState)))
    (ins : List (Vec (Option InboxState))) : Type 0 where
  pub out_rows : length outs ≡ harts
  pub in_rows : length ins ≡ harts
  pub outs_long : (hart : ℕ) → hart < harts → length (items_at outs hart) ≡ harts
  pub ins_long : (hart : ℕ) → hart < harts → length (items_at ins hart) ≡ harts
  pub are_there : (sender receiver : ℕ) → sender < harts → receiver < harts → receiver ≢ sender
      → IsTrue (is_some (element (items_at outs sender) receiver))
  pub linked : (sender receiver : ℕ) → AreLinked outs ins sender receiver

-- what the end from one hart to another accepted, and what the end by which that takes from it took
abbrev pub accepted_in : List (Vec (Option OutboxState)) → ℕ → ℕ → List Request
accepted_in outs sender receiver = accepted_by (element (items_at outs sender) receiver)

abbrev pub taken_in : List (Vec (Option InboxState)) → ℕ → ℕ → List Request
taken_in ins sender receiver = taken_by (element (items_at ins receiver) sender)

-- the report of a pair of these ends
pub record IsPairOf (outs : List (Vec (Option OutboxState))) (ins : List (Vec (Option InboxState)))
    (pair : PairReport) : Type 0 where
  pub order : accepted_in outs pair.sender pair.receiver
      ≡ taken_in ins pair.sender pair.receiver ++ pair.waiting.items
  pub accepted_count : pair.accepted ≡ count_of (accepted_in outs pair.sender pair.receiver)
  pub taken_count : pair.taken ≡ count_of (taken_in ins pair.sender pair.receiver)
