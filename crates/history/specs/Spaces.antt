-- What a history leaves of a space: whether it is live, retiring or free, its ASID, and which spare
-- frames are in use for it.
use Rattle.std.specs.Prelude.{ℕ, Bool, true, false, ◌==◌, ◌&&◌, [], ◌∷◌, length, Option, Some, None, slice_index, if◌then◌else◌}
use Rattle.spaces.specs.declared.places.Place.{Place}
use Rattle.spaces.specs.declared.places.Place.TheVariants.{Space, Kernel}
use Rattle.spaces.specs.Holders.{given_back}
use Rattle.history.specs.Setup.{Setup}
use Rattle.history.specs.declared.event.Event.{Event}
use Rattle.history.specs.declared.event.Event.TheVariants.{Map, Retire, Reclaim, Create}
use Rattle.history.specs.declared.reply.Reply.{Reply}
use Rattle.history.specs.Turns.{History, is_ok, is_opened, is_table_at}

-- a retiring space is so since the order at this place of the history
pub data Status : Type 0 where
  Live : Status
  Retires : ℕ → Status
  Free : Status

abbrev pub status_after : Event → Reply → ℕ → ℕ → Status → Status
status_after (Retire hart space) reply place s old =
    if is_opened reply && (space == s) then Retires place else old
status_after (Reclaim hart space) reply place s old =
    if is_ok reply && (space == s) then Free else old
status_after (Create hart space asid) reply place s old =
    if is_ok reply && (space == s) then Live else old
status_after _ reply place s old = old

abbrev pub status_of : History → ℕ → Status
status_of [] s = Live
status_of (turn ∷ history) s =
    status_after turn.event turn.reply (length history) s (status_of history s)

abbrev pub is_free : Status → Bool
is_free Free = true
is_free _ = false

abbrev pub is_retiring : Status → Bool
is_retiring (Retires order) = true
is_retiring _ = false

-- the ASID of the last accepted Create, else that of the opening
abbrev pub asid_after : Event → Reply → ℕ → ℕ → ℕ
asid_after (Create hart space asid) reply s old = if is_ok reply && (space == s) then asid else old
asid_after _ reply s old = old

abbrev pub asid_of : Setup → History → ℕ → ℕ
asid_of setup [] s = slice_index setup.asids s
asid_of setup (turn ∷ history) s = asid_after turn.event turn.reply s (asid_of setup history s)

-- the ASID of a page of a place; one of the kernel is for every ASID
abbrev pub asid_in : Setup → History → Place → Option ℕ
asid_in setup history (Space s) = Some (asid_of setup history s)
asid_in setup history Kernel = None

-- the place that a spare frame is in use for: that of the Map which was answered with it, until the
-- space is reclaimed
abbrev pub holder_after : Event → Reply → ℕ → Option Place → Option Place
holder_after (Map hart place page ppn flags) reply frame old =
    if is_table_at reply frame then Some place else old
holder_after (Reclaim hart space) reply frame old =
    if is_ok reply then given_back old space else old
holder_after _ reply frame old = old

abbrev pub holder_of : History → ℕ → Option Place
holder_of [] frame = None
holder_of (turn ∷ history) frame =
    holder_after turn.event turn.reply frame (holder_of history frame)
