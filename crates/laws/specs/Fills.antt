-- Where the entries of a TLB come from: the Loads that ended a walk of the hart at a leaf.
use Rattle.std.specs.Prelude.{ℕ, ◌≡◌, true, Some, Ok}
use Rattle.walk.specs.declared.found_or_trap.Found.{Found}
use Rattle.tlb.specs.declared.store.Entry.{Entry}
use Rattle.tlb.specs.Answer.{entry_of}
use Rattle.history.specs.Setup.{Setup}
use Rattle.history.specs.Spaces.{asid_of}
use Rattle.history.specs.declared.event.Event.TheVariants.{Load}
use Rattle.history.specs.Turns.{Turn, History, is_filled}
use Rattle.history.specs.Harts.{Walking, walk_of, space_of, outcome_of}
use Rattle.history.specs.Acknowledgements.{is_acked}

-- the turn is a Load of the hart that finds a leaf in the current words, and the entry is what it
-- fills
pub record Fills (setup : Setup) (hart : ℕ) (e : Entry) (turn : Turn)
    (before : History) : Type 0 where
  pub walk : Walking
  pub found : Found
  pub event : turn.event ≡ Load hart
  pub accepted : is_filled turn.reply ≡ true
  pub walking : walk_of before hart ≡ Some walk
  pub finds : outcome_of setup before (space_of before hart) walk ≡ Ok found
  pub is : e ≡ entry_of (asid_of setup before (space_of before hart)) found

-- the same, once the hart had acknowledged the order
abbrev pub FillsAcked : Setup → ℕ → ℕ → Entry → Turn → History → Type 0
FillsAcked setup order hart e turn before =
    (is_acked setup before order hart ≡ true) × Fills setup hart e turn before
