-- What `stale` prints of a run from a machine that was just opened.
use Rattle.std.specs.Prelude.{ℕ, Bool, ◌≡◌, ◌<◌, ◌↔◌, IsTrue, List, []}
use Rattle.tlb.specs.declared.store.Entry.{Entry}
use Rattle.tlb.specs.Mappings.{Mapping}
use Rattle.history.specs.Setup.{Setup}
use Rattle.history.specs.declared.event.Event.{Event}
use Rattle.stale.specs.declared.items.StaleAt.{StaleAt}
use Rattle.stale.specs.Told.{BecomesBy, EntryBecomesBy, InOrder, IsToldBecoming, IsToldEntry, IsToldOrder, IsToldUse, OpensBy, TellsOnce, UsedBy}
use Rattle.scenario.specs.StaleLines.{stale_lines, uses_in}

-- the lines are those of items that name each mapping that becomes stale and each stale one that is
-- used, and no other, by the number of the step and in the order of the steps; of each step there
-- is one item for each entry of a hart some of whose mappings become stale, and at most one use; so
-- the numbers in the last line are those of such entries, step by step, and of uses; and `used`
-- says whether one is used
pub record Prints (setup : Setup) (events : List Event) (lines : List ℕ)
    (used : Bool) : Type 0 where
  pub items : List StaleAt
  pub are : lines ≡ stale_lines items
  pub in_order : InOrder items
  pub once : TellsOnce items
  pub some_used : IsTrue used ↔ (0 < uses_in items)
  pub becoming : (number hart : ℕ) (m : Mapping) → BecomesBy setup [] events number hart m
      ↔ IsToldBecoming items number hart m
  pub entries : (number hart : ℕ) (e : Entry) → EntryBecomesBy setup [] events number hart e
      ↔ IsToldEntry items number hart e
  pub uses : (number hart : ℕ) (m : Mapping) → UsedBy setup [] events number hart m
      ↔ IsToldUse items number hart m
  pub orders : (number home ticket : ℕ) → IsToldOrder items number home ticket
      → OpensBy setup [] events number home ticket
