-- The words of reasons and of reaches.
use Rattle.std.specs.Prelude.{ℕ, List, codes}
use Rattle.watch_causes.specs.declared.reach.Reach.{Reach}
use Rattle.watch_causes.specs.declared.reach.Reach.TheVariants.{Used, Reachable, NotReached}
use Rattle.watch_causes.specs.declared.reason.Reason.{Reason}
use Rattle.watch_causes.specs.declared.reason.Reason.TheVariants.{NoFlush, NoFence, OtherHarts, OtherSpaces, OtherPages, NotDone}

abbrev pub reason_word : Reason → List ℕ
reason_word NoFlush = codes "no-flush"
reason_word NoFence = codes "no-fence"
reason_word OtherHarts = codes "other-hart"
reason_word OtherSpaces = codes "other-asid"
reason_word OtherPages = codes "other-page"
reason_word NotDone = codes "not-done"

abbrev pub reach_word : Reach → List ℕ
reach_word Used = codes "used"
reach_word Reachable = codes "reachable"
reach_word NotReached = codes "not-reached"
