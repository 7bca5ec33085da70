-- The reach of the findings of a whole trace, by which the list of what is known is judged.
use Rattle.std.specs.Prelude.{List, [], ◌∷◌, Option, Some, None, if◌then◌else◌}
use Rattle.std.specs.BTreeMap.{get}
use Rattle.watch_causes.specs.declared.begun.Begun.{Begun}
use Rattle.watch_causes.specs.declared.finding.Finding.{Finding}
use Rattle.watch_causes.specs.declared.reach.Reach.{Reach}
use Rattle.watch_causes.specs.declared.known_reaches.KnownReaches.{KnownReaches}
use Rattle.watch_causes.specs.Findings.{finding_cmp, finding_of, is_same_finding}

abbrev pub reach_in : KnownReaches → Finding → Option Reach
reach_in reaches f = get finding_cmp reaches.findings f

-- by findings, and their reaches in the same order
abbrev pub reach_listed : List Begun → List Reach → Finding → Option Reach
reach_listed [] reaches f = None
reach_listed (b ∷ begun) [] f = None
reach_listed (b ∷ begun) (reach ∷ reaches) f =
    if is_same_finding (finding_of b.warning) f then Some reach else reach_listed begun reaches f
