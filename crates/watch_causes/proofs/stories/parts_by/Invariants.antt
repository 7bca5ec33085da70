use Rattle.std.proofs.Common.{◌≡◌, ◌+◌, ◌++◌, drop}
use Rattle.std.specs.Prelude.{◌||◌}
use Rattle.watch_causes.specs.Stories.{is_named, parts_from}
use Rattle.watch_causes.proofs.stories.parts_by.Given as goal

abbrev pub invariant-loop-at : goal.invariant-loop-at
invariant-loop-at l =
    l.parts.items ++ parts_from l.scheme l.warning (λ number. l.fn.all || is_named l.records l.named number) (is_named l.records l.named) (l.at + 1) (drop l.at l.records)
    ≡ parts_from l.scheme l.warning (λ number. l.fn.all || is_named l.records l.named number) (is_named l.records l.named) 1 l.records
