use Rattle.std.proofs.Common.{◌≡◌, [], map, length}
use Rattle.std.specs.Prelude.{All}
use Rattle.harts.proofs.blank.Blank.new.Given as goal

abbrev pub invariant-loop-number : goal.invariant-loop-number
invariant-loop-number l = (map (λ t. t.name) l.turns.items ≡ map (λ x. x.half.name) l.lists.items) × (length l.lists.items ≡ l.number)
    × All (λ x. x.half.list ≡ []) l.lists.items × All (λ t. t.list ≡ []) l.turns.items
