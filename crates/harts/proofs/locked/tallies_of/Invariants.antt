use Rattle.std.proofs.Common.{◌≡◌, [], ◌++◌, length, map}
use Rattle.std.specs.Prelude.{All}
use Rattle.std.specs.Vec.Iter.{into_iter_items, into_iter_len}
use Rattle.harts.proofs.locked.tallies_of.Given as goal

abbrev pub invariant-loop-one : goal.invariant-loop-one
invariant-loop-one g l = (map (λ tally. tally.turns.name) l.tallies.items ++ map (λ t. t.name) (into_iter_items l.one-iterator) ≡ g.C.Named.lists)
    × All (λ tally. tally.turns.list ≡ []) l.tallies.items
    × All (λ t. t.list ≡ []) (into_iter_items l.one-iterator)
    × (into_iter_len l.one-iterator ≡ length (into_iter_items l.one-iterator))
