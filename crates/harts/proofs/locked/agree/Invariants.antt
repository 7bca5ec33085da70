use Rattle.std.proofs.Common.{◌≡◌, map, vec_len}
use Rattle.harts.proofs.locked.agree.Given as goal

-- what is left has one list of names, and if it has one list of lists, then so has all
abbrev pub invariant-loop-list : goal.invariant-loop-list
invariant-loop-list g l = (map (λ x. x.half.name) l.lists.items ≡ map (λ tally. tally.turns.name) l.tallies.items)
    × (map (λ x. x.half.list) l.lists.items ≡ map (λ tally. tally.turns.list) l.tallies.items → map (λ x. x.half.list) l.fn.lists.items ≡ map (λ tally. tally.turns.list) l.fn.tallies.items)

abbrev pub decreases-loop-list : goal.decreases-loop-list
decreases-loop-list g l = vec_len l.lists
