use Rattle.std.proofs.Common.{ltb, ltb-true, ltb-false, rules}
use Rattle.std.proofs.lemmas.List.Sorted.{IsPartitionPoint-from_clause, IsPartitionedBy-ltb}
use Rattle.watch_causes.proofs.concerned.count_below.Goals as goal

pub returns-clause-place : goal.returns-clause-place
returns-clause-place c = λ rises.
    let parted = IsPartitionedBy-ltb (λ p. p) _ c.args.start rises in
    let point = IsPartitionPoint-from_clause (λ p. ltb p c.args.start) _ _ c.partition_point.ensures.partitioned parted (λ a r q k. search rules) in
    ((λ k d from early. ltb-true _ _ (point.0 k d from early)), (λ k d from within. ltb-false _ _ (point.1 k d from within)))
