use Rattle.std.proofs.Common.{leb, leb-true, leb-false, rules}
use Rattle.std.proofs.lemmas.List.Sorted.{IsPartitionPoint-from_clause, IsPartitionedBy-leb}
use Rattle.watch_engine.specs.declared.left.Left.{Left}
use Rattle.watch_engine.proofs.left_spaces.count_up_to.Goals as goal

pub returns-clause-place : goal.returns-clause-place
returns-clause-place c =
    let parted = IsPartitionedBy-leb (λ (l : Left). l.space.root) _ c.args.root c.requires in
    let point = IsPartitionPoint-from_clause (λ (l : Left). leb l.space.root c.args.root) _ _ c.partition_point.ensures.partitioned parted (λ a r q k. search rules) in
    ((λ k d from early. leb-true _ _ (point.0 k d from early)), (λ k d from within. leb-false _ _ (point.1 k d from within)))
